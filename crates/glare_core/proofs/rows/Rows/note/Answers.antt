use Rattle.std.proofs.Common.{rules, ◌≡◌, Some, None, true, is_some, ◌∙◌, ap}
use Rattle.std.specs.FinMap.{get, len, contains_key}
use Rattle.glare_core.specs.Standing.{peer_of}
use Rattle.glare_core.specs.Ledger.{PeerRows, row_or_blank}
use Rattle.glare_core.proofs.Tables.{found_row, rows_noted, known_after, len_noted}
use Rattle.glare_core.proofs.rows.Rows.note.Goals as goal

pub returns-in_default-clause-rows : goal.returns-in_default-clause-rows
returns-in_default-clause-rows c =
    let none : None ≡ get c.args.self.now c.of.result = found_row c.self.inside.map.entries c.args.self.now c.of.result None c.self.view_is c.in_default.ensures.value in
    let there : is_some (get c.args.self.now c.of.result) ≡ true = ap (λ p. contains_key c.args.self.now p) (c.of.ensures ∙ c.peer_of.ensures) ∙ c.requires in
    absurd (let never = ap is_some none ∙ there in cc)

pub returns-clause-rows : goal.returns-clause-rows
returns-clause-rows c =
    let found : Some c.in-Some.row.now ≡ get c.args.self.now c.of.result =
    found_row c.self.inside.map.entries c.args.self.now c.of.result (Some c.in-Some.row.now) c.self.view_is c.in-Some.ensures.value in
    rows_noted c.self.inside.map (c.get_mut.follows.lender c.row_after.result) c.args.fact.now c.args.self.now c.of.result c.row_after.result c.in-Some.row.now
    ((c.get_mut.follows.holds c.row_after.result).3 (search rules)) c.self.view_is (c.of.ensures ∙ c.peer_of.ensures) c.row_after.ensures
    (ap row_or_blank (found ∙ ap (get c.args.self.now) (c.of.ensures ∙ c.peer_of.ensures)))

pub returns-clause-known : goal.returns-clause-known
returns-clause-known c = ap (λ (rows : PeerRows). contains_key rows (peer_of c.args.fact.now)) (returns-clause-rows c) ∙ known_after c.args.fact.now c.args.self.now

pub returns-clause-len : goal.returns-clause-len
returns-clause-len c = ap (λ (rows : PeerRows). len rows) (returns-clause-rows c) ∙ len_noted c.args.fact.now c.args.self.now c.requires
