use Rattle.std.proofs.Common.{◌∙◌, ap, subst, sym, is_some, ◌≡◌, ◌∷◌, None}
use Rattle.std.specs.FinMap.{get}
use Rattle.glare_core.specs.Ledger.{row_in}
use Rattle.glare_core.proofs.Tables.{rows_noted, found_row}
use Rattle.fact_digest.specs.Roll.{Rolled, started_after, IsOfFacts}
use Rattle.fact_digest.proofs.Facts.{rows_in, one_more}
use Rattle.fact_digest.proofs.roll.Roll.add.Goals as goal

pub returns-in-Ok-clause-ok : goal.returns-in-Ok-clause-ok
returns-in-Ok-clause-ok c =
    let left = rows_noted c.self.inside.rows c.insert.new.self c.args.fact.now c.args.self.now.rows c.peer_of-peer.result c.row_after-row.result c.row.result
    c.in-Ok.ensures.updates (ap rows_in c.self.view_is) c.peer_of-peer.ensures c.row_after-row.ensures (c.row.ensures ∙ ap (row_in c.args.self.now.rows) c.peer_of-peer.ensures) in
    let counted = c.started_after-self-inside.ensures ∙ ap (λ (r : Rolled). started_after c.args.fact.now r.started) c.self.view_is in
    (λ i. record { started = counted i; rows = left i })

pub returns-in-Ok-clause-facts : goal.returns-in-Ok-clause-facts
returns-in-Ok-clause-facts c = λ own facts is stands. subst (IsOfFacts (c.args.fact.now ∷ facts)) (sym (returns-in-Ok-clause-ok c)) (one_more facts c.args.self.now is own c.args.fact.now stands)

pub returns-in-Err-clause-takes_none : goal.returns-in-Err-clause-takes_none
returns-in-Err-clause-takes_none c = λ known.
    let none : None ≡ get c.args.self.now.rows c.peer_of-peer.result = found_row c.self.inside.rows.entries c.args.self.now.rows c.peer_of-peer.result None (ap rows_in c.self.view_is) (sym c.in-Err.ensures.absent) in
    absurd (let never = ap is_some (none ∙ ap (get c.args.self.now.rows) c.peer_of-peer.ensures) ∙ known in cc)
