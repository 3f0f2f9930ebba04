use Rattle.std.proofs.Common.{sym, refl, ap, ◌∙◌}
use Rattle.session_core.specs.Hearing.{counted}
use Rattle.session_core.specs.Session.{SessionState}
use Rattle.session_table.specs.Table.{Table, in_session, of_session}
use Rattle.session_table.proofs.Changing.{session_changed, unchanged}
use Rattle.session_table.proofs.table.SessionTable.take_number.Goals as goal

pub settle-requires : goal.settle-requires
settle-requires c = (session_changed (λ (x : SessionState). counted x c.args.part.now) c.self.inside.kept.rows c.args.near c.in-Some.slot c.index_mut.result.now c.take_number.new.self c.self.invariant
    c.in-Some.ensures.found c.index_mut.ensures.value c.take_number.ensures refl).loose

pub returns-in-Some : goal.returns-in-Some
returns-in-Some c = c.settle.ensures.table ∙ (session_changed (λ (x : SessionState). counted x c.args.part.now) c.self.inside.kept.rows c.args.near c.in-Some.slot c.index_mut.result.now c.take_number.new.self c.self.invariant
    c.in-Some.ensures.found c.index_mut.ensures.value c.take_number.ensures refl).table
    ∙ ap (λ (t : Table). in_session (λ (x : SessionState). counted x c.args.part.now) t.rows c.args.near) c.self.view_is

pub returns-in_default : goal.returns-in_default
returns-in_default c = ap (λ (t : Table). t.rows) (sym c.self.view_is) ∙ unchanged (of_session (λ (x : SessionState). counted x c.args.part.now)) c.self.inside.kept.rows c.args.near c.self.invariant c.in_default.ensures.found
    ∙ ap (λ (t : Table). in_session (λ (x : SessionState). counted x c.args.part.now) t.rows c.args.near) c.self.view_is
