use Rattle.std.proofs.Common.{sym, Option, ap, ◌∙◌}
use Rattle.session_core.specs.declared.stage.SessionDue.{SessionDue}
use Rattle.session_core.specs.Closing.{after_due, first_due}
use Rattle.session_core.specs.Session.{SessionState}
use Rattle.session_table.specs.Table.{Table, in_session, of_session}
use Rattle.session_table.proofs.Changing.{session_changed, unchanged, due_keeps}
use Rattle.session_table.proofs.table.SessionTable.note_due.Goals as goal

pub settle-requires : goal.settle-requires
settle-requires c = (session_changed (λ (x : SessionState). after_due (first_due x c.args.moment) c.args.moment x) c.self.inside.kept.rows c.args.near c.in-Some.slot c.index_mut.result.now c.due.new.self c.self.invariant
    c.in-Some.ensures.found c.index_mut.ensures.value (c.due.ensures.session ∙ ap (λ (d : Option SessionDue). after_due d c.args.moment c.index_mut.result.now.session) c.due.ensures.answer) (due_keeps (first_due c.index_mut.result.now.session c.args.moment) c.args.moment c.index_mut.result.now.session)).loose

pub returns-in-Some : goal.returns-in-Some
returns-in-Some c = c.settle.ensures.table ∙ (session_changed (λ (x : SessionState). after_due (first_due x c.args.moment) c.args.moment x) c.self.inside.kept.rows c.args.near c.in-Some.slot c.index_mut.result.now c.due.new.self c.self.invariant
    c.in-Some.ensures.found c.index_mut.ensures.value (c.due.ensures.session ∙ ap (λ (d : Option SessionDue). after_due d c.args.moment c.index_mut.result.now.session) c.due.ensures.answer) (due_keeps (first_due c.index_mut.result.now.session c.args.moment) c.args.moment c.index_mut.result.now.session)).table
    ∙ ap (λ (t : Table). in_session (λ (x : SessionState). after_due (first_due x c.args.moment) c.args.moment x) t.rows c.args.near) c.self.view_is

pub returns-in_default : goal.returns-in_default
returns-in_default c = ap (λ (t : Table). t.rows) (sym c.self.view_is) ∙ unchanged (of_session (λ (x : SessionState). after_due (first_due x c.args.moment) c.args.moment x)) c.self.inside.kept.rows c.args.near c.self.invariant c.in_default.ensures.found
    ∙ ap (λ (t : Table). in_session (λ (x : SessionState). after_due (first_due x c.args.moment) c.args.moment x) t.rows c.args.near) c.self.view_is
