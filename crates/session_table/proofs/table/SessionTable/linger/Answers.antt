use Rattle.std.proofs.Common.{sym, ap, ◌∙◌}
use Rattle.session_core.specs.Closing.{asked_to_close}
use Rattle.session_table.specs.Table.{Table, in_session, of_session}
use Rattle.session_table.proofs.Changing.{session_changed, unchanged, lingering_keeps}
use Rattle.session_table.proofs.table.SessionTable.linger.Goals as goal

pub settle-requires : goal.settle-requires
settle-requires c = (session_changed (asked_to_close c.args.moment) c.self.inside.kept.rows c.args.near c.in-Some.slot c.index_mut.result.now c.take_close_request.new.self c.self.invariant
    c.in-Some.ensures.found c.index_mut.ensures.value c.take_close_request.ensures.session (lingering_keeps c.args.moment c.index_mut.result.now.session)).loose

pub returns-in-Some : goal.returns-in-Some
returns-in-Some c = c.settle.ensures.table ∙ (session_changed (asked_to_close c.args.moment) c.self.inside.kept.rows c.args.near c.in-Some.slot c.index_mut.result.now c.take_close_request.new.self c.self.invariant
    c.in-Some.ensures.found c.index_mut.ensures.value c.take_close_request.ensures.session (lingering_keeps c.args.moment c.index_mut.result.now.session)).table
    ∙ ap (λ (t : Table). in_session (asked_to_close c.args.moment) t.rows c.args.near) c.self.view_is

pub returns-in_default : goal.returns-in_default
returns-in_default c = ap (λ (t : Table). t.rows) (sym c.self.view_is) ∙ unchanged (of_session (asked_to_close c.args.moment)) c.self.inside.kept.rows c.args.near c.self.invariant c.in_default.ensures.found
    ∙ ap (λ (t : Table). in_session (asked_to_close c.args.moment) t.rows c.args.near) c.self.view_is
