use Rattle.std.proofs.Common.{sym, ap, ◌∙◌}
use Rattle.session_core.specs.Closing.{kept_alive}
use Rattle.session_table.specs.Table.{Table, in_session, of_session}
use Rattle.session_table.proofs.Changing.{session_changed, unchanged, keepalive_keeps}
use Rattle.session_table.proofs.table.SessionTable.note_keepalive.Goals as goal

pub settle-requires : goal.settle-requires
settle-requires c = (session_changed (kept_alive c.args.moment) c.self.inside.kept.rows c.args.near c.in-Some.slot c.index_mut.result.now c.keepalive.new.self c.self.invariant
    c.in-Some.ensures.found c.index_mut.ensures.value c.keepalive.ensures.session (keepalive_keeps c.args.moment c.index_mut.result.now.session)).loose

pub returns-in-Some : goal.returns-in-Some
returns-in-Some c = c.settle.ensures.table ∙ (session_changed (kept_alive c.args.moment) c.self.inside.kept.rows c.args.near c.in-Some.slot c.index_mut.result.now c.keepalive.new.self c.self.invariant
    c.in-Some.ensures.found c.index_mut.ensures.value c.keepalive.ensures.session (keepalive_keeps c.args.moment c.index_mut.result.now.session)).table
    ∙ ap (λ (t : Table). in_session (kept_alive c.args.moment) t.rows c.args.near) c.self.view_is

pub returns-in_default : goal.returns-in_default
returns-in_default c = ap (λ (t : Table). t.rows) (sym c.self.view_is) ∙ unchanged (of_session (kept_alive c.args.moment)) c.self.inside.kept.rows c.args.near c.self.invariant c.in_default.ensures.found
    ∙ ap (λ (t : Table). in_session (kept_alive c.args.moment) t.rows c.args.near) c.self.view_is
