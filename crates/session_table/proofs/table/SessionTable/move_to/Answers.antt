use Rattle.std.proofs.Common.{Option, refl, sym, ap, ◌∙◌}
use Rattle.mobility.specs.declared.pending.Test.{Test}
use Rattle.session_core.specs.Session.{SessionState, moved_to}
use Rattle.session_table.specs.Table.{Table, in_row, moved}
use Rattle.session_table.proofs.Changing.{changed_at, unchanged}
use Rattle.session_table.proofs.table.SessionTable.move_to.Goals as goal

pub settle-requires : goal.settle-requires
settle-requires c = (changed_at (moved c.args.from.now c.args.bytes.now) c.self.inside.kept.rows c.args.near c.in-Some.slot c.index_mut-row.result.now (record c.index_mut-row.result.now { session = c.move_to.new.self; moves = c.reply.new.self }) c.self.invariant
    c.in-Some.ensures.found c.index_mut-row.ensures.value (ap (λ (x : SessionState). record c.index_mut-row.result.now { session = x; moves = c.reply.new.self }) c.move_to.ensures ∙ ap (λ (m : Option Test). record c.index_mut-row.result.now { session = moved_to c.args.from.now c.index_mut-row.result.now.session; moves = m }) c.reply.ensures.pending) refl).loose

pub returns-in-Some : goal.returns-in-Some
returns-in-Some c = c.settle.ensures.table ∙ (changed_at (moved c.args.from.now c.args.bytes.now) c.self.inside.kept.rows c.args.near c.in-Some.slot c.index_mut-row.result.now (record c.index_mut-row.result.now { session = c.move_to.new.self; moves = c.reply.new.self }) c.self.invariant
    c.in-Some.ensures.found c.index_mut-row.ensures.value (ap (λ (x : SessionState). record c.index_mut-row.result.now { session = x; moves = c.reply.new.self }) c.move_to.ensures ∙ ap (λ (m : Option Test). record c.index_mut-row.result.now { session = moved_to c.args.from.now c.index_mut-row.result.now.session; moves = m }) c.reply.ensures.pending) refl).table
    ∙ ap (λ (t : Table). in_row (moved c.args.from.now c.args.bytes.now) t.rows c.args.near) c.self.view_is

pub returns-in_default : goal.returns-in_default
returns-in_default c = ap (λ (t : Table). t.rows) (sym c.self.view_is) ∙ unchanged (moved c.args.from.now c.args.bytes.now) c.self.inside.kept.rows c.args.near c.self.invariant c.in_default.ensures.found
    ∙ ap (λ (t : Table). in_row (moved c.args.from.now c.args.bytes.now) t.rows c.args.near) c.self.view_is
