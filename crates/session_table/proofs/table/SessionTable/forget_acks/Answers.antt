use Rattle.std.proofs.Common.{◌∙◌}
use Rattle.session_flows.specs.Owing.{owing_none}
use Rattle.session_table.specs.Chunks.{of_flows}
use Rattle.session_table.proofs.Called.{stays_loose}
use Rattle.session_table.proofs.Taken.{flows_changed, same_rows}
use Rattle.session_table.proofs.table.SessionTable.forget_acks.Goals as goal

pub settle-requires : goal.settle-requires
settle-requires c = stays_loose c.args.self.now c.self.inside.kept.rows _ c.args.near c.in-Some.slot c.index_mut.result.now c.self.view_is c.self.invariant c.in-Some.ensures.found c.index_mut.ensures.value c.forget_acks.new.self

pub returns-in-Some : goal.returns-in-Some
returns-in-Some c = c.settle.ensures.table ∙ flows_changed c.args.self.now c.self.inside.kept.rows _ c.args.near c.in-Some.slot c.index_mut.result.now c.self.view_is c.self.invariant c.in-Some.ensures.found c.index_mut.ensures.value owing_none c.forget_acks.new.self c.forget_acks.ensures

pub returns-in_default : goal.returns-in_default
returns-in_default c = same_rows c.args.self.now c.self.inside.kept.rows _ c.args.near c.self.view_is c.self.invariant c.in_default.ensures.found (of_flows owing_none)
