use Rattle.std.proofs.Common.{sym, ap, ◌∙◌}
use Rattle.session_flows.specs.Keeping.{Did}
use Rattle.session_flows.specs.Handing.{hands_once}
use Rattle.session_table.specs.Chunks.{of_flows, handed_in}
use Rattle.session_table.proofs.Called.{stays_loose}
use Rattle.session_table.proofs.Taken.{flows_changed, told_is, told_none, same_rows}
use Rattle.session_table.proofs.table.SessionTable.hand_next.Goals as goal

pub settle-requires : goal.settle-requires
settle-requires c = stays_loose c.args.self.now c.self.inside.kept.rows _ c.args.near c.in-Some.slot c.index_mut.result.now c.self.view_is c.self.invariant c.in-Some.ensures.found c.index_mut.ensures.value c.hand_next-handed.new.self

pub returns-in-Some-clause-rows : goal.returns-in-Some-clause-rows
returns-in-Some-clause-rows c = c.settle.ensures.table ∙ flows_changed c.args.self.now c.self.inside.kept.rows _ c.args.near c.in-Some.slot c.index_mut.result.now c.self.view_is c.self.invariant c.in-Some.ensures.found c.index_mut.ensures.value (λ f. (hands_once f c.args.flow).flows) c.hand_next-handed.new.self (sym (ap (λ (d : Did). d.flows) c.hand_next-handed.ensures))

pub returns-in-Some-clause-stated : goal.returns-in-Some-clause-stated
returns-in-Some-clause-stated c = told_is c.args.self.now c.self.inside.kept.rows _ c.args.near c.in-Some.slot c.index_mut.result.now c.self.view_is c.self.invariant c.in-Some.ensures.found c.index_mut.ensures.value (handed_in c.args.flow) ∙ ap (λ (d : Did). d.stated) c.hand_next-handed.ensures

pub returns-in-None-clause-rows : goal.returns-in-None-clause-rows
returns-in-None-clause-rows c = same_rows c.args.self.now c.self.inside.kept.rows _ c.args.near c.self.view_is c.self.invariant c.in-None.ensures.found (of_flows (λ f. (hands_once f c.args.flow).flows))

pub returns-in-None-clause-stated : goal.returns-in-None-clause-stated
returns-in-None-clause-stated c = told_none c.args.self.now c.self.inside.kept.rows _ c.args.near c.self.view_is c.self.invariant c.in-None.ensures.found (handed_in c.args.flow)
