use Rattle.std.proofs.Common.{◌≡◌}
use Rattle.endpoint_model.specs.FlowTimes.{late_marked}
use Rattle.keyed_slab.specs.Walks.{AreChanged}
use Rattle.session_table.proofs.flow_times.lose_in_slots.Given as goal

abbrev pub invariant-loop-index : goal.invariant-loop-index
invariant-loop-index l = AreChanged (late_marked l.moment) l.initial.rows.things l.rows.things l.slots l.index × (l.rows.generations ≡ l.initial.rows.generations)
