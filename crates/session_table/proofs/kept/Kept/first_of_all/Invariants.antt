use Rattle.endpoint_model.specs.FlowTimes.{is_row_due}
use Rattle.keyed_slab.specs.Walks.{IsBestOf, IsLookedAt}
use Rattle.session_table.specs.Table.{near_of}
use Rattle.session_table.proofs.kept.Kept.first_of_all.Given as goal

abbrev pub invariant-loop-index : goal.invariant-loop-index
invariant-loop-index l = IsBestOf near_of (is_row_due l.moment) l.self.rows.things (IsLookedAt l.self.deadlines l.moment l.slots l.index) l.best
