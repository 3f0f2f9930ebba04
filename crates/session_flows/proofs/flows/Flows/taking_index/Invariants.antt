use Rattle.std.proofs.Common.{◌≡◌, drop}
use Rattle.session_flows.specs.Places.{index_from}
use Rattle.session_flows.proofs.flows.Flows.taking_index.Given as goal

abbrev pub invariant-loop-at : goal.invariant-loop-at
invariant-loop-at l = index_from l.at l.flow (drop l.at l.row-items) ≡ index_from 0 l.flow l.row-items
