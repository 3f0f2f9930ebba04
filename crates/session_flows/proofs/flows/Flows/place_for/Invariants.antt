use Rattle.std.proofs.Common.{◌≡◌, ◌+◌, drop}
use Rattle.session_flows.specs.Places.{place_of}
use Rattle.session_flows.proofs.flows.Flows.place_for.Given as goal

abbrev pub invariant-loop-at : goal.invariant-loop-at
invariant-loop-at l = l.at + place_of l.flow (drop l.at l.row-items) ≡ place_of l.flow l.row-items
