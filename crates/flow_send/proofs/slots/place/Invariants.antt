use Rattle.std.proofs.Common.{◌-◌, ◌≤◌, length}
use Rattle.flow_send.specs.Slots.{AreBelow, AreFrom}
use Rattle.flow_send.proofs.slots.place.Given as goal

abbrev pub invariant-loop-low : goal.invariant-loop-low
invariant-loop-low l = record {
  order : l.low ≤ l.high;
  there : l.high ≤ length l.slots.items;
  below : AreBelow l.number l.low l.slots.items;
  from : AreFrom l.number l.high l.slots.items;
}

abbrev pub decreases-loop-low : goal.decreases-loop-low
decreases-loop-low l = l.high - l.low
