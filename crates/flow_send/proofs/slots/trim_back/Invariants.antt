use Rattle.std.proofs.Common.{◌≡◌, length}
use Rattle.flow_send.specs.Slots.{IsLine, waiting_in}
use Rattle.flow_send.proofs.slots.trim_back.Given as goal

abbrev pub invariant-loop-last : goal.invariant-loop-last
invariant-loop-last l = record {
  line : IsLine l.slots.items;
  waiting : waiting_in l.slots.items ≡ waiting_in l.fn.slots.items;
}

abbrev pub decreases-loop-last : goal.decreases-loop-last
decreases-loop-last l = length l.slots.items
