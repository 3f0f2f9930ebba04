use Rattle.std.proofs.Common.{◌≡◌, ◌-◌, ◌^◌, ◌≤◌, length}
use Rattle.flow_send.specs.Slots.{IsLine, waiting_in}
use Rattle.flow_send.proofs.messages.Messages.join.Given as goal

abbrev pub invariant-loop-half : goal.invariant-loop-half
invariant-loop-half l = record {
  line : IsLine l.self-inside.slots.items;
  waiting : waiting_in l.self-inside.slots.items ≡ l.fn.self;
  count : l.self-inside.waiting ≡ length l.fn.self;
  some : 1 ≤ l.half;
}

abbrev pub decreases-loop-half : goal.decreases-loop-half
decreases-loop-half l = 2 ^ 64 - l.half
