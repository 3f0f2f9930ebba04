use Rattle.std.proofs.Common.{◌≡◌, length}
use Rattle.flow_send.specs.Slots.{IsLine, waiting_in}
use Rattle.flow_send.proofs.messages.Messages.trim_front.Given as goal

abbrev pub invariant-loop-front : goal.invariant-loop-front
invariant-loop-front l = record {
  line : IsLine l.self-inside.slots.items;
  waiting : waiting_in l.self-inside.slots.items ≡ l.fn.self;
  count : l.self-inside.waiting ≡ length l.fn.self;
}

abbrev pub decreases-loop-front : goal.decreases-loop-front
decreases-loop-front l = length l.self-inside.slots.items
