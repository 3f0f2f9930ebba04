use Rattle.std.proofs.Common.{◌≡◌, ◌-◌, length, drop}
use Rattle.flow_send.specs.Slots.{waiting_in}
use Rattle.flow_send.proofs.slots.next.Given as goal

abbrev pub invariant-loop-found : goal.invariant-loop-found
invariant-loop-found l = waiting_in (drop l.at l.slots.items) ≡ waiting_in (drop l.from l.slots.items)

abbrev pub decreases-loop-found : goal.decreases-loop-found
decreases-loop-found l = length l.slots.items - l.at
