use Rattle.std.proofs.Common.{◌≡◌, ◌+◌, ◌∷◌, ◌||◌}
use Rattle.std.specs.List.{filter}
use Rattle.rtmfp_data_chunks.specs.Runs.{Run}
use Rattle.flow_recv.specs.Receiver.{span, held_in}
use Rattle.flow_recv.specs.Keyed.{stays, is_left}
use Rattle.flow_recv.proofs.Walking.{left_numbers}
use Rattle.flow_recv.proofs.runs.dying_bytes.Given as goal

abbrev pub invariant-loop-next : goal.invariant-loop-next
invariant-loop-next l = held_in (filter (λ (y : Run). is_left l.next y || stays (span 0 l.through ∷ l.above) l.low l.high y) l.runs) + l.dying ≡ held_in l.runs

abbrev pub decreases-loop-next : goal.decreases-loop-next
decreases-loop-next l = left_numbers l.next
