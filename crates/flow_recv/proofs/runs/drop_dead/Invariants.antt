use Rattle.std.proofs.Common.{◌≡◌, ◌+◌, ◌∷◌, ◌||◌}
use Rattle.std.specs.List.{filter}
use Rattle.rtmfp_data_chunks.specs.Runs.{Run}
use Rattle.flow_recv.specs.Receiver.{span, held_in}
use Rattle.flow_recv.specs.Keyed.{stays, is_left}
use Rattle.flow_recv.proofs.Walking.{left_numbers}
use Rattle.flow_recv.proofs.runs.drop_dead.Given as goal

abbrev pub invariant-loop-next : goal.invariant-loop-next
invariant-loop-next l = record {
  kept : l.runs ≡ filter (λ (y : Run). is_left l.next y || stays (span 0 l.through ∷ l.above) l.low l.high y) l.fn.runs;
  dropped : held_in l.runs + l.dropped ≡ held_in l.fn.runs;
}

abbrev pub decreases-loop-next : goal.decreases-loop-next
decreases-loop-next l = left_numbers l.next
