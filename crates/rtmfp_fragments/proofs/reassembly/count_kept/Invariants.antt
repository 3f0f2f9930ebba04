use Rattle.std.proofs.Common.{◌≡◌, ◌≤◌, ◌+◌, length}
use Rattle.rtmfp_fragments.specs.Held.{kept_at}
use Rattle.rtmfp_fragments.proofs.reassembly.count_kept.Given as goal

abbrev pub invariant-loop-rest : goal.invariant-loop-rest
invariant-loop-rest l = (l.count + length (kept_at l.moment l.rest) ≡ length (kept_at l.moment l.packets)) × (l.count + length l.rest ≤ length l.packets)

abbrev pub decreases-loop-rest : goal.decreases-loop-rest
decreases-loop-rest l = length l.rest
