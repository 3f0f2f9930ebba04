use Rattle.std.proofs.Common.{◌≡◌, length}
use Rattle.rtmfp_fragments.specs.Held.{kept_at, is_known}
use Rattle.rtmfp_fragments.proofs.reassembly.is_known.Given as goal

abbrev pub invariant-loop-rest : goal.invariant-loop-rest
invariant-loop-rest l = is_known l.id (kept_at l.moment l.rest) ≡ is_known l.id (kept_at l.moment l.packets)

abbrev pub decreases-loop-rest : goal.decreases-loop-rest
decreases-loop-rest l = length l.rest
