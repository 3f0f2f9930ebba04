use Rattle.std.proofs.Common.{◌≡◌, length}
use Rattle.rtmfp_report.specs.NonceText.{without_zeros}
use Rattle.rtmfp_report.proofs.nonces.push_without_zeros.Given as goal

abbrev pub invariant-loop-rest : goal.invariant-loop-rest
invariant-loop-rest l = (without_zeros l.rest ≡ without_zeros l.digits) × (l.text ≡ l.fn.text)

abbrev pub decreases-loop-rest : goal.decreases-loop-rest
decreases-loop-rest l = length l.rest
