use Rattle.std.proofs.Common.{◌≡◌, length}
use Rattle.rtmfp_text.specs.Names.{peer_text}
use Rattle.rtmfp_text.proofs.names.push_peer.Given as goal

abbrev pub invariant-loop-rest : goal.invariant-loop-rest
invariant-loop-rest l = (peer_text l.rest l.print ≡ peer_text l.ends l.print) × (l.text ≡ l.fn.text)

abbrev pub decreases-loop-rest : goal.decreases-loop-rest
decreases-loop-rest l = length l.rest
