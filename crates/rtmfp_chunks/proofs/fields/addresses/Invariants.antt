use Rattle.std.proofs.Common.{length}
use Rattle.rtmfp_chunks.proofs.AddressLists.{Walked}
use Rattle.rtmfp_chunks.proofs.fields.addresses.Given as goal

abbrev pub invariant-loop-rest : goal.invariant-loop-rest
invariant-loop-rest l = Walked l.bytes l.rest

abbrev pub decreases-loop-rest : goal.decreases-loop-rest
decreases-loop-rest l = length l.rest
