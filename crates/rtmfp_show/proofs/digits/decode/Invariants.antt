use Rattle.rtmfp_show.proofs.Pieces.{IsReadTo}
use Rattle.rtmfp_show.proofs.digits.decode.Given as goal

abbrev pub invariant-loop-piece : goal.invariant-loop-piece
invariant-loop-piece l = IsReadTo l.piece l.digits l.bytes
