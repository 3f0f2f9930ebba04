-- A key of the set as what it stands for.
use Rattle.log_sent.specs.declared.piece.Piece.{Piece}
use Rattle.log_sent.specs.Pieces.{Sealed}

abbrev pub sealed_of : Piece → Sealed
sealed_of p = record { datagram = p.datagram.now; context = p.context.now }
