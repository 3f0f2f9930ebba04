use Rattle.std.proofs.Common.{subst, map}
use Rattle.log_sent.specs.Piece.{sealed_of}
use Rattle.log_sent.specs.Pieces.{SealedSet, AreTheSame}
use Rattle.log_sent.proofs.Keys.{reordered}
use Rattle.log_sent.proofs.pieces.Pieces.reserve.Goals as goal

pub returns-clause-same : goal.returns-clause-same
returns-clause-same c =
    subst (λ (s : SealedSet). AreTheSame s.each (map sealed_of c.try_reserve.new.self.keys)) c.self.view_is
    (reordered c.self.inside.set.keys c.try_reserve.new.self.keys c.try_reserve.ensures.keys.0)
