use Rattle.std.proofs.Common.{subst, map}
use Rattle.log_sent.specs.Piece.{sealed_of}
use Rattle.log_sent.specs.Pieces.{SealedSet, HasOneMore}
use Rattle.log_sent.proofs.Keys.{one_more_key}
use Rattle.log_sent.proofs.pieces.Pieces.put.Goals as goal

pub returns-clause-more : goal.returns-clause-more
returns-clause-more c =
    subst (λ (s : SealedSet). HasOneMore (record { datagram = c.args.datagram.now; context = c.args.context.now }) s.each (map sealed_of c.insert.new.self.keys)) c.self.view_is
    (one_more_key (record { datagram = c.args.datagram; context = c.args.context }) c.self.inside.set.keys c.insert.new.self.keys c.in-Ok.ensures.updates.0)
