use Rattle.std.proofs.Common.{rules}
use Rattle.log_sent.proofs.piece.PiecePartialEq.eq.Goals as goal

pub returns-then-eq : goal.returns-then-eq
returns-then-eq c = search rules
