use Rattle.std.proofs.Common.{rules}
use Rattle.mobility.proofs.moves.Moves.reply.Goals as goal

pub returns-clause-answer : goal.returns-clause-answer
returns-clause-answer c = search rules

pub returns-clause-pending : goal.returns-clause-pending
returns-clause-pending c = search rules
