use Rattle.std.proofs.Common.{rules}
use Rattle.end_chunks.proofs.chunks.apply.Goals as goal

-- so that a wrong body is refused fast
pub returns-in-Quiet-clause-quiet : goal.returns-in-Quiet-clause-quiet
returns-in-Quiet-clause-quiet c = search rules
