use Rattle.std.proofs.Common.{rules}
use Rattle.end_chunks.proofs.chunks.answer_hello.Goals as goal

-- so that a wrong body is refused fast
pub returns-clause-ok : goal.returns-clause-ok
returns-clause-ok c = search rules
