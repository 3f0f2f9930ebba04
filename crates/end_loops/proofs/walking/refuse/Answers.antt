use Rattle.std.proofs.Common.{rules}
use Rattle.end_loops.proofs.walking.refuse.Goals as goal

-- so that a wrong body is refused fast
pub returns-in-Err-clause-enough : goal.returns-in-Err-clause-enough
returns-in-Err-clause-enough c = search rules
