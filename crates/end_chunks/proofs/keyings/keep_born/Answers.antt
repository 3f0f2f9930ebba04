use Rattle.std.proofs.Common.{rules}
use Rattle.end_chunks.proofs.keyings.keep_born.Goals as goal

-- so that a wrong body is refused fast
pub returns-in-Born : goal.returns-in-Born
returns-in-Born c = search rules
