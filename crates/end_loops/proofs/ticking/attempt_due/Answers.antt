use Rattle.std.proofs.Common.{rules}
use Rattle.end_loops.proofs.ticking.attempt_due.Goals as goal

-- so that a wrong body is refused fast
pub returns-in-Some-Ended-clause-ok : goal.returns-in-Some-Ended-clause-ok
returns-in-Some-Ended-clause-ok c = search rules

pub returns-in-Some-Unsought-clause-ok : goal.returns-in-Some-Unsought-clause-ok
returns-in-Some-Unsought-clause-ok c = search rules
