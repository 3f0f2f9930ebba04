use Rattle.std.proofs.Common.{rules}
use Rattle.startup.proofs.edges.an_attempt_is_over_after_95_seconds.Goals as goal

pub returns-clause-over : goal.returns-clause-over
returns-clause-over c = search rules

pub returns-clause-end : goal.returns-clause-end
returns-clause-end c = search rules

pub returns-clause-after_end : goal.returns-clause-after_end
returns-clause-after_end c = search rules

pub returns-clause-nothing_sent : goal.returns-clause-nothing_sent
returns-clause-nothing_sent c = search rules
