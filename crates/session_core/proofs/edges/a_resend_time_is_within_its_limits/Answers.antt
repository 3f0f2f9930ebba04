use Rattle.std.proofs.Common.{rules}
use Rattle.session_core.proofs.edges.a_resend_time_is_within_its_limits.Goals as goal

pub returns-clause-least : goal.returns-clause-least
returns-clause-least c = search rules

pub returns-clause-below_least : goal.returns-clause-below_least
returns-clause-below_least c = search rules

pub returns-clause-at_least : goal.returns-clause-at_least
returns-clause-at_least c = search rules
