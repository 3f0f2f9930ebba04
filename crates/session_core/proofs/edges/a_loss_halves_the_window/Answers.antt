use Rattle.std.proofs.Common.{rules}
use Rattle.session_core.proofs.edges.a_loss_halves_the_window.Goals as goal

pub returns-clause-by_time : goal.returns-clause-by_time
returns-clause-by_time c = search rules

pub returns-clause-by_time_least : goal.returns-clause-by_time_least
returns-clause-by_time_least c = search rules
