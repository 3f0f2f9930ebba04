use Rattle.std.proofs.Common.{rules}
use Rattle.end_state.proofs.end_state.EndState.context_in_startup.Goals as goal

-- so that a wrong body is refused fast
pub returns-in-Some : goal.returns-in-Some
returns-in-Some c = search rules
