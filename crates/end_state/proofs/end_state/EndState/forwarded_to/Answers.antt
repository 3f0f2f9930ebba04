use Rattle.std.proofs.Common.{rules}
use Rattle.end_state.proofs.end_state.EndState.forwarded_to.Goals as goal

-- so that a wrong body is refused fast
pub returns-in-Some-HalfOpen : goal.returns-in-Some-HalfOpen
returns-in-Some-HalfOpen c = search rules
