use Rattle.std.proofs.Common.{rules}
use Rattle.end_state.proofs.end_state.EndState.is_free.Goals as goal

-- so that a wrong body is refused fast
pub returns-then-near-ne0 : goal.returns-then-near-ne0
returns-then-near-ne0 c = search rules
