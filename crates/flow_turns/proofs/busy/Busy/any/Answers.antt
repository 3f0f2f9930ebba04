use Rattle.std.proofs.Common.{ℕ, List, subst}
use Rattle.flow_turns.specs.Busy.{HasAny}
use Rattle.flow_turns.proofs.busy.Busy.any.Goals as goal

pub returns : goal.returns
returns c = subst (λ (ws : List ℕ). HasAny ws c.any_in.result) c.self.view_is c.any_in.ensures
