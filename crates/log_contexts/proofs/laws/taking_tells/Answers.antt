use Rattle.log_contexts.proofs.Takings.{it_tells}
use Rattle.log_contexts.proofs.laws.taking_tells.Goals as goal

pub returns : goal.returns
returns c = it_tells
