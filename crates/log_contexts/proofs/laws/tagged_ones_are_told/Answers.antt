use Rattle.log_contexts.proofs.Tagged.{tagged_tell}
use Rattle.log_contexts.proofs.laws.tagged_ones_are_told.Goals as goal

pub returns : goal.returns
returns c = tagged_tell
