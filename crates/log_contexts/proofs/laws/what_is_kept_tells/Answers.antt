use Rattle.log_contexts.proofs.Told.{kept_tells}
use Rattle.log_contexts.proofs.laws.what_is_kept_tells.Goals as goal

pub returns : goal.returns
returns c = kept_tells
