use Rattle.log_contexts.proofs.Told.{zero_is_none}
use Rattle.log_contexts.proofs.laws.no_id_is_zero.Goals as goal

pub returns : goal.returns
returns c = zero_is_none
