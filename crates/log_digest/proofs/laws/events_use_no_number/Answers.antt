use Rattle.log_digest.proofs.Coming.{events_use_none}
use Rattle.log_digest.proofs.laws.events_use_no_number.Goals as goal

pub returns : goal.returns
returns c = events_use_none
