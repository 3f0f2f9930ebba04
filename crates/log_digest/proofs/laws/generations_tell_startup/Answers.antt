use Rattle.log_digest.proofs.Going.{they_tell}
use Rattle.log_digest.proofs.laws.generations_tell_startup.Goals as goal

pub returns : goal.returns
returns c = they_tell
