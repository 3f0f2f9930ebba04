use Rattle.endpoint_laws.proofs.AgreedLaw.{every_history_is_agreed}
use Rattle.endpoint_laws.proofs.laws.agreed.Goals as goal

pub returns : goal.returns
returns c = every_history_is_agreed
