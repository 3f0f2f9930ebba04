use Rattle.endpoint_laws.proofs.Logged.{every_log_is_lawful}
use Rattle.endpoint_laws.proofs.laws.every_log_is_lawful.Goals as goal

pub returns : goal.returns
returns c = every_log_is_lawful
