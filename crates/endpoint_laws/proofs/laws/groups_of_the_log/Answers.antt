use Rattle.endpoint_laws.proofs.Groups.{groups_of_log}
use Rattle.endpoint_laws.proofs.laws.groups_of_the_log.Goals as goal

pub returns : goal.returns
returns c = groups_of_log
