use Rattle.endpoint_checks.proofs.Searched.{hellos_refused}
use Rattle.endpoint_checks.proofs.hellos.Goals as goal

pub returns : goal.returns
returns c = hellos_refused
