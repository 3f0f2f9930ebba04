use Rattle.endpoint_checks.proofs.Sending.{numbers_refused}
use Rattle.endpoint_checks.proofs.numbers.Goals as goal

pub returns : goal.returns
returns c = numbers_refused
