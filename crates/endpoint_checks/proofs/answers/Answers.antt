use Rattle.endpoint_checks.proofs.Opening.{answers_refused}
use Rattle.endpoint_checks.proofs.answers.Goals as goal

pub returns : goal.returns
returns c = answers_refused
