use Rattle.endpoint_checks.proofs.Sending.{answers_sent_refused}
use Rattle.endpoint_checks.proofs.answers_sent.Goals as goal

pub returns : goal.returns
returns c = answers_sent_refused
