use Rattle.endpoint_checks.proofs.Sending.{keyings_sent_refused}
use Rattle.endpoint_checks.proofs.keyings_sent.Goals as goal

pub returns : goal.returns
returns c = keyings_sent_refused
