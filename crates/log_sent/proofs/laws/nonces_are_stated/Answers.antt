use Rattle.log_sent.proofs.Stating.{nonces_are_stated}
use Rattle.log_sent.proofs.laws.nonces_are_stated.Goals as goal

pub returns : goal.returns
returns c = nonces_are_stated
