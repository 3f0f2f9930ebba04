use Rattle.flow_exchange.proofs.Speaking.{speaks}
use Rattle.flow_exchange.proofs.laws.sending.Goals as goal

pub returns : goal.returns
returns c = speaks
