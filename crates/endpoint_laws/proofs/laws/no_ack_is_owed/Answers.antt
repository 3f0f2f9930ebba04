use Rattle.endpoint_laws.proofs.NoneOwed.{no_ack_is_owed}
use Rattle.endpoint_laws.proofs.laws.no_ack_is_owed.Goals as goal

pub returns : goal.returns
returns c = no_ack_is_owed
