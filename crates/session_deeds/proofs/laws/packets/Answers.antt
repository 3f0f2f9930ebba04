use Rattle.session_deeds.proofs.Packing.{filling_goes}
use Rattle.session_deeds.proofs.Acking.{acking_goes}
use Rattle.session_deeds.proofs.Hearing.{forgetting_goes}
use Rattle.session_deeds.proofs.laws.packets.Goals as goal

pub returns-clause-data_filled : goal.returns-clause-data_filled
returns-clause-data_filled c = filling_goes

pub returns-clause-acks : goal.returns-clause-acks
returns-clause-acks c = acking_goes

pub returns-clause-forgotten : goal.returns-clause-forgotten
returns-clause-forgotten c = forgetting_goes
