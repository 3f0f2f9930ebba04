use Rattle.session_deeds.proofs.Taking.{hands_goes, hand_goes}
use Rattle.session_deeds.proofs.laws.handing.Goals as goal

pub returns-clause-all : goal.returns-clause-all
returns-clause-all c = hands_goes

pub returns-clause-one : goal.returns-clause-one
returns-clause-one c = hand_goes
