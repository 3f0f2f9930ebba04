use Rattle.log_events.proofs.Telling.{it_stays}
use Rattle.log_events.proofs.laws.startup_stays.Goals as goal

pub returns : goal.returns
returns c = it_stays
