use Rattle.log_events.proofs.Telling.{causes_so}
use Rattle.log_events.proofs.laws.causes_are_told.Goals as goal

pub returns : goal.returns
returns c = causes_so
