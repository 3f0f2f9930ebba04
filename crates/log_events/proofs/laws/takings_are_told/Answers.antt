use Rattle.log_events.proofs.Telling.{takings_so}
use Rattle.log_events.proofs.laws.takings_are_told.Goals as goal

pub returns : goal.returns
returns c = takings_so
