use Rattle.log_events.proofs.Telling.{births_so}
use Rattle.log_events.proofs.laws.births_are_told.Goals as goal

pub returns : goal.returns
returns c = births_so
