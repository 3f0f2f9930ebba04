use Rattle.log_events.proofs.Telling.{found_so}
use Rattle.log_events.proofs.laws.facts_are_found.Goals as goal

pub returns : goal.returns
returns c = found_so
