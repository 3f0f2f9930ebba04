use Rattle.log_events.proofs.Telling.{arrivals_so}
use Rattle.log_events.proofs.laws.arrivals_stay.Goals as goal

pub returns : goal.returns
returns c = arrivals_so
