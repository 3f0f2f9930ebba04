use Rattle.log_events.proofs.Underway.{they_go_on}
use Rattle.log_events.proofs.laws.events_go_on.Goals as goal

pub returns : goal.returns
returns c = they_go_on
