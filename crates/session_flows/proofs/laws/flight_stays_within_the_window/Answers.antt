use Rattle.session_flows.proofs.Within.{stays_within}
use Rattle.session_flows.proofs.laws.flight_stays_within_the_window.Goals as goal

pub returns : goal.returns
returns c = stays_within
