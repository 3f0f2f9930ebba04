use Rattle.session_flows.proofs.Idles.{idle_have_nothing_due}
use Rattle.session_flows.proofs.laws.idle_flows_have_nothing_due.Goals as goal

pub returns : goal.returns
returns c = idle_have_nothing_due
