use Rattle.flow_send.proofs.Idling.{idle_does_nothing}
use Rattle.flow_send.proofs.laws.idle_flows_do_nothing.Goals as goal

pub returns : goal.returns
returns c = idle_does_nothing
