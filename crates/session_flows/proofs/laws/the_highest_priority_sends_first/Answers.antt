use Rattle.session_flows.proofs.Next.{the_next_sends}
use Rattle.session_flows.proofs.laws.the_highest_priority_sends_first.Goals as goal

pub returns : goal.returns
returns c = the_next_sends
