use Rattle.session_flows.proofs.Rejected.{no_message}
use Rattle.session_flows.proofs.laws.an_exception_abandons_all_messages.Goals as goal

pub returns : goal.returns
returns c = no_message
