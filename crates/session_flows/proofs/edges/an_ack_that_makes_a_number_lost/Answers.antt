use Rattle.std.proofs.Common.{refl}
use Rattle.session_flows.proofs.edges.an_ack_that_makes_a_number_lost.Goals as goal

pub returns : goal.returns
returns c = λ session. refl
