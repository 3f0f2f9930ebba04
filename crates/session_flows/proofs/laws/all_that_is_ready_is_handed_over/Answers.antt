use Rattle.session_flows.proofs.Handed.{all_ready_handed, nothing_left_ready}
use Rattle.session_flows.proofs.laws.all_that_is_ready_is_handed_over.Goals as goal

pub returns-clause-all : goal.returns-clause-all
returns-clause-all c = all_ready_handed

pub returns-clause-none_left : goal.returns-clause-none_left
returns-clause-none_left c = nothing_left_ready
