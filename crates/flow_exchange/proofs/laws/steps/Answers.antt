use Rattle.flow_exchange.proofs.Relating.{begun, step, taking, hearing, hands_in_order, hands_arriving}
use Rattle.flow_exchange.proofs.laws.steps.Goals as goal

pub returns-clause-begins : goal.returns-clause-begins
returns-clause-begins c = begun

pub returns-clause-goes_on : goal.returns-clause-goes_on
returns-clause-goes_on c = step

pub returns-clause-takes : goal.returns-clause-takes
returns-clause-takes c = taking

pub returns-clause-hears : goal.returns-clause-hears
returns-clause-hears c = hearing

pub returns-clause-in_order : goal.returns-clause-in_order
returns-clause-in_order c = hands_in_order

pub returns-clause-arriving : goal.returns-clause-arriving
returns-clause-arriving c = hands_arriving
