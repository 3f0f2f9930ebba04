use Rattle.flow_exchange.proofs.Called.{of_its_calls}
use Rattle.flow_exchange.proofs.receivers.goes_by_its_calls.Goals as goal

pub returns : goal.returns
returns c = of_its_calls c.args.receiver.now c.comes_of_its_calls.ensures
