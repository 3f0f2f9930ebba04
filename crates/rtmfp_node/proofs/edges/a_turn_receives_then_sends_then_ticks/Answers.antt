use Rattle.std.proofs.Common.{ap}
use Rattle.rtmfp_node.specs.Calls.{calls_in}
use Rattle.rtmfp_node.proofs.Called.{silent_called, turn_called}
use Rattle.rtmfp_node.proofs.edges.a_turn_receives_then_sends_then_ticks.Goals as goal

pub returns-clause-all : goal.returns-clause-all
returns-clause-all c = turn_called

pub returns-clause-silent : goal.returns-clause-silent
returns-clause-silent c = silent_called

pub returns-clause-quiet : goal.returns-clause-quiet
returns-clause-quiet c message moment draws log h = ap calls_in h.1
