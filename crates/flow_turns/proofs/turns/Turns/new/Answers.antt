use Rattle.flow_turns.proofs.Turning.{none_in, tied_none}
use Rattle.flow_turns.proofs.turns.Turns.new.Goals as goal

pub invariant_of-result : goal.invariant_of-result
invariant_of-result c = tied_none

pub returns : goal.returns
returns c = none_in
