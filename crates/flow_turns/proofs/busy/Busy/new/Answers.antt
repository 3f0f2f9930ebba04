use Rattle.flow_turns.proofs.Turning.{none_of}
use Rattle.flow_turns.proofs.busy.Busy.new.Goals as goal

pub returns : goal.returns
returns c = none_of 4
