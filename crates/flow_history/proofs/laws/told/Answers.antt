use Rattle.flow_history.proofs.Told.{written_is_told}
use Rattle.flow_history.proofs.laws.told.Goals as goal

pub returns : goal.returns
returns c = written_is_told
