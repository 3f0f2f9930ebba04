use Rattle.session_flows.proofs.Falling.{takes_one}
use Rattle.session_flows.proofs.laws.each_chunk_takes_one.Goals as goal

pub returns : goal.returns
returns c = takes_one
