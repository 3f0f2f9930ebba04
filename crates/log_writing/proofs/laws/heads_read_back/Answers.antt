use Rattle.log_writing.proofs.ReadBack.{head_back}
use Rattle.log_writing.proofs.laws.heads_read_back.Goals as goal

pub returns : goal.returns
returns c = head_back
