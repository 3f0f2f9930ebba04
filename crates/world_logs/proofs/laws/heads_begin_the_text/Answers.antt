use Rattle.world_logs.proofs.HeadsTold.{all_heads}
use Rattle.world_logs.proofs.laws.heads_begin_the_text.Goals as goal

pub returns : goal.returns
returns c = all_heads
