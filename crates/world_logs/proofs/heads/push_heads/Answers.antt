use Rattle.world_logs.proofs.HeadsTold.{heads_step}
use Rattle.world_logs.proofs.heads.push_heads.Goals as goal

pub loop-number-preserved : goal.loop-number-preserved
loop-number-preserved c = heads_step c.args.world.now.ends c.loop-number.number c.args.text.now c.loop-number.text c.push_head_at.new.text c.loop-number.invariant c.in_ok-push_head_at.ensures
