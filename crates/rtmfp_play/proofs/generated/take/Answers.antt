use Rattle.rtmfp_play.proofs.Refused.{below_after}
use Rattle.rtmfp_play.proofs.generated.take.Goals as goal

pub returns-in-Ok : goal.returns-in-Ok
returns-in-Ok c = record {
  ok = c.in-Ok.ensures.ok;
  below = below_after c.args.world.now c.args.line c.args.step.now c.step.new.self c.requires.above c.in-Ok.ensures.ok;
  err = tt;
}
