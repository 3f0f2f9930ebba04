use Rattle.std.proofs.Common.{subst}
use Rattle.rendezvous_world.specs.declared.step.Step.{Step}
use Rattle.rtmfp_play.specs.Generating.{TakesStep}
use Rattle.rtmfp_play.proofs.generated.go_on.Goals as goal

pub returns-in-Ok : goal.returns-in-Ok
returns-in-Ok c = subst (λ (s : Step). TakesStep c.args.world.now c.args.line s c.take.result c.take.new.world) c.in-Ok.ensures c.take.ensures
