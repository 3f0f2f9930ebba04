use Rattle.std.proofs.Common.{Bool, refl, ap, ◌∙◌}
use Rattle.rtmfp_base.specs.Reasons.{where_true}
use Rattle.rendezvous_world.specs.declared.step.StepFault.TheVariants.{Forged}
use Rattle.rendezvous_world.proofs.Refusing.{memory_done, entered_done, entering_bringing}
use Rattle.rendezvous_world.proofs.world.World.bring_unforged.Goals as goal

pub returns-in-Err : goal.returns-in-Err
returns-in-Err c =
    memory_done c.args.self.now c.args.line c.args.step.now c.args.self.now refl (c.requires.bringing.fault ∙ ap (λ (x : Bool). where_true x Forged) c.requires.unforged)

pub enter-requires-clause-entering : goal.enter-requires-clause-entering
enter-requires-clause-entering c =
    entering_bringing c.args.self.now c.args.line c.args.end c.args.step.now c.args.bytes.now c.in-Ok.datagram c.requires.bringing c.requires.unforged c.keep.ensures.bytes c.in-Ok.ensures.kept

pub enter-requires-clause-named : goal.enter-requires-clause-named
enter-requires-clause-named c = c.requires.bringing.peer

pub returns : goal.returns
returns c =
    entered_done c.args.self.now c.args.line c.args.step.now c.enter.result c.enter.new.self c.requires.bringing.calls
    (c.requires.bringing.fault ∙ ap (λ (x : Bool). where_true x Forged) c.requires.unforged) c.enter.ensures
