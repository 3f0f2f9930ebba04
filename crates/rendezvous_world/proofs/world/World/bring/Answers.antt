use Rattle.std.proofs.Common.{◌<◌, Bool, Err, length, sym, ap, ◌∙◌, subst}
use Rattle.rtmfp_base.specs.Reasons.{where_true}
use Rattle.rendezvous_world.specs.declared.step.StepFault.TheVariants.{Forged}
use Rattle.rendezvous_world.specs.Seen.{Seen}
use Rattle.rendezvous_world.specs.Entering.{IsBringing, IsDone}
use Rattle.rendezvous_world.proofs.Refusing.{forged_done}
use Rattle.rendezvous_world.proofs.world.World.bring.Goals as goal

pub is_unsent-requires-clause-there : goal.is_unsent-requires-clause-there
is_unsent-requires-clause-there c = subst (λ (w : Seen). c.args.end < length w.ends) (sym c.note_keys.ensures) c.requires.there

pub returns-then-is_unsent : goal.returns-then-is_unsent
returns-then-is_unsent c =
    let b = subst (λ (w : Seen). IsBringing w c.args.line c.args.end c.args.step.now c.args.bytes.now) (sym c.note_keys.ensures) c.requires in
    subst (λ (w : Seen). IsDone w c.args.line c.args.step.now (Err Forged) c.note_keys.new.self) c.note_keys.ensures
    (forged_done c.note_keys.new.self c.args.line c.args.step.now (b.fault ∙ ap (λ (x : Bool). where_true x Forged) (sym c.is_unsent.ensures ∙ c.if-is_unsent.true)))

pub bring_unforged-requires-clause-bringing : goal.bring_unforged-requires-clause-bringing
bring_unforged-requires-clause-bringing c =
    subst (λ (w : Seen). IsBringing w c.args.line c.args.end c.args.step.now c.args.bytes.now) (sym c.note_keys.ensures) c.requires

pub bring_unforged-requires-clause-unforged : goal.bring_unforged-requires-clause-unforged
bring_unforged-requires-clause-unforged c = sym c.is_unsent.ensures ∙ c.if-is_unsent.false

pub returns : goal.returns
returns c =
    subst (λ (w : Seen). IsDone w c.args.line c.args.step.now c.bring_unforged.result c.bring_unforged.new.self) c.note_keys.ensures c.bring_unforged.ensures
