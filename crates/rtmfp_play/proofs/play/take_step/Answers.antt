use Rattle.std.proofs.Common.{List, length, Err, refl, ap, ◌∙◌}
use Rattle.rendezvous_world.specs.declared.step.StepFault.TheVariants.{BadStep, Forged, NoDatagram, NoEnd}
use Rattle.rendezvous_world.specs.declared.journal.JournalLine.{JournalLine}
use Rattle.rendezvous_world.specs.Seen.{Seen}
use Rattle.rendezvous_world.specs.Sent.{sent_in}
use Rattle.placed_world.specs.Stepping.{comes_to, placed_fault}
use Rattle.rtmfp_play.proofs.Placing.{bad_placed, below_placed, refused_placed, told_both}
use Rattle.rtmfp_play.proofs.play.take_step.Goals as goal

pub returns-in_ok-tell_lost-in-Ok-clause-stepped : goal.returns-in_ok-tell_lost-in-Ok-clause-stepped
returns-in_ok-tell_lost-in-Ok-clause-stepped c = (
  c.in-Ok.lost,
  c.in-Ok.ensures.ok,
  record { sound = c.step.ensures.sound; agreed = c.step.ensures.agreed; go_over = c.step.ensures.go_over },
  told_both c.args.world.now c.step.new.self c.args.number c.in-Ok.lost c.world-after.result.now c.in_ok-sent.sent (length c.lines-lines.result.now) c.args.text.now c.tell.new.text c.tell_lost.new.text
      c.world-after.ensures (c.in_ok-sent.ensures ∙ ap (λ (x : Seen). length (sent_in x.lines)) c.world-before.ensures)
      (ap (λ (xs : List JournalLine). length xs) (c.lines-lines.ensures ∙ c.journal.ensures.lines) ∙ ap (λ (x : Seen). length x.lines) c.world-before.ensures)
      c.in_ok-tell-in-Ok.ensures.text c.in_ok-tell_lost-in-Ok.ensures,
)

pub returns-in_ok-tell_lost-in-Ok-clause-above : goal.returns-in_ok-tell_lost-in-Ok-clause-above
returns-in_ok-tell_lost-in-Ok-clause-above c = λ _. below_placed c.args.world.now c.args.number c.args.step.now c.in-Ok.lost c.step.new.self c.requires.above c.in-Ok.ensures.ok

pub returns-in-Err-NoEnd-clause-stepped : goal.returns-in-Err-NoEnd-clause-stepped
returns-in-Err-NoEnd-clause-stepped c =
    let w = c.args.world.now in
    let t = c.step.new.self in
    let o = placed_fault w c.args.step.now in
    bad_placed o NoEnd w t tt (refused_placed o (comes_to w c.args.step.now) c.step.result NoEnd w t (c.in-Err-NoEnd.is ∙ ap Err c.in-Err-NoEnd.field-0-is) (λ x. cc) c.step.ensures.refused c.step.ensures.memory)

pub returns-in-Err-NoEnd-clause-stays : goal.returns-in-Err-NoEnd-clause-stays
returns-in-Err-NoEnd-clause-stays c =
    let w = c.args.world.now in
    let t = c.step.new.self in
    let o = placed_fault w c.args.step.now in
    ((refused_placed o (comes_to w c.args.step.now) c.step.result NoEnd w t (c.in-Err-NoEnd.is ∙ ap Err c.in-Err-NoEnd.field-0-is) (λ x. cc) c.step.ensures.refused c.step.ensures.memory).same, refl)

pub returns-in-Err-NoDatagram-clause-stepped : goal.returns-in-Err-NoDatagram-clause-stepped
returns-in-Err-NoDatagram-clause-stepped c =
    let w = c.args.world.now in
    let t = c.step.new.self in
    let o = placed_fault w c.args.step.now in
    bad_placed o NoDatagram w t tt (refused_placed o (comes_to w c.args.step.now) c.step.result NoDatagram w t (c.in-Err-NoDatagram.is ∙ ap Err c.in-Err-NoDatagram.field-0-is) (λ x. cc) c.step.ensures.refused c.step.ensures.memory)

pub returns-in-Err-NoDatagram-clause-stays : goal.returns-in-Err-NoDatagram-clause-stays
returns-in-Err-NoDatagram-clause-stays c =
    let w = c.args.world.now in
    let t = c.step.new.self in
    let o = placed_fault w c.args.step.now in
    ((refused_placed o (comes_to w c.args.step.now) c.step.result NoDatagram w t (c.in-Err-NoDatagram.is ∙ ap Err c.in-Err-NoDatagram.field-0-is) (λ x. cc) c.step.ensures.refused c.step.ensures.memory).same, refl)

pub returns-in-Err-BadStep-clause-stepped : goal.returns-in-Err-BadStep-clause-stepped
returns-in-Err-BadStep-clause-stepped c =
    let w = c.args.world.now in
    let t = c.step.new.self in
    let o = placed_fault w c.args.step.now in
    bad_placed o BadStep w t tt (refused_placed o (comes_to w c.args.step.now) c.step.result BadStep w t (c.in-Err-BadStep.is ∙ ap Err c.in-Err-BadStep.field-0-is) (λ x. cc) c.step.ensures.refused c.step.ensures.memory)

pub returns-in-Err-BadStep-clause-stays : goal.returns-in-Err-BadStep-clause-stays
returns-in-Err-BadStep-clause-stays c =
    let w = c.args.world.now in
    let t = c.step.new.self in
    let o = placed_fault w c.args.step.now in
    ((refused_placed o (comes_to w c.args.step.now) c.step.result BadStep w t (c.in-Err-BadStep.is ∙ ap Err c.in-Err-BadStep.field-0-is) (λ x. cc) c.step.ensures.refused c.step.ensures.memory).same, refl)

pub returns-in-Err-Forged-clause-stepped : goal.returns-in-Err-Forged-clause-stepped
returns-in-Err-Forged-clause-stepped c =
    let w = c.args.world.now in
    let t = c.step.new.self in
    let o = placed_fault w c.args.step.now in
    (refused_placed o (comes_to w c.args.step.now) c.step.result Forged w t (c.in-Err-Forged.is ∙ ap Err c.in-Err-Forged.field-0-is) (λ x. cc) c.step.ensures.refused c.step.ensures.memory).is

pub returns-in-Err-Forged-clause-stays : goal.returns-in-Err-Forged-clause-stays
returns-in-Err-Forged-clause-stays c =
    let w = c.args.world.now in
    let t = c.step.new.self in
    let o = placed_fault w c.args.step.now in
    ((refused_placed o (comes_to w c.args.step.now) c.step.result Forged w t (c.in-Err-Forged.is ∙ ap Err c.in-Err-Forged.field-0-is) (λ x. cc) c.step.ensures.refused c.step.ensures.memory).same, refl)
