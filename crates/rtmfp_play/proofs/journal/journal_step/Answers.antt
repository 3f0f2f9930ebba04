use Rattle.std.proofs.Common.{List, length, ap, ◌∙◌}
use Rattle.rendezvous_world.specs.declared.journal.JournalLine.{JournalLine}
use Rattle.rtmfp_play.proofs.Journaled.{step_journaled}
use Rattle.rtmfp_play.proofs.Placing.{below_placed}
use Rattle.rtmfp_play.proofs.journal.journal_step.Goals as goal

pub returns-in_ok-push_next-in-Ok-clause-stepped : goal.returns-in_ok-push_next-in-Ok-clause-stepped
returns-in_ok-push_next-in-Ok-clause-stepped c =
    step_journaled c.args.world.now c.args.number c.args.step.now c.in-Ok.field-0 c.take_step.new.world c.world-before.result.now c.world.result.now (length c.lines-lines.result.now) c.has_begun-begun.result c.take_step.new.moments.items
    c.as_slice.result.now c.args.text.now c.push_next.new.text c.requires.in_time c.in-Ok.ensures.ok c.in-Ok.ensures.holds c.world-before.ensures c.has_begun-begun.ensures
    (ap (λ (l : List JournalLine). length l) (c.lines-lines.ensures ∙ c.journal.ensures.lines)) c.world.ensures c.as_slice.ensures.value c.in-Ok.ensures.moments c.in_ok-push_next-in-Ok.ensures

pub returns-in_ok-push_next-in-Ok-clause-above : goal.returns-in_ok-push_next-in-Ok-clause-above
returns-in_ok-push_next-in-Ok-clause-above c = λ _. below_placed c.args.world.now c.args.number c.args.step.now c.in-Ok.field-0 c.take_step.new.world c.requires.above c.in-Ok.ensures.ok
