use Rattle.std.proofs.Common.{sym, ap, ◌∙◌}
use Rattle.rendezvous_world.specs.History.{history_of}
use Rattle.rendezvous_world.specs.Seen.{Seen}
use Rattle.rtmfp_play.specs.Journaled.{is_late}
use Rattle.rtmfp_play.proofs.Journaled.{step_in_time}
use Rattle.rtmfp_play.proofs.journal.journal_said.Goals as goal

pub journal_step-requires-clause-in_time : goal.journal_step-requires-clause-in_time
journal_step-requires-clause-in_time c =
    step_in_time c.args.world.now c.args.said c.in-Some.step
    (sym (c.is_late.ensures ∙ ap (λ (x : Seen). is_late (history_of x) c.args.said) c.world.ensures) ∙ c.if-is_late.false)
    (sym c.in_ok-step.ensures ∙ c.in-Some.is)
