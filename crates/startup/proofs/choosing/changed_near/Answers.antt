use Rattle.std.proofs.Common.{sym, ap, ◌∙◌}
use Rattle.startup.specs.State.{AttemptState}
use Rattle.startup.specs.Attempts.{is_under}
use Rattle.startup.proofs.Choices.{change_stands, change_refused, never_none}
use Rattle.startup.proofs.choosing.changed_near.Goals as goal

pub unreachable-requires : goal.unreachable-requires
unreachable-requires c = never_none c.in-Some-chosen_near.ensures.attempt _ c.in-None-get.ensures c.in-Some-chosen_near.ensures.there

pub returns-then-is_under-clause-cause : goal.returns-then-is_under-clause-cause
returns-then-is_under-clause-cause c =
    change_stands _ c.args.sid c.args.old.now c.args.new.now c.args.generation c.in-Some-chosen_near.near c.in-Some-get.attempt.now (sym c.in-None.ensures) (sym c.in-None-wide.ensures) c.in-Some-chosen_near.ensures (sym c.in-Some-get.ensures)
    (ap (λ (x : AttemptState). is_under c.args.generation x.stage) (sym c.attempt.view_is) ∙ sym c.is_under.ensures ∙ c.if-is_under.true)

pub returns-else-is_under-clause-refused : goal.returns-else-is_under-clause-refused
returns-else-is_under-clause-refused c =
    change_refused _ c.args.sid c.args.old.now c.args.new.now c.args.generation c.in-Some-chosen_near.near c.in-Some-get.attempt.now (sym c.in-None.ensures) (sym c.in-None-wide.ensures) c.in-Some-chosen_near.ensures (sym c.in-Some-get.ensures)
    (ap (λ (x : AttemptState). is_under c.args.generation x.stage) (sym c.attempt.view_is) ∙ sym c.is_under.ensures ∙ c.if-is_under.false)
