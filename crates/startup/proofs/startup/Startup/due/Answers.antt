use Rattle.std.proofs.Common.{◌<◌, ◌∙◌, refl, sym, ap, subst, is_some, Some, if◌then◌else◌}
use Rattle.glare_core.specs.declared.facts.Why.TheVariants.{Expired}
use Rattle.startup.specs.declared.answer.Due.{Due}
use Rattle.startup.specs.State.{StartupState}
use Rattle.startup.specs.Rows.{state_of}
use Rattle.startup.specs.Aims.{end_of_aim}
use Rattle.startup.specs.Attempts.{with_attempt, without_attempt_by}
use Rattle.startup.specs.Due.{repeated, repeat_of, due, due_by, due_end, due_of, after_due, after_due_of, due_count}
use Rattle.startup.proofs.Falling.{due_end_is, falls_when}
use Rattle.startup.proofs.Startups.{held_at, ended_is_kept, ended_state, changed_is_kept, changed_state}
use Rattle.startup.proofs.startup.Startup.due.Goals as goal

pub end_at-end-requires-clause-there : goal.end_at-end-requires-clause-there
end_at-end-requires-clause-there c = ap is_some c.in-Some.ensures.there

pub end_at-end-requires-clause-held : goal.end_at-end-requires-clause-held
end_at-end-requires-clause-held c b at =
    let i = c.self.inside in
    let chosen = c.in-Some.ensures in
    held_at i.cert i.print i.cookies i.peers i.attempts.attempts i.kept.keyings c.self.invariant c.in-Some.found.near c.in-Some.found.attempt.now chosen.there b at

pub invariant_of-self : goal.invariant_of-self
invariant_of-self c =
    let i = c.self.inside in
    let chosen = c.in-Some.ensures in
    ended_is_kept i.cert i.print i.cookies i.peers i.attempts.attempts i.kept.keyings c.self.invariant c.in-Some.found.near c.in-Some.found.attempt.now chosen.there Expired c.end_at-end.result c.end_at-end.ensures.fact c.end_at-end.new.peers c.end_at-end.new.attempts.attempts c.end_at-end.ensures.ledger c.end_at-end.ensures.gone

pub invariant_of-self-2 : goal.invariant_of-self-2
invariant_of-self-2 c =
    let i = c.self.inside in
    let chosen = c.in-Some.ensures in
    changed_is_kept i.cert i.print i.cookies i.peers i.attempts.attempts i.kept.keyings c.self.invariant c.in-Some.found.near c.in-Some.found.attempt.now chosen.there (λ a. repeated a c.args.moment) c.change.new.self.attempts c.change.ensures
    (record { aim = λ a. refl; ni = λ a. refl }) (c.self.invariant.sound.stages c.in-Some.found.near c.in-Some.found.attempt.now chosen.there)

pub repeat_of-repeat-requires : goal.repeat_of-repeat-requires
repeat_of-repeat-requires c = c.self.invariant.sound.stages c.in-Some.found.near c.in-Some.found.attempt.now c.in-Some.ensures.there

-- ---- it ends

pub returns-then-is_over-clause-due : goal.returns-then-is_over-clause-due
returns-then-is_over-clause-due c =
    let i = c.self.inside in
    let chosen = c.in-Some.ensures in
    let s : StartupState = state_of i.cert i.cookies i.peers i.attempts.attempts i.kept.keyings in
    let over = sym c.is_over.ensures ∙ c.if-is_over.true in
    ap (λ (d : Due). Some d) (c.due_by.ensures ∙ ap (due_by c.in-Some.found.near) (c.end_at-end.ensures.fact c.in-Some.found.attempt.now chosen.there) ∙ due_end_is c.in-Some.found.near c.in-Some.found.attempt.now.aim)
    ∙ sym (ap (due_of s c.args.moment) chosen.chosen_is ∙ ap (λ b. Some (if b then due_end c.in-Some.found.near c.in-Some.found.attempt.now.aim else repeat_of s c.in-Some.found.near c.in-Some.found.attempt.now)) over)
    ∙ ap (λ (t : StartupState). due t c.args.moment) c.self.view_is

pub returns-then-is_over-clause-after : goal.returns-then-is_over-clause-after
returns-then-is_over-clause-after c =
    let i = c.self.inside in
    let chosen = c.in-Some.ensures in
    let s : StartupState = state_of i.cert i.cookies i.peers i.attempts.attempts i.kept.keyings in
    let over = sym c.is_over.ensures ∙ c.if-is_over.true in
    ended_state i.cert i.print i.cookies i.peers i.attempts.attempts i.kept.keyings c.self.invariant c.in-Some.found.near c.in-Some.found.attempt.now chosen.there Expired c.end_at-end.result c.end_at-end.ensures.fact c.end_at-end.new.peers c.end_at-end.new.attempts.attempts c.end_at-end.ensures.ledger c.end_at-end.ensures.gone
    ∙ sym (ap (after_due_of s c.args.moment) chosen.chosen_is
    ∙ ap (λ b. if b then without_attempt_by s c.in-Some.found.near (end_of_aim c.in-Some.found.near Expired c.in-Some.found.attempt.now.aim) else with_attempt s c.in-Some.found.near (repeated c.in-Some.found.attempt.now c.args.moment)) over)
    ∙ ap (λ (t : StartupState). after_due t c.args.moment) c.self.view_is

pub returns-then-is_over-clause-falls : goal.returns-then-is_over-clause-falls
returns-then-is_over-clause-falls c =
    subst (λ (t : StartupState). due_count c.args.moment t < due_count c.args.moment c.args.self.now) (sym (returns-then-is_over-clause-after c))
    (falls_when c.args.self.now c.args.moment c.due_by.result (returns-then-is_over-clause-due c))

-- ---- it is repeated

pub returns-clause-due : goal.returns-clause-due
returns-clause-due c =
    let i = c.self.inside in
    let chosen = c.in-Some.ensures in
    let s : StartupState = state_of i.cert i.cookies i.peers i.attempts.attempts i.kept.keyings in
    let over = sym c.is_over.ensures ∙ c.if-is_over.false in
    ap (λ (d : Due). Some d) c.repeat_of-repeat.ensures
    ∙ sym (ap (due_of s c.args.moment) chosen.chosen_is ∙ ap (λ b. Some (if b then due_end c.in-Some.found.near c.in-Some.found.attempt.now.aim else repeat_of s c.in-Some.found.near c.in-Some.found.attempt.now)) over)
    ∙ ap (λ (t : StartupState). due t c.args.moment) c.self.view_is

pub returns-clause-after : goal.returns-clause-after
returns-clause-after c =
    let i = c.self.inside in
    let chosen = c.in-Some.ensures in
    let s : StartupState = state_of i.cert i.cookies i.peers i.attempts.attempts i.kept.keyings in
    let over = sym c.is_over.ensures ∙ c.if-is_over.false in
    changed_state i.cert i.print i.cookies i.peers i.attempts.attempts i.kept.keyings c.self.invariant c.in-Some.found.near c.in-Some.found.attempt.now chosen.there (λ a. repeated a c.args.moment) c.change.new.self.attempts c.change.ensures
    ∙ sym (ap (after_due_of s c.args.moment) chosen.chosen_is
    ∙ ap (λ b. if b then without_attempt_by s c.in-Some.found.near (end_of_aim c.in-Some.found.near Expired c.in-Some.found.attempt.now.aim) else with_attempt s c.in-Some.found.near (repeated c.in-Some.found.attempt.now c.args.moment)) over)
    ∙ ap (λ (t : StartupState). after_due t c.args.moment) c.self.view_is

pub returns-clause-falls : goal.returns-clause-falls
returns-clause-falls c =
    subst (λ (t : StartupState). due_count c.args.moment t < due_count c.args.moment c.args.self.now) (sym (returns-clause-after c))
    (falls_when c.args.self.now c.args.moment c.repeat_of-repeat.result (returns-clause-due c))
