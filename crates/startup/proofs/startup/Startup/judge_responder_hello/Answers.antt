use Rattle.std.proofs.Common.{rules, ◌≡◌, ◌∙◌, Some, None, ap, sym}
use Rattle.std.specs.FinMap.{get}
use Rattle.startup.specs.State.{StartupState}
use Rattle.startup.specs.Attempts.{lowest, has_tag, hello_cause, hello_cause_at}
use Rattle.startup.proofs.Greeted.{greeted_stands}
use Rattle.startup.proofs.startup.Startup.judge_responder_hello.Goals as goal

pub returns-in-Ok-clause-greeted : goal.returns-in-Ok-clause-greeted
returns-in-Ok-clause-greeted c =
    let s : StartupState = c.args.self.now in
    let chosen_is : lowest (has_tag c.args.tag.now) s.attempts ≡ Some (c.in-Some-find.field-0.near, c.in-Some-find.attempt.now) = search rules in
    let there : get s.attempts c.in-Some-find.field-0.near ≡ Some c.in-Some-find.attempt.now = search rules in
    let none : hello_cause s c.in-Some-find.attempt.now.stage c.in-Some-find.attempt.now.aim c.args.cert.now ≡ None = search rules in
    record {
      found = record { attempt = c.in-Some-find.attempt.now; chosen_is = chosen_is; there = there };
      print = c.in-Ok.ensures.print;
      none = ap (λ o. hello_cause_at s o c.args.cert.now) chosen_is ∙ none;
    }

pub returns-in-Ok-clause-none : goal.returns-in-Ok-clause-none
returns-in-Ok-clause-none c =
    let s : StartupState = c.args.self.now in
    let chosen_is : lowest (has_tag c.args.tag.now) s.attempts ≡ Some (c.in-Some-find.near, c.in-Some-find.attempt.now) = search rules in
    let none : hello_cause s c.in-Some-find.attempt.now.stage c.in-Some-find.attempt.now.aim c.args.cert.now ≡ None = search rules in
    greeted_stands s c.args.tag.now c.args.cookie.now c.args.cert.now (sym c.wide.ensures ∙ c.in-None.is) (sym c.wide-2.ensures ∙ c.in-None-wide.is)
    (ap (λ o. hello_cause_at s o c.args.cert.now) chosen_is ∙ none)

pub returns-in-Err-clause-refused : goal.returns-in-Err-clause-refused
returns-in-Err-clause-refused c =
    let s : StartupState = c.args.self.now in
    let chosen_is : lowest (has_tag c.args.tag.now) s.attempts ≡ Some (c.in-Some-find.near, c.in-Some-find.attempt.now) = search rules in
    let stands : hello_cause s c.in-Some-find.attempt.now.stage c.in-Some-find.attempt.now.aim c.args.cert.now ≡ Some c.in-Err.cause = search rules in
    greeted_stands s c.args.tag.now c.args.cookie.now c.args.cert.now (sym c.wide.ensures ∙ c.in-None.is) (sym c.wide-2.ensures ∙ c.in-None-wide.is)
    (ap (λ o. hello_cause_at s o c.args.cert.now) chosen_is ∙ stands)
