use Rattle.std.proofs.Common.{ap, ◌∙◌, refl, sym, Some}
use Rattle.std.specs.FinMap.{get}
use Rattle.startup.specs.State.{StartupState}
use Rattle.startup.specs.Attempts.{recookied, again_under, change_keying, after_change, with_attempt}
use Rattle.startup.proofs.Choices.{got_is, never_none}
use Rattle.startup.proofs.Keeping.{changed_has_cookie, keying_goes_again, recookied_fits}
use Rattle.startup.proofs.Startups.{changed_is_kept, changed_state}
use Rattle.startup.proofs.startup.Startup.apply_cookie_change.Goals as goal

pub unreachable-requires : goal.unreachable-requires
unreachable-requires c =
    let i = c.self.inside in
    let found = c.requires.found.1.1 in
    never_none found.attempt (get i.attempts.attempts c.args.found.near) c.in-None.ensures (ap (λ (t : StartupState). get t.attempts c.args.found.near) c.self.view_is ∙ found.there)

pub unreachable-requires-in-None-again : goal.unreachable-requires-in-None-again
unreachable-requires-in-None-again c =
    let i = c.self.inside in
    let found = c.requires.found.1.1 in
    let there = ap (λ (t : StartupState). get t.attempts c.args.found.near) c.self.view_is ∙ found.there in
    let e = got_is i.attempts.attempts c.args.found.near c.in-Some.attempt.now found.attempt (sym c.in-Some.ensures) there in
    keying_goes_again i.cert c.args.found.near found.attempt c.requires.found.1.0 c.args.new.now
    (changed_has_cookie c.args.self.now.attempts c.requires.found.0 c.requires.found.1.0 (c.args.found.near, found.attempt) found.chosen_is)
    ((λ j. again_under i.cert c.args.found.near (sym e j) (sym e j).stage c.args.new.now) ∙ sym c.keying_again-again.ensures ∙ c.in-None-again.is)

pub keying_again-again-requires-clause-fits : goal.keying_again-again-requires-clause-fits
keying_again-again-requires-clause-fits c =
    c.self.invariant.sound.stages c.args.found.near c.in-Some.attempt.now (sym c.in-Some.ensures)

pub invariant_of-self : goal.invariant_of-self
invariant_of-self c =
    let i = c.self.inside in
    let found = c.requires.found.1.1 in
    changed_is_kept i.cert i.print i.cookies i.peers i.attempts.attempts i.kept.keyings c.self.invariant c.args.found.near found.attempt (ap (λ (t : StartupState). get t.attempts c.args.found.near) c.self.view_is ∙ found.there)
    (λ a. recookied a c.args.new.now c.args.moment) c.change.new.self.attempts c.change.ensures (record { aim = λ a. refl; ni = λ a. refl })
    (recookied_fits found.attempt.aim found.attempt.stage c.args.new.now (c.self.invariant.sound.stages c.args.found.near found.attempt (ap (λ (t : StartupState). get t.attempts c.args.found.near) c.self.view_is ∙ found.there)))

pub returns-clause-answer : goal.returns-clause-answer
returns-clause-answer c chosen found =
    let i = c.self.inside in
    let there = ap (λ (t : StartupState). get t.attempts c.args.found.near) c.self.view_is ∙ found.there in
    let e = got_is i.attempts.attempts c.args.found.near c.in-Some.attempt.now found.attempt (sym c.in-Some.ensures) there in
    ap (λ o. change_keying c.args.self.now o c.args.new.now) found.chosen_is
    ∙ sym (sym c.in-Some-again.is ∙ c.keying_again-again.ensures ∙ (λ j. again_under i.cert c.args.found.near (e j) (e j).stage c.args.new.now)
    ∙ ap (λ (t : StartupState). change_keying t (Some (c.args.found.near, found.attempt)) c.args.new.now) c.self.view_is)

pub returns-clause-after : goal.returns-clause-after
returns-clause-after c chosen found =
    let i = c.self.inside in
    changed_state i.cert i.print i.cookies i.peers i.attempts.attempts i.kept.keyings c.self.invariant c.args.found.near found.attempt (ap (λ (t : StartupState). get t.attempts c.args.found.near) c.self.view_is ∙ found.there)
    (λ a. recookied a c.args.new.now c.args.moment) c.change.new.self.attempts c.change.ensures
    ∙ ap (λ (t : StartupState). with_attempt t c.args.found.near (recookied found.attempt c.args.new.now c.args.moment)) c.self.view_is
    ∙ sym (ap (λ o. after_change c.args.self.now o c.args.new.now c.args.moment) found.chosen_is)
