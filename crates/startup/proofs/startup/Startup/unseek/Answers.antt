use Rattle.std.proofs.Common.{◌≡◌, true, false, if◌then◌else◌, sym, ap, ◌∙◌}
use Rattle.std.specs.FinMap.{remove}
use Rattle.startup.specs.State.{StartupState}
use Rattle.startup.specs.Rows.{state_of}
use Rattle.startup.specs.Attempts.{has_search}
use Rattle.startup.proofs.Greeted.{searched}
use Rattle.startup.proofs.Startups.{unsought_is_kept}
use Rattle.startup.proofs.startup.Startup.unseek.Goals as goal

pub invariant_of-self : goal.invariant_of-self
invariant_of-self c =
    let i = c.self.inside in
    let s : StartupState = state_of i.cert i.cookies i.peers i.attempts.attempts i.kept.keyings in
    let has : has_search s c.args.near ≡ true = ap (λ (t : StartupState). has_search t c.args.near) c.self.view_is ∙ sym c.has_search.ensures ∙ c.if-not-has_search.false in
    let found = searched _ has in
    unsought_is_kept i.cert i.print i.cookies i.peers i.attempts.attempts i.kept.keyings c.self.invariant c.args.near found.0 found.1 found.2 c.forget.new.self.attempts c.forget.ensures

pub returns-clause-after : goal.returns-clause-after
returns-clause-after c =
    let i = c.self.inside in
    let s : StartupState = c.args.self.now in
    let has : has_search s c.args.near ≡ true = sym c.has_search.ensures ∙ c.if-not-has_search.false in
    (λ j. state_of i.cert i.cookies i.peers (c.forget.ensures j) i.kept.keyings)
    ∙ ap (λ (t : StartupState). record t { attempts = remove t.attempts c.args.near }) c.self.view_is
    ∙ sym (ap (λ b. if b then record s { attempts = remove s.attempts c.args.near } else s) has)

pub returns-then-not-has_search-clause-after : goal.returns-then-not-has_search-clause-after
returns-then-not-has_search-clause-after c =
    let s : StartupState = c.args.self.now in
    let has : has_search s c.args.near ≡ false = sym c.has_search.ensures ∙ c.if-not-has_search.true in
    sym (ap (λ b. if b then record s { attempts = remove s.attempts c.args.near } else s) has)
