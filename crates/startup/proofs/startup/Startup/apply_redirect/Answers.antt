use Rattle.std.proofs.Common.{◌∙◌, refl, sym, ap, subst, take}
use Rattle.std.specs.FinMap.{get}
use Rattle.startup.specs.State.{StartupState}
use Rattle.startup.specs.Redirects.{extended}
use Rattle.startup.specs.Judging.{Extends}
use Rattle.startup.proofs.Choices.{never_none}
use Rattle.startup.proofs.Startups.{changed_is_kept}
use Rattle.startup.proofs.startup.Startup.apply_redirect.Goals as goal

pub unreachable-requires : goal.unreachable-requires
unreachable-requires c =
    let i = c.self.inside in
    let near = c.extension.inside.found.near in
    let is = subst (λ e. Extends c.args.self.now e) (sym c.extension.view_is) c.requires in
    never_none is.attempt (get i.attempts.attempts near) c.in-None.ensures (ap (λ (t : StartupState). get t.attempts near) c.self.view_is ∙ is.there)

pub invariant_of-self : goal.invariant_of-self
invariant_of-self c =
    let i = c.self.inside in
    let near = c.extension.inside.found.near in
    let is = subst (λ e. Extends c.args.self.now e) (sym c.extension.view_is) c.requires in
    changed_is_kept i.cert i.print i.cookies i.peers i.attempts.attempts i.kept.keyings c.self.invariant near is.attempt (ap (λ (t : StartupState). get t.attempts near) c.self.view_is ∙ is.there)
    (λ a. extended a (take c.extension.inside.new.count c.extension.inside.new.to) c.args.moment) c.change.new.self.attempts c.change.ensures
    (record { aim = λ a. refl; ni = λ a. refl }) (c.self.invariant.sound.stages near is.attempt (ap (λ (t : StartupState). get t.attempts near) c.self.view_is ∙ is.there))
