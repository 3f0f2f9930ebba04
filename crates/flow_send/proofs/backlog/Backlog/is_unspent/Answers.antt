use Rattle.std.proofs.Common.{◌≡◌, not, Bool, true, false, refl, subst, inl, inr}
use Rattle.flow_send.specs.Deadlines.{Reach}
use Rattle.flow_send.proofs.backlog.Backlog.is_unspent.Goals as goal

was_false : (b : Bool) → not b ≡ true → b ≡ false
was_false true e = absurd cc
was_false false e = refl

pub returns-then-not-self : goal.returns-then-not-self
returns-then-not-self c = λ e.
    let i = c.self.inside in
    let reach : Reach i.soonest i.limited c.args.self.now = subst (Reach i.soonest i.limited) c.self.view_is c.self.invariant.2 in
    inl (reach.limits c.if-not-self.true)

pub returns : goal.returns
returns c = λ e. inr (c.any_lost.ensures (was_false c.any_lost.result e))
