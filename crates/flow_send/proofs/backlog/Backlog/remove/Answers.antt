use Rattle.std.proofs.Common.{List, ◌≡◌, ◌∙◌, ap, sym, subst, arith}
use Rattle.std.specs.List.{sum_by}
use Rattle.flow_send.specs.declared.waiting.Waiting.{Waiting}
use Rattle.flow_send.specs.Deadlines.{Reach}
use Rattle.flow_send.specs.Lows.{AreLows}
use Rattle.flow_send.proofs.Lowest.{lows_without}
use Rattle.flow_send.proofs.Walking.{sum_removed, none_removed}
use Rattle.flow_send.proofs.Quiet.{reach_without}
use Rattle.flow_send.proofs.backlog.Backlog.remove.Goals as goal

pub overflow_sub-self : goal.overflow_sub-self
overflow_sub-self c =
    let i = c.self.inside in
    omega (arith, sum_removed (λ (w : Waiting). w.size) c.args.number i.messages c.in-Some.message (sym c.in-Some.ensures.message), c.self.invariant.0)

pub invariant_of-self : goal.invariant_of-self
invariant_of-self c =
    let i = c.self.inside in
    let e = c.in-Some.ensures.rest in
    let at = sym c.in-Some.ensures.message in (
      omega (arith, ap (λ (ws : List Waiting). sum_by (λ (w : Waiting). w.size) ws) e, sum_removed (λ (w : Waiting). w.size) c.args.number i.messages c.in-Some.message at, c.self.invariant.0),
      omega (arith, ap (λ (ws : List Waiting). sum_by (λ (w : Waiting). w.count) ws) e, sum_removed (λ (w : Waiting). w.count) c.args.number i.messages c.in-Some.message at, c.self.invariant.1),
      subst (Reach i.soonest i.limited) (sym e) (reach_without i.soonest i.limited c.args.number i.messages c.self.invariant.2),
      subst (AreLows i.lows) (sym e) (lows_without i.lows c.args.number i.messages c.self.invariant.3),
    )

pub overflow_sub-self-in-Some : goal.overflow_sub-self-in-Some
overflow_sub-self-in-Some c =
    let i = c.self.inside in
    omega (arith, sum_removed (λ (w : Waiting). w.count) c.args.number i.messages c.in-Some.message (sym c.in-Some.ensures.message), c.self.invariant.1)

pub invariant_of-self-in_default : goal.invariant_of-self-in_default
invariant_of-self-in_default c =
    let i = c.self.inside in
    let e : c.remove.new.self ≡ i.messages = c.in_default.ensures.rest ∙ none_removed c.args.number i.messages (sym c.in_default.ensures.message) in (
      c.self.invariant.0 ∙ ap (λ (ws : List Waiting). sum_by (λ (w : Waiting). w.size) ws) (sym e),
      c.self.invariant.1 ∙ ap (λ (ws : List Waiting). sum_by (λ (w : Waiting). w.count) ws) (sym e),
      subst (Reach i.soonest i.limited) (sym e) c.self.invariant.2,
      subst (AreLows i.lows) (sym e) c.self.invariant.3,
    )
