use Rattle.std.proofs.Common.{◌≡◌, ◌++◌, ◌∷◌, [], List, false, None, ap, sym, ◌∙◌, subst, arith}
use Rattle.std.specs.List.{sum_by}
use Rattle.std.proofs.lemmas.List.Sums.{sum_by_push}
use Rattle.flow_send.specs.declared.waiting.Waiting.{Waiting}
use Rattle.flow_send.specs.Deadlines.{Reach}
use Rattle.flow_send.specs.Lows.{AreLows}
use Rattle.flow_send.proofs.Lowest.{lows_push, lows_lower}
use Rattle.flow_send.proofs.Quiet.{reach_push}
use Rattle.flow_send.proofs.backlog.Backlog.push.Goals.{then-limited, else-limited}
use Rattle.flow_send.proofs.backlog.Backlog.push.Goals as goal

pub invariant_of-self-2 : goal.invariant_of-self-2
invariant_of-self-2 c =
    let ws = c.args.self.now in
    let w = c.args.message in
    let none : c.if-limited.self ≡ false → (c.reach-soonest.result.1 ≡ false) × (w.options.resends ≡ None) = λ e. elim c.if-limited.branch [
      | then-limited b ↦ absurd cc
      | else-limited b ↦ (b.if-limited.false, b.is_limited-self-inside.ensures (sym b.self-is ∙ e))
    ] in
    let r : Reach c.min-self-inside.result c.if-limited.self (ws ++ w ∷ []) =
    reach_push c.reach-soonest.result.0 c.min-self-inside.result c.latest.result c.reach-soonest.result.1 c.if-limited.self ws w c.reach-soonest.ensures (omega arith) (omega arith) c.latest.ensures none in
    let i = c.self.inside in
    let e = c.in_ok-push.ensures.pushed in (
      omega (arith, ap (λ (xs : List Waiting). sum_by (λ (v : Waiting). v.size) xs) e, sum_by_push (λ (v : Waiting). v.size) i.messages w, c.self.invariant.0),
      omega (arith, ap (λ (xs : List Waiting). sum_by (λ (v : Waiting). v.count) xs) e, sum_by_push (λ (v : Waiting). v.count) i.messages w, c.self.invariant.1),
      subst (λ (xs : List Waiting). Reach c.min-self-inside.result c.if-limited.self xs) (ap (λ (xs : List Waiting). xs ++ w ∷ []) (sym c.self.view_is) ∙ sym e) r,
      subst (AreLows c.note.new.self) (sym e) (lows_push c.note.new.self i.messages w (lows_lower i.lows c.note.new.self i.messages c.note.ensures.lower c.self.invariant.3) c.in_ok-note.ensures.own),
    )

pub invariant_of-self : goal.invariant_of-self
invariant_of-self c =
    let i = c.self.inside in
    (c.self.invariant.0, c.self.invariant.1, c.self.invariant.2, lows_lower i.lows c.note.new.self i.messages c.note.ensures.lower c.self.invariant.3)

pub invariant_of-self-in_err-push : goal.invariant_of-self-in_err-push
invariant_of-self-in_err-push c =
    let i = c.self.inside in
    let e = sym c.in_err-push.ensures.err in (
      c.self.invariant.0 ∙ ap (λ (xs : List Waiting). sum_by (λ (v : Waiting). v.size) xs) e,
      c.self.invariant.1 ∙ ap (λ (xs : List Waiting). sum_by (λ (v : Waiting). v.count) xs) e,
      subst (Reach i.soonest i.limited) e c.self.invariant.2,
      subst (AreLows c.note.new.self) e (lows_lower i.lows c.note.new.self i.messages c.note.ensures.lower c.self.invariant.3),
    )
