use Rattle.std.proofs.Common.{◌≡◌, ℕ, ◌+◌, ◌-◌, true, false, ap, sym, ◌∙◌, subst, arith, inl, inr}
use Rattle.flow_send.specs.Rows.{Row}
use Rattle.flow_send.specs.Marks.{Noted, is_losing}
use Rattle.flow_send.proofs.Marking.{all_outside, all_at, Losing}
use Rattle.flow_send.proofs.ordered.mark_number.Goals as goal

pub returns-then-number-forward-clause-covers : goal.returns-then-number-forward-clause-covers
returns-then-number-forward-clause-covers c =
    all_outside (Losing c.args.marks.now c.args.waiting.now c.args.loss) c.args.number (c.args.forward + 1) c.args.rows.now.rows (inl (omega (arith, c.if-number-forward.true)))

pub returns-then-at-len-clause-covers : goal.returns-then-at-len-clause-covers
returns-then-at-len-clause-covers c =
    all_outside (Losing c.args.marks.now c.args.waiting.now c.args.loss) c.args.number (c.args.forward + 1) c.args.rows.now.rows (inr (omega (arith, c.if-at-len.true, c.len.ensures, c.if-number-forward.false)))

pub returns-then-is_losing-clause-covers : goal.returns-then-is_losing-clause-covers
returns-then-is_losing-clause-covers c =
    let at = c.args.number - c.args.forward - 1 in
    let r = c.row-row.result.now in
    all_at (Losing c.mark.new.marks c.args.waiting.now c.args.loss) at c.args.number (c.args.forward + 1) c.args.rows.now.rows (omega (arith, c.if-number-forward.false)) (omega (arith, c.if-at-len.false, c.len.ensures))
    (λ l. subst (λ (i : ℕ). Noted c.mark.new.marks c.args.waiting.now c.args.number i) (c.resends.ensures ∙ ap (λ (x : Row). x.resends) c.row-row.ensures) c.mark.ensures.noted)

pub returns-else-is_losing-clause-covers : goal.returns-else-is_losing-clause-covers
returns-else-is_losing-clause-covers c =
    let at = c.args.number - c.args.forward - 1 in
    all_at (Losing c.args.marks.now c.args.waiting.now c.args.loss) at c.args.number (c.args.forward + 1) c.args.rows.now.rows (omega (arith, c.if-number-forward.false)) (omega (arith, c.if-at-len.false, c.len.ensures))
    (λ l. let e : true ≡ false = sym l ∙ (ap (λ (x : Row). is_losing c.args.loss x) (sym c.row-row.ensures) ∙ (sym c.is_losing.ensures ∙ c.if-is_losing.false)) in absurd cc)
