use Rattle.std.proofs.Common.{◌≡◌, ◌+◌, ◌-◌, true, false, ap, sym, ◌∙◌, arith, eq-eqb}
use Rattle.std.proofs.lemmas.Bool.{eqb-true}
use Rattle.flow_send.specs.Rows.{Row, is_flying}
use Rattle.flow_send.proofs.Orders.{other_below, other_beyond, other_here, last_at}
use Rattle.flow_send.proofs.ordered.is_last.Goals as goal

pub returns-then-number-forward-clause-other : goal.returns-then-number-forward-clause-other
returns-then-number-forward-clause-other c = λ e t. other_below c.args.sent c.args.number t (c.args.forward + 1) c.args.rows.now.rows (omega (arith, c.if-number-forward.true))

pub returns-then-at-len-clause-other : goal.returns-then-at-len-clause-other
returns-then-at-len-clause-other c = λ e t. other_beyond c.args.sent c.args.number t (c.args.forward + 1) c.args.rows.now.rows (omega (arith, c.if-number-forward.false, c.if-at-len.true, c.len.ensures))

pub returns-then-is_flying-clause-other : goal.returns-then-is_flying-clause-other
returns-then-is_flying-clause-other c = λ e t.
    other_here c.args.sent c.args.number t (c.args.forward + 1) (c.args.number - c.args.forward - 1) c.args.rows.now.rows (omega (arith, c.if-number-forward.false)) (omega (arith, c.if-number-forward.false, c.if-at-len.false, c.len.ensures))
    (λ f q. let o = c.ordinal.ensures ∙ (ap (λ (r : Row). r.ordinal) c.row-row.ensures ∙ q) in let x : true ≡ false = sym (eq-eqb c.ordinal.result c.args.sent o) ∙ e in absurd cc)

pub returns-then-is_flying-clause-last : goal.returns-then-is_flying-clause-last
returns-then-is_flying-clause-last c = λ e.
    last_at c.args.sent c.args.number (c.args.forward + 1) (c.args.number - c.args.forward - 1) c.args.rows.now.rows (omega (arith, c.if-number-forward.false)) (omega (arith, c.if-number-forward.false, c.if-at-len.false, c.len.ensures))
    (sym (c.is_flying.ensures ∙ ap is_flying (c.state.ensures ∙ ap (λ (r : Row). r.state) c.row-row.ensures)) ∙ c.if-is_flying.true)
    (sym (c.ordinal.ensures ∙ ap (λ (r : Row). r.ordinal) c.row-row.ensures) ∙ eqb-true c.ordinal.result c.args.sent e)

pub returns-else-is_flying-clause-other : goal.returns-else-is_flying-clause-other
returns-else-is_flying-clause-other c = λ e t.
    other_here c.args.sent c.args.number t (c.args.forward + 1) (c.args.number - c.args.forward - 1) c.args.rows.now.rows (omega (arith, c.if-number-forward.false)) (omega (arith, c.if-number-forward.false, c.if-at-len.false, c.len.ensures))
    (λ f q. let o = c.is_flying.ensures ∙ (ap is_flying (c.state.ensures ∙ ap (λ (r : Row). r.state) c.row-row.ensures) ∙ f) in let x : true ≡ false = sym o ∙ e in absurd cc)
