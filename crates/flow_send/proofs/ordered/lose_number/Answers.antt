use Rattle.std.proofs.Common.{◌≡◌, ◌+◌, ◌-◌, ap, sym, ◌∙◌, arith}
use Rattle.flow_send.specs.Rows.{any_row}
use Rattle.flow_send.specs.Ordered.{is_late_one}
use Rattle.flow_send.proofs.Losing.{any_none, lose_none, any_here, lose_here}
use Rattle.flow_send.proofs.ordered.lose_number.Goals as goal

pub returns-then-number-forward-clause-rows : goal.returns-then-number-forward-clause-rows
returns-then-number-forward-clause-rows c = lose_none c.args.moment c.args.resend_after c.args.number (c.args.forward + 1) c.args.rows.now.rows (λ k lo hi e. omega (arith, lo, e, c.if-number-forward.true))

pub returns-then-number-forward-clause-late : goal.returns-then-number-forward-clause-late
returns-then-number-forward-clause-late c = sym (any_none c.args.moment c.args.resend_after c.args.number (c.args.forward + 1) c.args.rows.now.rows (λ k lo hi e. omega (arith, lo, e, c.if-number-forward.true)))

pub returns-then-at-len-clause-rows : goal.returns-then-at-len-clause-rows
returns-then-at-len-clause-rows c = lose_none c.args.moment c.args.resend_after c.args.number (c.args.forward + 1) c.args.rows.now.rows (λ k lo hi e. omega (arith, lo, hi, e, c.if-number-forward.false, c.if-at-len.true, c.len.ensures))

pub returns-then-at-len-clause-late : goal.returns-then-at-len-clause-late
returns-then-at-len-clause-late c = sym (any_none c.args.moment c.args.resend_after c.args.number (c.args.forward + 1) c.args.rows.now.rows (λ k lo hi e. omega (arith, lo, hi, e, c.if-number-forward.false, c.if-at-len.true, c.len.ensures)))

pub returns-clause-rows : goal.returns-clause-rows
returns-clause-rows c =
    c.lose_at.ensures.rows ∙ lose_here c.args.moment c.args.resend_after c.args.number (c.args.forward + 1) (c.args.number - c.args.forward - 1) c.args.rows.now.rows (omega (arith, c.if-number-forward.false, c.if-at-len.false, c.len.ensures)) (omega (arith, c.if-number-forward.false))

pub returns-clause-late : goal.returns-clause-late
returns-clause-late c =
    let n = c.args.forward + 1 in
    let at = c.args.number - c.args.forward - 1 in
    let number : n + at ≡ c.args.number = omega (arith, c.if-number-forward.false) in
    c.is_late-late.ensures ∙ (any_here c.args.moment c.args.resend_after n at c.args.rows.now.rows (omega (arith, c.if-number-forward.false, c.if-at-len.false, c.len.ensures))
    ∙ ap (λ i. any_row (is_late_one c.args.moment c.args.resend_after i) n c.args.rows.now.rows) number)
