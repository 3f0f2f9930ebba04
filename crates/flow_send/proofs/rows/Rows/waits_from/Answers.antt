use Rattle.std.proofs.Common.{◌≡◌, ◌<◌, not, true, false, length, ap, sym, ◌∙◌, arith}
use Rattle.flow_send.specs.Rows.{is_settled}
use Rattle.flow_send.specs.Rows.{Row, Roomy, row_at, end_row}
use Rattle.flow_send.proofs.Summing.{default_row}
use Rattle.flow_send.proofs.Between.{any_none, any_true, any_more}
use Rattle.flow_send.proofs.rows.Rows.waits_from.Goals as goal

pub loop-at-init : goal.loop-at-init
loop-at-init c = any_none (λ (r : Row). not (is_settled r.state)) c.args.from c.args.from c.args.self.now.rows (omega arith)

pub returns-then-not-is_settled : goal.returns-then-not-is_settled
returns-then-not-is_settled c =
    let rows = c.args.self.now.rows in
    let at = c.loop-at.at in
    let lt : at < length rows = omega arith in
    let r = c.index.result.now in
    let is : r ≡ row_at rows at = (c.index.ensures ∙ ap (λ (p : Roomy). Rattle.std.proofs.Common.get_or p.rows at r) c.self.view_is) ∙ default_row rows at r end_row lt in
    let yes : (λ (r : Row). not (is_settled r.state)) (row_at rows at) ≡ true = ap (λ (r : Row). not (is_settled r.state)) (sym is) ∙ ap not (sym (ap is_settled c.state.ensures) ∙ (sym c.is_settled.ensures ∙ c.if-not-is_settled.true)) in
    sym (any_true (λ (r : Row). not (is_settled r.state)) c.args.from c.args.to at rows (omega arith) (omega arith) lt yes)

pub loop-at-preserved : goal.loop-at-preserved
loop-at-preserved c =
    let rows = c.args.self.now.rows in
    let at = c.loop-at.at in
    let lt : at < length rows = omega arith in
    let r = c.index.result.now in
    let is : r ≡ row_at rows at = (c.index.ensures ∙ ap (λ (p : Roomy). Rattle.std.proofs.Common.get_or p.rows at r) c.self.view_is) ∙ default_row rows at r end_row lt in
    let no : (λ (r : Row). not (is_settled r.state)) (row_at rows at) ≡ false = ap (λ (r : Row). not (is_settled r.state)) (sym is) ∙ ap not (sym (ap is_settled c.state.ensures) ∙ (sym c.is_settled.ensures ∙ c.if-not-is_settled.false)) in
    any_more (λ (r : Row). not (is_settled r.state)) c.args.from at rows (omega arith) lt c.loop-at.invariant no
