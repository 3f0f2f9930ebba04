use Rattle.std.proofs.Common.{◌≡◌, ◌<◌, not, true, false, length, ap, sym, ◌∙◌, arith}
use Rattle.std.specs.List.{sum_by}
use Rattle.flow_send.specs.declared.totals.Totals.{Totals}
use Rattle.flow_send.specs.Sender.{is_spent_row}
use Rattle.flow_send.specs.Rows.{Roomy, lost_of, row_at, end_row}
use Rattle.flow_send.proofs.Summing.{none_spent, default_row}
use Rattle.flow_send.proofs.Between.{any_none, any_true, any_more}
use Rattle.flow_send.proofs.rows.Rows.is_spent.Goals as goal

pub loop-at-init : goal.loop-at-init
loop-at-init c = any_none (is_spent_row c.args.limit) c.args.from c.args.from c.args.self.now.rows (omega arith)

pub returns-then-is_spent : goal.returns-then-is_spent
returns-then-is_spent c =
    let rows = c.args.self.now.rows in
    let at = c.loop-at.at in
    let lt : at < length rows = omega arith in
    let r = c.index.result.now in
    let is : r ≡ row_at rows at = (c.index.ensures ∙ ap (λ (p : Roomy). Rattle.std.proofs.Common.get_or p.rows at r) c.self.view_is) ∙ default_row rows at r end_row lt in
    let yes : (is_spent_row c.args.limit) (row_at rows at) ≡ true = ap (is_spent_row c.args.limit) (sym is) ∙ (sym c.is_spent.ensures ∙ c.if-is_spent.true) in
    sym (any_true (is_spent_row c.args.limit) c.args.from c.args.to at rows (omega arith) (omega arith) lt yes)

pub loop-at-preserved : goal.loop-at-preserved
loop-at-preserved c =
    let rows = c.args.self.now.rows in
    let at = c.loop-at.at in
    let lt : at < length rows = omega arith in
    let r = c.index.result.now in
    let is : r ≡ row_at rows at = (c.index.ensures ∙ ap (λ (p : Roomy). Rattle.std.proofs.Common.get_or p.rows at r) c.self.view_is) ∙ default_row rows at r end_row lt in
    let no : (is_spent_row c.args.limit) (row_at rows at) ≡ false = ap (is_spent_row c.args.limit) (sym is) ∙ (sym c.is_spent.ensures ∙ c.if-is_spent.false) in
    any_more (is_spent_row c.args.limit) c.args.from at rows (omega arith) lt c.loop-at.invariant no

pub returns-then-self-eq0 : goal.returns-then-self-eq0
returns-then-self-eq0 c =
    let z : sum_by lost_of c.args.self.now.rows ≡ 0 =
    sym (ap (λ (p : Roomy). sum_by lost_of p.rows) c.self.view_is) ∙ (sym (ap (λ (t : Totals). t.lost) c.self.invariant.0) ∙ c.if-self-eq0.true) in
    sym (none_spent c.args.limit c.args.from c.args.to c.args.self.now.rows z)
