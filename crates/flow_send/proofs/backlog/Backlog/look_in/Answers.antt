use Rattle.std.proofs.Common.{◌≡◌, ◌+◌, List, length, false, sym, ◌∙◌, subst, arith}
use Rattle.flow_send.specs.declared.waiting.Waiting.{Waiting}
use Rattle.flow_send.specs.Sender.{is_overdue}
use Rattle.flow_send.specs.Messages.{IsFirstFrom}
use Rattle.flow_send.proofs.Walking.{in_line}
use Rattle.flow_send.proofs.Lowest.{Walked, walk_from, walk_on, none_at, one_at}
use Rattle.flow_send.proofs.backlog.Backlog.look_in.Goals as goal

pub loop-next-init : goal.loop-next-init
loop-next-init c =
    let ws = c.args.self.now in
    walk_from (λ (w : Waiting). is_overdue c.args.moment (c.args.forward + 1) c.args.rows.now.rows w ≡ false) c.args.block c.saturating_mul.result ws c.from-next.result (in_line 0 (c.args.forward + 1 + length c.args.rows.now.rows) ws c.requires) (omega (arith, c.saturating_mul.ensures))
    (subst (λ (vs : List Waiting). IsFirstFrom c.saturating_mul.result vs c.from-next.result) c.self.view_is c.from-next.ensures)

pub loop-next-preserved : goal.loop-next-preserved
loop-next-preserved c =
    let ws = c.args.self.now in
    let f = c.in-Some.number in
    walk_on (λ (w : Waiting). is_overdue c.args.moment (c.args.forward + 1) c.args.rows.now.rows w ≡ false) c.args.block f ws c.after-next.result (in_line 0 (c.args.forward + 1 + length c.args.rows.now.rows) ws c.requires)
    (subst (λ (vs : List Waiting). IsFirstFrom (f + 1) vs c.after-next.result) c.self.view_is c.after-next.ensures)
    (none_at c.args.moment (c.args.forward + 1) f c.args.block c.args.rows.now.rows ws (sym c.is_overdue_in.ensures ∙ c.if-is_overdue_in.false))
    (subst (Walked (λ (w : Waiting). is_overdue c.args.moment (c.args.forward + 1) c.args.rows.now.rows w ≡ false) c.args.block ws) c.in-Some.is c.loop-next.invariant)

pub returns-then-is_overdue_in : goal.returns-then-is_overdue_in
returns-then-is_overdue_in c =
    let ws = c.args.self.now in
    one_at c.args.moment (c.args.forward + 1) c.in-Some.number c.args.block c.args.rows.now.rows ws (in_line 0 (c.args.forward + 1 + length c.args.rows.now.rows) ws c.requires) (sym c.is_overdue_in.ensures ∙ c.if-is_overdue_in.true)
    (subst (Walked (λ (w : Waiting). is_overdue c.args.moment (c.args.forward + 1) c.args.rows.now.rows w ≡ false) c.args.block ws) c.in-Some.is c.loop-next.invariant)
