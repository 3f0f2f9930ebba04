use Rattle.std.proofs.Common.{◌+◌, List, subst, arith}
use Rattle.flow_send.specs.declared.waiting.Waiting.{Waiting}
use Rattle.flow_send.specs.Deadlines.{IsNotBefore}
use Rattle.flow_send.specs.Messages.{IsFirstFrom}
use Rattle.flow_send.proofs.Lowest.{Walked, walk_from, walk_on, walk_lower, at_latest}
use Rattle.flow_send.proofs.backlog.Backlog.low_in.Goals as goal

pub loop-next-init : goal.loop-next-init
loop-next-init c =
    let ws = c.args.self.now in
    walk_from (λ (w : Waiting). IsNotBefore 18446744073709551615 w.options.deadline) c.args.block c.saturating_mul.result ws c.from-next.result c.requires (omega (arith, c.saturating_mul.ensures))
    (subst (λ (vs : List Waiting). IsFirstFrom c.saturating_mul.result vs c.from-next.result) c.self.view_is c.from-next.ensures)

pub loop-next-preserved : goal.loop-next-preserved
loop-next-preserved c =
    let ws = c.args.self.now in
    let f = c.in-Some.number in
    walk_on (λ (w : Waiting). IsNotBefore c.min-low.result w.options.deadline) c.args.block f ws c.after-next.result c.requires
    (subst (λ (vs : List Waiting). IsFirstFrom (f + 1) vs c.after-next.result) c.self.view_is c.after-next.ensures)
    (at_latest f c.args.block c.min-low.result c.latest_at.result ws (omega (arith, c.min-low.ensures)) c.latest_at.ensures)
    (walk_lower c.loop-next.low c.min-low.result c.args.block ws c.in-Some.number (omega (arith, c.min-low.ensures)) (subst (Walked (λ (w : Waiting). IsNotBefore c.loop-next.low w.options.deadline) c.args.block ws) c.in-Some.is c.loop-next.invariant))
