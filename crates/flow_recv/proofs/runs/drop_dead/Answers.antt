use Rattle.std.proofs.Common.{◌≡◌, ◌∷◌, ◌||◌, ◌==◌, not, List, Some, sym, ap, ◌∙◌, subst, arith}
use Rattle.std.specs.List.{filter}
use Rattle.rtmfp_data_chunks.specs.Runs.{Run}
use Rattle.flow_recv.specs.Receiver.{span}
use Rattle.flow_recv.specs.Order.{InOrder}
use Rattle.flow_recv.specs.Keyed.{stays, is_left}
use Rattle.flow_recv.proofs.Laying.{order_filter}
use Rattle.flow_recv.proofs.Wholes.{wholes_stay}
use Rattle.flow_recv.proofs.Walking.{walk_begins, walk_step, goes_left}
use Rattle.flow_recv.proofs.runs.drop_dead.Goals as goal

pub loop-next-init : goal.loop-next-init
loop-next-init c =
    let spans = span 0 c.args.through ∷ c.args.above.now in
    record {
      kept = sym (walk_begins spans c.args.low c.args.high c.args.runs.now c.reaching-next.result c.reaching-next.ensures);
      dropped = omega arith;
    }

pub drop_unless_stays-dropped-requires-clause-order : goal.drop_unless_stays-dropped-requires-clause-order
drop_unless_stays-dropped-requires-clause-order c =
    let test = stays (span 0 c.args.through ∷ c.args.above.now) c.args.low c.args.high in
    subst (InOrder 0) (sym c.loop-next.invariant.kept) (order_filter (λ (y : Run). is_left c.loop-next.next y || test y) 0 c.args.runs.now c.requires.order)

pub loop-next-preserved : goal.loop-next-preserved
loop-next-preserved c =
    let old = c.args.runs.now in
    let f = c.in-Some.first in
    let test = stays (span 0 c.args.through ∷ c.args.above.now) c.args.low c.args.high in
    let new = c.drop_unless_stays-dropped.new.runs in
    let now : c.loop-next.runs ≡ filter (λ (y : Run). is_left (Some f) y || test y) old = c.loop-next.invariant.kept ∙ ap (λ o. filter (λ (y : Run). is_left o y || test y) old) c.in-Some.is in
    let step = c.drop_unless_stays-dropped.ensures.kept ∙ ap (λ (zs : List Run). filter (λ y. not (y.first == f) || test y) zs) now in
    let order : InOrder 0 new = subst (InOrder 0) (sym step) (order_filter (λ y. not (y.first == f) || test y) 0 (filter (λ (y : Run). is_left (Some f) y || test y) old) (order_filter (λ (y : Run). is_left (Some f) y || test y) 0 old c.requires.order)) in
    record {
      kept = step ∙ walk_step f test old c.after-next.result (goes_left f test old new c.after-next.result c.requires.order order step c.after-next.ensures);
      dropped = omega (arith, c.drop_unless_stays-dropped.ensures.dropped, c.loop-next.invariant.dropped);
    }

pub returns-then-are_whole-clause-kept : goal.returns-then-are_whole-clause-kept
returns-then-are_whole-clause-kept c = sym (wholes_stay (span 0 c.args.through ∷ c.args.above.now) c.args.low c.args.high c.args.runs.now (c.are_whole.ensures c.if-are_whole.true))
