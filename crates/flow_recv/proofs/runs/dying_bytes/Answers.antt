use Rattle.std.proofs.Common.{◌≡◌, ◌+◌, ◌∷◌, ◌||◌, List, Some, ap, arith}
use Rattle.std.specs.List.{filter}
use Rattle.rtmfp_data_chunks.specs.Runs.{Run}
use Rattle.flow_recv.specs.Receiver.{span, held_in}
use Rattle.flow_recv.specs.Keyed.{stays, is_left}
use Rattle.flow_recv.proofs.Laying.{order_filter}
use Rattle.flow_recv.proofs.Wholes.{wholes_stay}
use Rattle.flow_recv.proofs.Walking.{walk_begins, bytes_step, held_step, goes_all}
use Rattle.flow_recv.proofs.runs.dying_bytes.Goals as goal

pub loop-next-init : goal.loop-next-init
loop-next-init c =
    let spans = span 0 c.args.through ∷ c.args.above.now in
    let b = ap (λ (zs : List Run). held_in zs) (walk_begins spans c.args.low c.args.high c.args.runs.now c.reaching-next.result c.reaching-next.ensures) in
    omega (arith, b)

pub overflow_add-dying : goal.overflow_add-dying
overflow_add-dying c =
    let test = stays (span 0 c.args.through ∷ c.args.above.now) c.args.low c.args.high in
    let s = held_step test c.in-Some.first c.args.runs.now c.requires.order in
    omega (arith, s, c.bytes_unless_stays-dying.ensures, c.loop-next.invariant, c.requires.few)

pub loop-next-preserved : goal.loop-next-preserved
loop-next-preserved c =
    let runs = c.args.runs.now in
    let f = c.in-Some.first in
    let test = stays (span 0 c.args.through ∷ c.args.above.now) c.args.low c.args.high in
    let now = ap (λ o. held_in (filter (λ (y : Run). is_left o y || test y) runs)) c.in-Some.is in
    let step = bytes_step test f runs c.after-next.result c.requires.order (order_filter (λ (y : Run). is_left (Some f) y || test y) 0 runs c.requires.order) (goes_all f test runs c.after-next.result c.requires.order c.after-next.ensures) in
    let e : held_in (filter (λ (y : Run). is_left c.after-next.result y || test y) runs) + (c.loop-next.dying + c.bytes_unless_stays-dying.result) ≡ held_in runs = omega (arith, now, step, c.bytes_unless_stays-dying.ensures, c.loop-next.invariant) in e

pub returns-then-are_whole : goal.returns-then-are_whole
returns-then-are_whole c =
    let e = ap (λ (zs : List Run). held_in zs) (wholes_stay (span 0 c.args.through ∷ c.args.above.now) c.args.low c.args.high c.args.runs.now (c.are_whole.ensures c.if-are_whole.true)) in
    omega (arith, e)
