use Rattle.std.proofs.Common.{◌+◌, ◌∷◌, nat_le, cond, Bool, true, false, List, sym, subst}
use Rattle.std.specs.List.{filter}
use Rattle.rtmfp_data_chunks.specs.Runs.{Run}
use Rattle.flow_recv.specs.Receiver.{span}
use Rattle.flow_recv.specs.Order.{InOrder}
use Rattle.flow_recv.specs.Keyed.{stays}
use Rattle.flow_recv.proofs.Laying.{order_filter}
use Rattle.flow_recv.proofs.receiver.drop_after.Goals as goal

order_if : (test : Run → Bool) (runs : List Run) (t : Bool) → InOrder 0 runs → InOrder 0 (cond t runs (filter test runs))
order_if test runs true h = h
order_if test runs false h = order_filter test 0 runs h

pub drop_dead-requires-clause-order : goal.drop_dead-requires-clause-order
drop_dead-requires-clause-order c =
    subst (InOrder 0) (sym c.drop_passed-passed.ensures.kept)
    (order_if (stays (span 0 c.args.through ∷ c.args.above.now) (c.args.before + 1) c.args.forward) c.args.runs.now (nat_le c.args.forward c.args.before) c.requires.order)
