use Rattle.std.proofs.Common.{length, Option, ap, arith}
use Rattle.rtmfp_data_chunks.specs.Runs.{Run}
use Rattle.flow_recv.specs.Receiver.{held_in}
use Rattle.flow_recv.specs.Keyed.{with_newest}
use Rattle.flow_recv.proofs.Summing.{sum_with}
use Rattle.flow_recv.proofs.newest.settle.Goals as goal

pub insert-requires-clause-few : goal.insert-requires-clause-few
insert-requires-clause-few c =
    let e = ap (λ (o : Option Run). held_in (with_newest o c.args.older.now)) c.in-Some.ensures.value in
    omega (arith, e, sum_with (λ (y : Run). length y.bytes) c.in-Some.run' c.args.older.now, c.requires.few)
