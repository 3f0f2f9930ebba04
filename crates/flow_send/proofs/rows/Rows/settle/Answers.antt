use Rattle.std.proofs.Common.{◌+◌, List, length, drop, ap, ◌∙◌, arith, length-drop}
use Rattle.flow_send.specs.Rows.{Row, settled_front}
use Rattle.flow_send.proofs.Between.{front_next, drop_next, front_there}
use Rattle.flow_send.proofs.rows.Rows.settle.Goals as goal

pub loop-count-preserved : goal.loop-count-preserved
loop-count-preserved c =
    let inv = c.loop-count.invariant in
    let now = c.loop-count.self.rows in
    let f = front_next now (Rattle.std.proofs.Common.sym c.front_settled.ensures ∙ c.if-front_settled.true) in
    let e = ap (λ (xs : List Row). settled_front xs) c.pop.ensures.rows in
    let n = ap (λ (xs : List Row). length xs) c.pop.ensures.rows in
    record {
      rows = c.pop.ensures.rows ∙ (ap (λ (xs : List Row). drop 1 xs) inv.rows ∙ drop_next c.loop-count.count c.args.self.now.rows);
      count = omega (arith, inv.count, f, e);
      all = omega (arith, inv.all, n, length-drop 1 now, front_there now (Rattle.std.proofs.Common.sym c.front_settled.ensures ∙ c.if-front_settled.true));
      room = omega (arith, inv.room, c.pop.ensures.room);
    }
