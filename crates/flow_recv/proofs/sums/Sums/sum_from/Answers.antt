use Rattle.std.proofs.Common.{suc, arith}
use Rattle.flow_recv.proofs.Summing.{sum_from_le}
use Rattle.flow_recv.proofs.sums.Sums.sum_from.Goals as goal

pub overflow_add-sum : goal.overflow_add-sum
overflow_add-sum c =
    let s = c.args.self.now in
    let le = sum_from_le s c.args.block (suc c.loop-step.step) c.args.count (omega (arith, c.loop-step-test.true)) in
    omega (arith, le, c.loop-step.invariant, c.at-sum.ensures, c.requires.few)
