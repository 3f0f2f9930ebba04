use Rattle.std.proofs.Common.{◌∙◌, arith}
use Rattle.deadlines.specs.Inside.{deadline_of}
use Rattle.deadlines.proofs.Halving.{due_set, entries_fewer, merged_moved, split_moved}
use Rattle.deadlines.proofs.halves.move_due.Goals as goal

pub loop-first-preserved : goal.loop-first-preserved
loop-first-preserved c = rw (c.clear.ensures, c.set.ensures) (record {
  split = split_moved c.loop-first.later c.loop-first.ready c.loop-first.invariant.split c.in-Some.first c.in-Some.ensures.some.stands;
  due = due_set c.loop-first.ready c.args.moment c.in-Some.first.slot c.in-Some.first.at c.in-Some.first.near c.loop-first.invariant.due c.in-Some.ensures.some.is_due;
  same = merged_moved c.loop-first.later c.loop-first.ready c.loop-first.invariant.split c.in-Some.first c.in-Some.ensures.some.stands ∙ c.loop-first.invariant.same;
})

pub loop-first-smaller : goal.loop-first-smaller
loop-first-smaller c = let fewer = entries_fewer c.loop-first.later c.in-Some.first.slot (deadline_of c.in-Some.first) c.in-Some.ensures.some.stands in rw c.clear.ensures (omega (arith, fewer))
