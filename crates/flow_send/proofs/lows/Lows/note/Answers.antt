use Rattle.std.proofs.Common.{◌∙◌, ap, sym, subst, arith}
use Rattle.flow_send.specs.Deadlines.{IsNotBefore}
use Rattle.flow_send.specs.Lows.{low_at, block_of}
use Rattle.flow_send.proofs.Lowest.{lowered}
use Rattle.flow_send.proofs.lows.Lows.note.Goals as goal

pub put-requires-clause-inside : goal.put-requires-clause-inside
put-requires-clause-inside c = omega (arith, c.in_ok-make.ensures.made)

pub put-requires-clause-others : goal.put-requires-clause-others
put-requires-clause-others c = λ i lt e ne. let k = c.top.ensures i lt e in omega (arith, k, c.min-top.ensures)

pub returns-clause-lower : goal.returns-clause-lower
returns-clause-lower c = λ b.
    let m = c.make.new.self in
    let l = lowered m c.put.new.self c.block_of-block.result b c.min-low.result c.put.ensures.own (omega (arith, c.min-low.ensures, c.at.ensures)) c.put.ensures.others in
    omega (arith, l, c.make.ensures.same b)

pub returns-clause-own : goal.returns-clause-own
returns-clause-own c =
    let own = ap (λ b. low_at c.put.new.self b) (sym c.block_of-block.ensures) ∙ c.put.ensures.own in
    subst (IsNotBefore (low_at c.put.new.self (block_of c.args.number))) (sym c.in-Some.is) (omega (arith, own, c.min-low.ensures))
