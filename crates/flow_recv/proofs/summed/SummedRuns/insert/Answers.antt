use Rattle.std.proofs.Common.{List, sym, ap, ◌∙◌, subst, arith, length, ◌+◌, ◌<◌, ◌^◌}
use Rattle.std.specs.List.{sum_by}
use Rattle.rtmfp_data_chunks.specs.Runs.{Run}
use Rattle.flow_recv.specs.Receiver.{held_in}
use Rattle.flow_recv.specs.Sums.{given, share, place}
use Rattle.flow_recv.proofs.Summing.{sum_with, given_le, one_open}
use Rattle.flow_recv.proofs.summed.SummedRuns.insert.Goals as goal

pub add-requires-clause-few : goal.add-requires-clause-few
add-requires-clause-few c =
    let s = c.self.inside in
    let i = place c.open-more.result.last in
    let few : held_in s.runs + length c.args.run.bytes < 2 ^ 32 = subst (λ (ys : List Run). held_in ys + length c.args.run.bytes < 2 ^ 32) (sym c.self.view_is) c.requires.few in
    omega (arith, few, c.self.invariant i, c.make.ensures.same i, given_le i s.runs, one_open c.args.run c.open-more.result c.open-more.ensures)

pub invariant_of-self : goal.invariant_of-self
invariant_of-self c = λ i. c.make.ensures.same i ∙ c.self.invariant i

pub invariant_of-self-2 : goal.invariant_of-self-2
invariant_of-self-2 c = λ i.
    let s = c.self.inside in
    let w = sum_with (given i) c.args.run s.runs in
    let g = ap (share i) c.open-more.ensures in
    let r = ap (λ (ys : List Run). sum_by (given i) ys) c.in_ok-insert.ensures.added in
    omega (arith, w, g, r, c.self.invariant i, c.make.ensures.same i, c.add.ensures.added i)
