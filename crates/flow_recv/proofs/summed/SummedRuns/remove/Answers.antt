use Rattle.std.proofs.Common.{List, ap, ◌∙◌, arith}
use Rattle.std.specs.List.{sum_by}
use Rattle.rtmfp_data_chunks.specs.Runs.{Run}
use Rattle.flow_recv.specs.Keyed.{run_at}
use Rattle.flow_recv.specs.Sums.{given, share}
use Rattle.flow_recv.proofs.Summing.{sum_without, share_at, share_le}
use Rattle.flow_recv.proofs.summed.SummedRuns.remove.Goals as goal

pub take-requires : goal.take-requires
take-requires c =
    let s = c.self.inside in
    share_le s.sums c.args.first s.runs c.open_at-gone.result c.self.invariant (c.open_at-gone.ensures)

pub invariant_of-self : goal.invariant_of-self
invariant_of-self c = λ i.
    let s = c.self.inside in
    let w = sum_without (given i) c.args.first s.runs in
    let g = ap (share i) (c.open_at-gone.ensures) ∙ share_at i (run_at c.args.first s.runs) in
    let r = ap (λ (ys : List Run). sum_by (given i) ys) c.remove.ensures.rest in
    omega (arith, w, g, r, c.self.invariant i, c.take.ensures.taken i)
