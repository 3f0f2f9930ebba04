use Rattle.std.proofs.Common.{sym, ap, ◌∙◌}
use Rattle.std.proofs.Common.{List}
use Rattle.std.specs.List.{sum_by}
use Rattle.rtmfp_data_chunks.specs.Runs.{Run, is_whole}
use Rattle.flow_recv.specs.Sums.{given}
use Rattle.flow_recv.proofs.Summing.{sum_first, whole_gives}
use Rattle.flow_recv.proofs.summed.SummedRuns.take_whole.Goals as goal

pub invariant_of-self : goal.invariant_of-self
invariant_of-self c = λ i.
    let s = c.self.inside in
    c.self.invariant i ∙ (sym (sum_first (given i) is_whole s.runs (λ y e. whole_gives i y e)) ∙ sym (ap (λ (ys : List Run). sum_by (given i) ys) c.take_whole.ensures.rest))
