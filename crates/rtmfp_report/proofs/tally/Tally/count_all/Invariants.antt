use Rattle.std.proofs.Common.{◌≡◌, length}
use Rattle.rtmfp_report.specs.Tally.{with_entries}
use Rattle.rtmfp_report.proofs.tally.Tally.count_all.Given as goal

abbrev pub invariant-loop-rest : goal.invariant-loop-rest
invariant-loop-rest l = with_entries l.self l.rest ≡ with_entries l.fn.self l.entries

abbrev pub decreases-loop-rest : goal.decreases-loop-rest
decreases-loop-rest l = length l.rest
