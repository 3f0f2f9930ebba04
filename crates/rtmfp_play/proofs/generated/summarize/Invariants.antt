use Rattle.std.proofs.Common.{◌≡◌, take}
use Rattle.rtmfp_report.specs.Tally.{tally_of}
use Rattle.rtmfp_play.specs.Generated.{all_entries}
use Rattle.rtmfp_play.proofs.generated.summarize.Given as goal

abbrev pub invariant-loop-line : goal.invariant-loop-line
invariant-loop-line l = l.tally ≡ tally_of (all_entries (take l.line-index l.line-items))
