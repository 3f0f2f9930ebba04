use Rattle.std.proofs.Common.{◌≡◌, length}
use Rattle.rtmfp_report.specs.EntryText.{sent_after}
use Rattle.rtmfp_node.proofs.notes.sent_after.Given as goal

abbrev pub invariant-loop-rest : goal.invariant-loop-rest
invariant-loop-rest l = sent_after l.count l.rest ≡ sent_after l.sent l.entries

abbrev pub decreases-loop-rest : goal.decreases-loop-rest
decreases-loop-rest l = length l.rest
