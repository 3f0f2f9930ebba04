use Rattle.std.proofs.Common.{◌≡◌, ◌++◌, length}
use Rattle.rtmfp_report.specs.EntryText.{entries_text, sent_after}
use Rattle.rtmfp_report.proofs.entries.push_entries.Given as goal

abbrev pub invariant-loop-rest : goal.invariant-loop-rest
invariant-loop-rest l =
    (l.text ++ entries_text l.keys l.ends l.line l.name l.count l.rest ≡ l.fn.text ++ entries_text l.fn.keys l.ends l.line l.name l.sent l.entries)
    × (sent_after l.count l.rest ≡ sent_after l.sent l.entries) × (l.keys ≡ l.fn.keys)

abbrev pub decreases-loop-rest : goal.decreases-loop-rest
decreases-loop-rest l = length l.rest
