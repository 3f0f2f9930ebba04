use Rattle.std.proofs.Common.{◌≡◌, ◌++◌, length}
use Rattle.log_writing.specs.Written.{entry_lines, text_of}
use Rattle.log_writing.proofs.writing.push_entries.Given as goal

abbrev pub invariant-loop-rest : goal.invariant-loop-rest
invariant-loop-rest l = l.text ++ text_of (entry_lines l.rest) ≡ l.fn.text ++ text_of (entry_lines l.entries)

abbrev pub decreases-loop-rest : goal.decreases-loop-rest
decreases-loop-rest l = length l.rest
