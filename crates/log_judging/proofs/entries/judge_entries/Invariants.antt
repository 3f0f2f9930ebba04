use Rattle.std.proofs.Common.{◌≡◌, ◌+◌, length}
use Rattle.std.specs.Option.{option_copied}
use Rattle.log_judging.proofs.Entering.{AllSoFar}
use Rattle.log_judging.proofs.entries.judge_entries.Given as goal

abbrev pub invariant-loop-rest : goal.invariant-loop-rest
invariant-loop-rest l = record {
  all : AllSoFar l.secrets l.number l.scene (option_copied l.packet) l.entries l.fn.watch l.fn.nonces l.rest l.count l.watch l.way l.nonces;
  small : l.count + length l.rest ≡ length l.entries;
}

abbrev pub decreases-loop-rest : goal.decreases-loop-rest
decreases-loop-rest l = length l.rest
