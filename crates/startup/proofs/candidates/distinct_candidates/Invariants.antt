use Rattle.std.proofs.Common.{◌≡◌, ◌≤◌, take, []}
use Rattle.std.specs.List.{fold}
use Rattle.startup.specs.Attempts.{joined}
use Rattle.startup.proofs.candidates.distinct_candidates.Given as goal

abbrev pub invariant-loop-candidate : goal.invariant-loop-candidate
invariant-loop-candidate l = record {
  places : take l.count l.to ≡ fold joined [] (take l.candidate-index l.candidates);
  few : l.count ≤ l.candidate-index;
}
