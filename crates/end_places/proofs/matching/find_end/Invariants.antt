use Rattle.std.proofs.Common.{◌≡◌, length}
use Rattle.std.specs.List.{find}
use Rattle.end_places.specs.Seen.{has_number}
use Rattle.end_places.proofs.matching.find_end.Given as goal

abbrev pub invariant-loop-rest : goal.invariant-loop-rest
invariant-loop-rest l = find (has_number l.end) l.rest ≡ find (has_number l.end) l.ends

abbrev pub decreases-loop-rest : goal.decreases-loop-rest
decreases-loop-rest l = length l.rest
