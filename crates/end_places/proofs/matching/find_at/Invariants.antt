use Rattle.std.proofs.Common.{◌≡◌, length}
use Rattle.std.specs.List.{find}
use Rattle.end_places.specs.Seen.{stands_at}
use Rattle.end_places.proofs.matching.find_at.Given as goal

abbrev pub invariant-loop-rest : goal.invariant-loop-rest
invariant-loop-rest l = find (stands_at l.at l.behind) l.rest ≡ find (stands_at l.at l.behind) l.ends

abbrev pub decreases-loop-rest : goal.decreases-loop-rest
decreases-loop-rest l = length l.rest
