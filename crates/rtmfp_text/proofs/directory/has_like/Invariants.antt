use Rattle.std.proofs.Common.{◌≡◌, length}
use Rattle.std.specs.List.{list_any}
use Rattle.rtmfp_text.specs.Names.{is_like}
use Rattle.rtmfp_text.proofs.directory.has_like.Given as goal

abbrev pub invariant-loop-rest : goal.invariant-loop-rest
invariant-loop-rest l = list_any (is_like l.name l.print) l.rest ≡ list_any (is_like l.name l.print) l.ends

abbrev pub decreases-loop-rest : goal.decreases-loop-rest
decreases-loop-rest l = length l.rest
