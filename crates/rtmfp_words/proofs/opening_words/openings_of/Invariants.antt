use Rattle.std.proofs.Common.{◌≡◌, [], length}
use Rattle.rtmfp_words.specs.NodeReading.{openings_from}
use Rattle.rtmfp_words.proofs.opening_words.openings_of.Given as goal

abbrev pub invariant-loop-word : goal.invariant-loop-word
invariant-loop-word l = openings_from l.openings.items l.rest ≡ openings_from [] l.words

abbrev pub decreases-loop-word : goal.decreases-loop-word
decreases-loop-word l = length l.rest
