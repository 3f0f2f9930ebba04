use Rattle.std.proofs.Common.{refl}
use Rattle.sha2.specs.Sha256.{digest_bytes}
use Rattle.sha256_lanes.proofs.edges.a_lane_has_a_word_of_each_vector.Goals as goal

pub returns-clause-digest : goal.returns-clause-digest
unfolding digest_bytes
returns-clause-digest c = refl
