use Rattle.std.proofs.Common.{refl}
use Rattle.sha2.specs.Sha256.{compress, first_words, rounds, schedule}
use Rattle.sha256_lanes.proofs.edges.the_examples_of_the_standard_are_so.Goals as goal

pub returns-clause-one_block : goal.returns-clause-one_block
unfolding first_words schedule rounds compress
returns-clause-one_block c = refl

pub returns-clause-first_of_two : goal.returns-clause-first_of_two
unfolding first_words schedule rounds compress
returns-clause-first_of_two c = refl

pub returns-clause-second_of_two : goal.returns-clause-second_of_two
unfolding first_words schedule rounds compress
returns-clause-second_of_two c = refl
