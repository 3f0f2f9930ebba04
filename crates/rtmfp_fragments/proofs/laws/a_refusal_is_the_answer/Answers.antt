use Rattle.rtmfp_fragments.proofs.Refusing.{none_that_is_taken, the_refusal}
use Rattle.rtmfp_fragments.proofs.laws.a_refusal_is_the_answer.Goals as goal

pub returns-clause-none : goal.returns-clause-none
returns-clause-none c = none_that_is_taken

pub returns-clause-some : goal.returns-clause-some
returns-clause-some c = the_refusal
