use Rattle.session_core.proofs.Meets.{contexts_meet}
use Rattle.session_core.proofs.laws.the_contexts_of_two_ends_meet.Goals as goal

pub returns : goal.returns
returns c = contexts_meet
