use Rattle.session_core.proofs.Meets.{sealed_opens_there}
use Rattle.session_core.proofs.laws.what_one_end_seals_opens_at_the_other.Goals as goal

pub returns : goal.returns
returns c = sealed_opens_there
