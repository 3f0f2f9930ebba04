use Rattle.session_core.proofs.Hears.{hears_by_taken}
use Rattle.session_core.proofs.laws.a_session_hears_by_what_it_took.Goals as goal

pub returns : goal.returns
returns c = hears_by_taken
