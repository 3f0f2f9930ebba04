use Rattle.session_deeds.proofs.Rows.{is_stated_and_said}
use Rattle.session_deeds.proofs.edges.what_is_stated_and_said.Goals as goal

pub returns : goal.returns
returns c = is_stated_and_said
