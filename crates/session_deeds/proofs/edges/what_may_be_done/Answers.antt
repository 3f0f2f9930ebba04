use Rattle.session_deeds.proofs.Rows.{may_be_done}
use Rattle.session_deeds.proofs.edges.what_may_be_done.Goals as goal

pub returns : goal.returns
returns c = may_be_done
