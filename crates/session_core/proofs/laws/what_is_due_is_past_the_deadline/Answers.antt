use Rattle.session_core.proofs.Deadlines.{is_due_by_deadline}
use Rattle.session_core.proofs.laws.what_is_due_is_past_the_deadline.Goals as goal

pub returns : goal.returns
returns c = is_due_by_deadline
