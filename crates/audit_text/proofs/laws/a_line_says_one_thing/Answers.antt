use Rattle.audit_text.proofs.LinesRead.{one_saying}
use Rattle.audit_text.proofs.laws.a_line_says_one_thing.Goals as goal

pub returns : goal.returns
returns c = one_saying
