use Rattle.audit_text.proofs.LinesRead.{read_back}
use Rattle.audit_text.proofs.laws.what_is_written_is_read.Goals as goal

pub returns : goal.returns
returns c = read_back
