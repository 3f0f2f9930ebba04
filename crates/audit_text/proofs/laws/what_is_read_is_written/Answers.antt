use Rattle.audit_text.proofs.LinesRead.{read_written}
use Rattle.audit_text.proofs.laws.what_is_read_is_written.Goals as goal

pub returns : goal.returns
returns c = read_written
