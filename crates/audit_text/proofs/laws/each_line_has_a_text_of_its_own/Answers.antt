use Rattle.audit_text.proofs.LinesRead.{one_text}
use Rattle.audit_text.proofs.laws.each_line_has_a_text_of_its_own.Goals as goal

pub returns : goal.returns
returns c = one_text
