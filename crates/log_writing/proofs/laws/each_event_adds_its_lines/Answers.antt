use Rattle.log_writing.proofs.Lines.{event_more}
use Rattle.log_writing.proofs.laws.each_event_adds_its_lines.Goals as goal

pub returns : goal.returns
returns c = event_more
