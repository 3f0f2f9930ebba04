use Rattle.log_writing.proofs.ReadBack.{event_back}
use Rattle.log_writing.proofs.laws.events_read_back.Goals as goal

pub returns : goal.returns
returns c = event_back
