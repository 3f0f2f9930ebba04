use Rattle.log_values.specs.Events.{event_of}
use Rattle.log_sent.proofs.Going.{one_more_event}
use Rattle.log_sent.proofs.sent.Sent.add.Goals as goal

pub returns-in-Ok-clause-log : goal.returns-in-Ok-clause-log
returns-in-Ok-clause-log c = λ who history is. one_more_event who (event_of c.args.event.now) history c.args.self.now c.note.new.self is c.in-Ok.ensures.more
