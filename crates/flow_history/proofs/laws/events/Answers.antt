use Rattle.flow_history.proofs.Events.{events_keep, then_do}
use Rattle.flow_history.proofs.laws.events.Goals as goal

pub returns-clause-keep : goal.returns-clause-keep
returns-clause-keep c = events_keep

pub returns-clause-then_do : goal.returns-clause-then_do
returns-clause-then_do c = then_do
