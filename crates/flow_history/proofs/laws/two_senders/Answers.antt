use Rattle.flow_history.proofs.Broken.{broken_lawful, broken_honest, broken_hands}
use Rattle.flow_history.proofs.laws.two_senders.Goals as goal

pub returns-clause-lawful : goal.returns-clause-lawful
returns-clause-lawful c = broken_lawful

pub returns-clause-honest : goal.returns-clause-honest
returns-clause-honest c = broken_honest

pub returns-clause-breaks : goal.returns-clause-breaks
returns-clause-breaks c = broken_hands
