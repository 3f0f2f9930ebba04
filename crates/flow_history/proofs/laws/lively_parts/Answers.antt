use Rattle.flow_history.proofs.Parted.{parted_lawful, parted_honest, parted_hands}
use Rattle.flow_history.proofs.laws.lively_parts.Goals as goal

pub returns-clause-lawful : goal.returns-clause-lawful
returns-clause-lawful c = parted_lawful

pub returns-clause-honest : goal.returns-clause-honest
returns-clause-honest c = parted_honest

pub returns-clause-hands : goal.returns-clause-hands
returns-clause-hands c = parted_hands
