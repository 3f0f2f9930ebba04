use Rattle.session_deeds.proofs.Chains.{then_goes}
use Rattle.session_deeds.proofs.Chunks.{none_at_first}
use Rattle.session_deeds.proofs.laws.chaining.Goals as goal

pub returns-clause-first : goal.returns-clause-first
returns-clause-first c = none_at_first

pub returns-clause-one_after_another : goal.returns-clause-one_after_another
returns-clause-one_after_another c = then_goes
