use Rattle.flow_history.proofs.Keeping.{keeps_other, keeps_own}
use Rattle.flow_history.proofs.laws.keeping.Goals as goal

pub returns-clause-other : goal.returns-clause-other
returns-clause-other c = keeps_other

pub returns-clause-own : goal.returns-clause-own
returns-clause-own c = keeps_own
