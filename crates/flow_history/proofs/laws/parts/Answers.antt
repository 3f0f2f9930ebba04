use Rattle.flow_history.proofs.Splitting.{what_comes_was_split, an_id_is_given_once}
use Rattle.flow_history.proofs.laws.parts.Goals as goal

pub returns-clause-comes : goal.returns-clause-comes
returns-clause-comes c = what_comes_was_split

pub returns-clause-once : goal.returns-clause-once
returns-clause-once c = an_id_is_given_once
