use Rattle.std.proofs.Common.{rules}
use Rattle.endpoint.proofs.searches.give_up_search.Goals as goal

-- so that a wrong body is refused fast
pub returns-clause-ok : goal.returns-clause-ok
returns-clause-ok c = search rules
