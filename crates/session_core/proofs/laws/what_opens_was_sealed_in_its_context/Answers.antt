use Rattle.session_core.proofs.Hears.{opens_some_plain, opens_this_plain}
use Rattle.session_core.proofs.Keyed.{opens_in_its_context}
use Rattle.session_core.proofs.laws.what_opens_was_sealed_in_its_context.Goals as goal

pub returns-clause-some : goal.returns-clause-some
returns-clause-some c = opens_some_plain

pub returns-clause-one : goal.returns-clause-one
returns-clause-one c = opens_this_plain

pub returns-clause-context : goal.returns-clause-context
returns-clause-context c = opens_in_its_context
