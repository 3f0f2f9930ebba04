use Rattle.std.proofs.Common.{rules}
use Rattle.session_core.proofs.edges.a_sample_is_less_than_half_of_all_units.Goals as goal

pub returns-clause-half : goal.returns-clause-half
returns-clause-half c = search rules
