use Rattle.session_core.proofs.Seals.{length-part}
use Rattle.session_core.proofs.edges.a_number_begins_with_8_zero_bytes.Goals as goal

pub returns-clause-longer : goal.returns-clause-longer
returns-clause-longer c = length-part
