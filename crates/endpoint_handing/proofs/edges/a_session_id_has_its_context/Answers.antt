use Rattle.endpoint_handing.proofs.Rows.{has_its_context}
use Rattle.endpoint_handing.proofs.edges.a_session_id_has_its_context.Goals as goal

pub returns : goal.returns
returns c = has_its_context
