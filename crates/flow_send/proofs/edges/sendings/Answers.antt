use Rattle.std.proofs.Common.{refl}
use Rattle.flow_send.proofs.edges.sendings.Goals as goal

pub returns-clause-resend : goal.returns-clause-resend
returns-clause-resend c = refl

pub returns-clause-one_ack_after_a_resend : goal.returns-clause-one_ack_after_a_resend
returns-clause-one_ack_after_a_resend c = refl
