use Rattle.std.proofs.Common.{rules}
use Rattle.flow_send.proofs.sender.FlowSender.offers.Goals as goal

pub returns-in-Some-chunk_refusal-clause-refused : goal.returns-in-Some-chunk_refusal-clause-refused
returns-in-Some-chunk_refusal-clause-refused c = search rules
