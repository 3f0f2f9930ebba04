use Rattle.std.proofs.Common.{rules}
use Rattle.flow_recv.proofs.receiver.FlowReceiver.free_blocks.Goals as goal

pub returns : goal.returns
returns c = search rules
