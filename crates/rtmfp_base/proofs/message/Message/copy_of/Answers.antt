use Rattle.std.proofs.Common.{rules}
use Rattle.rtmfp_base.proofs.message.Message.copy_of.Goals as goal

pub returns : goal.returns
returns c = search rules
