use Rattle.std.proofs.Common.{rules}
use Rattle.rtmfp_host.proofs.spawner.first_status.Goals as goal

pub returns : goal.returns
returns c = search rules
