use Rattle.std.proofs.Common.{rules}
use Rattle.rtmfp_net.proofs.places.ip_addr.Goals as goal

pub returns-then-is_v6 : goal.returns-then-is_v6
returns-then-is_v6 c = search rules
