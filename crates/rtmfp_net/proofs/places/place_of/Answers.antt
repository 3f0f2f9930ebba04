use Rattle.std.proofs.Common.{rules}
use Rattle.rtmfp_net.proofs.places.place_of.Goals as goal

pub returns-in-V6 : goal.returns-in-V6
returns-in-V6 c = search rules
