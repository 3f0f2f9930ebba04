use Rattle.std.proofs.Common.{refl}
use Rattle.rtmfp_vlu.specs.Vlu.{vlu, groups_before}
use Rattle.session_flows.specs.Packing.{packs}
use Rattle.session_flows.proofs.edges.a_packet.Goals as goal

pub returns : goal.returns
unfolding vlu groups_before packs
returns c = refl
