use Rattle.rtmfp_fragments.proofs.Kept.{not_whole}
use Rattle.rtmfp_fragments.proofs.laws.a_whole_packet_is_not_kept.Goals as goal

pub returns : goal.returns
returns c = not_whole
