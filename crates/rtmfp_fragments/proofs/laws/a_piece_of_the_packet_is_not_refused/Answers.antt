use Rattle.rtmfp_fragments.proofs.Agreeing.{no_true_piece}
use Rattle.rtmfp_fragments.proofs.laws.a_piece_of_the_packet_is_not_refused.Goals as goal

pub returns : goal.returns
returns c = no_true_piece
