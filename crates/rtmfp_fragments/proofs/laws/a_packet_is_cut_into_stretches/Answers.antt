use Rattle.rtmfp_fragments.proofs.Stretches.{cuts, has_more}
use Rattle.rtmfp_fragments.proofs.laws.a_packet_is_cut_into_stretches.Goals as goal

pub returns-clause-pieces : goal.returns-clause-pieces
returns-clause-pieces c = cuts

pub returns-clause-count : goal.returns-clause-count
returns-clause-count c = has_more
