use Rattle.rtmfp_fragments.proofs.Histories.{by_number}
use Rattle.rtmfp_fragments.proofs.Weighing.{all_pieces}
use Rattle.rtmfp_fragments.proofs.laws.a_packet_is_joined_by_number.Goals as goal

pub returns-clause-join : goal.returns-clause-join
returns-clause-join c = by_number

pub returns-clause-all : goal.returns-clause-all
returns-clause-all c = all_pieces
