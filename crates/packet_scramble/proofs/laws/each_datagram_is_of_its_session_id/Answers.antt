use Rattle.packet_scramble.proofs.Scrambling.{each_is_of_its_session_id}
use Rattle.packet_scramble.proofs.laws.each_datagram_is_of_its_session_id.Goals as goal

pub returns : goal.returns
returns c = each_is_of_its_session_id
