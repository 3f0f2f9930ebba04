use Rattle.packet_scramble.proofs.Scrambling.{has_its_session_id}
use Rattle.packet_scramble.proofs.laws.a_datagram_has_its_session_id.Goals as goal

pub returns : goal.returns
returns c = has_its_session_id
