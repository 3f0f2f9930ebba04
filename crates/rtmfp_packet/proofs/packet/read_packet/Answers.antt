use Rattle.rtmfp_packet.proofs.Readings.{packet_reading_same}
use Rattle.rtmfp_packet.proofs.packet.read_packet.Goals as goal

pub returns-clause-only : goal.returns-clause-only
returns-clause-only c other reads = packet_reading_same _ other _ reads c.read_whole.ensures
