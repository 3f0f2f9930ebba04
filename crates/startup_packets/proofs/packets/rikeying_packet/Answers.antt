use Rattle.std.proofs.Common.{rules}
use Rattle.startup_packets.proofs.Sizes.{rikeying_length}
use Rattle.startup_packets.proofs.packets.rikeying_packet.Goals as goal

pub packet_of-requires-clause-fits : goal.packet_of-requires-clause-fits
packet_of-requires-clause-fits c = rikeying_length c.args.near c.responder_part-part.result c.args.sign.now (search rules) (search rules)
