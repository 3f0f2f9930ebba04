use Rattle.std.proofs.Common.{rules}
use Rattle.startup_packets.proofs.Sizes.{iikeying_length}
use Rattle.startup_packets.proofs.packets.iikeying_packet.Goals as goal

pub packet_of-requires-clause-fits : goal.packet_of-requires-clause-fits
packet_of-requires-clause-fits c = iikeying_length c.args.near c.args.cookie.now c.args.cert.now c.initiator_part-part.result c.iikeying_signature-sign.result c.requires.cookie c.requires.cert (search rules) (search rules)
