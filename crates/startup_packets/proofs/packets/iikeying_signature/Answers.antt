use Rattle.std.proofs.Common.{rules, arith, []}
use Rattle.startup_packets.proofs.Sizes.{iikeying_length}
use Rattle.startup_packets.proofs.packets.iikeying_signature.Goals as goal

pub packet_of-unsigned-requires-clause-fits : goal.packet_of-unsigned-requires-clause-fits
packet_of-unsigned-requires-clause-fits c = iikeying_length c.args.near c.args.cookie.now c.args.cert.now c.args.part.now [] c.requires.cookie c.requires.cert (search rules) (omega arith)
