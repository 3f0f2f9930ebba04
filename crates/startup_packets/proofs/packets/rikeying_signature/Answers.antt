use Rattle.std.proofs.Common.{rules, arith, []}
use Rattle.startup_packets.proofs.Sizes.{rikeying_length}
use Rattle.startup_packets.proofs.packets.rikeying_signature.Goals as goal

pub packet_of-unsigned-requires-clause-fits : goal.packet_of-unsigned-requires-clause-fits
packet_of-unsigned-requires-clause-fits c = rikeying_length c.args.near c.responder_part-part.result [] (search rules) (omega arith)
