use Rattle.std.proofs.Common.{◌≡◌, ◌++◌, sym, ◌∙◌, arith}
use Rattle.rtmfp_packet.proofs.Readings.{first_and_rest, packet_read}
use Rattle.rtmfp_packet.proofs.packet.read_whole.Goals as goal

pub returns : goal.returns
returns c =
    let found = c.in_ok-head.ensures in
    let whole : c.args.bytes.now ≡ found.0 ++ c.in_ok-head.body.now = sym (first_and_rest c.args.bytes.now (omega arith)) ∙ found.2 in
    packet_read c.in_ok-head.head found.0 c.in_ok-head.body.now c.args.bytes.now found.1 whole (λ i. omega (arith, c.type_inv.bytes i))
