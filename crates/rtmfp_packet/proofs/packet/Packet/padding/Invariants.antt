use Rattle.std.proofs.Common.{◌≡◌, length}
use Rattle.rtmfp_packet.specs.Walk.{body_of}
use Rattle.rtmfp_packet.proofs.packet.Packet.padding.Given as goal

abbrev pub invariant-loop : goal.invariant-loop
invariant-loop l = (body_of l.chunks.rest.now).padding ≡ l.self.padding

abbrev pub decreases-loop : goal.decreases-loop
decreases-loop l = length l.chunks.rest.now
