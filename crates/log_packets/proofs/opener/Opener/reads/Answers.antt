use Rattle.std.proofs.Common.{ℕ, List, Ok, ◌∙◌, sym, subst}
use Rattle.rtmfp_packet.specs.Reading.{PacketReading}
use Rattle.log_packets.proofs.Asking.{same_found}
use Rattle.log_packets.proofs.opener.Opener.reads.Goals as goal

pub returns-in-Ok-clause-only : goal.returns-in-Ok-clause-only
returns-in-Ok-clause-only c = λ packet is.
    same_found packet c.in-Ok.packet (c.read_packet.ensures.only (Ok packet) (subst (λ (b : List ℕ). PacketReading b (Ok packet)) (sym c.plain.ensures) is) ∙ c.in-Ok.is)
