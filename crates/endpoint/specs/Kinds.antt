-- The types of the chunks of a packet.
use Rattle.std.specs.Prelude.{ℕ, List, [], map, Option, Some, None, Result, Ok, Err}
use Rattle.rtmfp_packet.specs.declared.chunks.Chunks.{Chunks}
use Rattle.rtmfp_packet.specs.declared.head.PacketFault.{PacketFault}
use Rattle.rtmfp_packet.specs.Walk.{Placed}
use Rattle.rtmfp_packet.specs.Chunks.{left}
use Rattle.rtmfp_packet.specs.Whole.{Whole}
use Rattle.endpoint.specs.declared.kinds.Kinds.{Kinds}
use Rattle.endpoint_model.specs.Admission.{packet_in}
use Rattle.endpoint_model.specs.Keying.{chunks_of}

abbrev pub kinds_of : List Placed → List ℕ
kinds_of chunks = map (λ chunk. chunk.kind) chunks

-- the types of the chunks of a packet that was read, and none of one that was refused
abbrev pub kinds_read : Result Whole PacketFault → List ℕ
kinds_read (Ok packet) = kinds_of (chunks_of packet)
kinds_read (Err fault) = []

-- the types of the chunks of the packet that the bytes are
abbrev pub kinds_in : List ℕ → List ℕ
kinds_in plain = kinds_read (packet_in plain)

abbrev pub kinds_in_walk : Option Chunks → List ℕ
kinds_in_walk None = []
kinds_in_walk (Some chunks) = kinds_of (left chunks)

-- the types that are left
abbrev pub kinds_left : Kinds → List ℕ
kinds_left kinds = kinds_in_walk kinds.chunks
