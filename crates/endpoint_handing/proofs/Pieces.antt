-- What a datagram has of flows, as a function of its bytes.
use Rattle.std.proofs.Common.{ℕ, List, [], drop, Result, Ok, Err}
use Rattle.crypto_profile.specs.Keys.{Keys, keys_of}
use Rattle.crypto_profile.specs.Opening.{plain_of}
use Rattle.rtmfp_packet.specs.declared.head.PacketFault.{PacketFault}
use Rattle.rtmfp_packet.specs.Whole.{Whole}
use Rattle.session_deeds.specs.Pieces.{pieces_of}
use Rattle.endpoint_model.specs.Admission.{packet_in}
use Rattle.endpoint_model.specs.Keying.{chunks_of}
use Rattle.endpoint_laws.specs.Contexts.{session_context}
use Rattle.flow_history.specs.Deeds.{Context, Piece}

-- of a packet, where there is one
abbrev pub pieces_whole : Result Whole PacketFault → List Piece
pieces_whole (Ok packet) = pieces_of (chunks_of packet)
pieces_whole (Err fault) = []

-- the keys of a context under a secret of the group; none is made of the generation
abbrev pub keys_in : List ℕ → Context → Keys
keys_in secret c = keys_of secret (session_context 0 c.session c.to_responder)

-- of a datagram that was sealed in a context under this secret
abbrev pub pieces_in : List ℕ → Context → List ℕ → List Piece
pieces_in secret c datagram =
    pieces_whole (packet_in (plain_of (keys_in secret c) (drop 4 datagram)))

-- of a plain packet
abbrev pub pieces_plain : List ℕ → List Piece
pieces_plain packet = pieces_whole (packet_in packet)
