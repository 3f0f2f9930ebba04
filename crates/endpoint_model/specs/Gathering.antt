-- The pieces of packets that come in a session, and the packets that are gathered from them.
use Rattle.std.specs.Prelude.{ℕ, ◌==◌, ◌||◌, not, Bool, false, if◌then◌else◌, List, [], ◌∷◌, Option, Some, None, Result, Ok, Err}
use Rattle.std.specs.Option.{option_map}
use Rattle.std.specs.FinMap.{get}
use Rattle.rtmfp_chunks.specs.declared.kinds.TheConstants.{PING, PING_REPLY}
use Rattle.rtmfp_chunks.specs.declared.reading.ChunkFault.{ChunkFault}
use Rattle.rtmfp_chunks.specs.Chunk.{Chunk, Fragment}
use Rattle.rtmfp_packet.specs.declared.head.PacketFault.{PacketFault}
use Rattle.rtmfp_packet.specs.Walk.{Placed}
use Rattle.rtmfp_packet.specs.Whole.{Whole as Packet}
use Rattle.rtmfp_fragments.specs.declared.outcome.PieceRefusal.{PieceRefusal}
use Rattle.rtmfp_fragments.specs.declared.outcome.PieceRefusal.TheVariants.{TooMany, Conflict, TooLong, PacketsFull, Memory}
use Rattle.rtmfp_fragments.specs.declared.outcome.Gathered.{Gathered}
use Rattle.rtmfp_fragments.specs.declared.outcome.Gathered.TheVariants.{Again, Kept, Whole}
use Rattle.rtmfp_fragments.specs.Pieces.{PieceParts, piece}
use Rattle.rtmfp_fragments.specs.Held.{PacketParts, is_again, kept_at, pieces_under}
use Rattle.rtmfp_fragments.specs.Answers.{taken, refusal_at}
use Rattle.rtmfp_base.specs.Reasons.{where_true}
use Rattle.rtmfp_base.specs.declared.cause.Cause.{Cause}
use Rattle.rtmfp_base.specs.declared.cause.Cause.TheVariants.{Piece, BadWhole}
use Rattle.endpoint_model.specs.declared.place.Place.TheVariants.{Session}
use Rattle.endpoint_model.specs.declared.row.Row.{Row}
use Rattle.endpoint_model.specs.declared.entry.Entry.{Entry}
use Rattle.endpoint_model.specs.declared.entry.Entry.TheVariants.{Discard}
use Rattle.endpoint_model.specs.State.{State, Did, nothing, with_row}
use Rattle.endpoint_model.specs.Admission.{fault_number, has_mode, mode_at, packet_in}
use Rattle.endpoint_model.specs.FlowChunks.{is_of_flows}
use Rattle.endpoint_model.specs.Keying.{chunks_of}

-- the chunks that are taken in a packet that was gathered
abbrev pub may_be_gathered : ℕ → Bool
may_be_gathered kind = (kind == PING) || (kind == PING_REPLY) || is_of_flows kind

-- ---- causes

-- A refusal has a number, and tells one. That there is no memory is no cause.
abbrev pub refused_piece : PieceRefusal → Cause
refused_piece (TooMany number) = Piece 1 number
refused_piece (Conflict number) = Piece 2 number
refused_piece (TooLong bytes) = Piece 3 bytes
refused_piece (PacketsFull packets) = Piece 4 packets
refused_piece Memory = Piece 5 0

abbrev pub piece_cause : ℕ → Option Row → ℕ → PieceParts → Option Cause
piece_cause moment None id x = None
piece_cause moment (Some row) id x = option_map refused_piece (refusal_at moment id x row.gathering)

-- ---- the packet that a piece completes

abbrev pub given : Result Gathered PieceRefusal → Option (List ℕ)
given (Ok Again) = None
given (Ok Kept) = None
given (Ok (Whole packet)) = Some packet
given (Err refusal) = None

abbrev pub whole_by : ℕ → Option Row → ℕ → PieceParts → Option (List ℕ)
whole_by moment None id x = None
whole_by moment (Some row) id x = given (taken row.gathering id x moment).1

-- A packet can't be read, or its mode isn't the peer's.
abbrev pub whole_cause : State → ℕ → Result Packet PacketFault → Option Cause
whole_cause s near (Err fault) = Some (BadWhole (fault_number fault))
whole_cause s near (Ok packet) =
    where_true (not (has_mode packet.head (mode_at s (Session near)))) (BadWhole 4)

-- the chunks of one that can be read and has the peer's mode
abbrev pub whole_chunks : State → ℕ → Result Packet PacketFault → List Placed
whole_chunks s near (Err fault) = []
whole_chunks s near (Ok packet) =
    if has_mode packet.head (mode_at s (Session near)) then chunks_of packet else []

-- ---- what a piece does

-- why the packet that it completes is discarded, at the piece's place
abbrev pub fault_entries : ℕ → Option Cause → List Entry
fault_entries at None = []
fault_entries at (Some cause) = Discard at cause ∷ []

abbrev pub whole_faults : State → ℕ → ℕ → Option (List ℕ) → List Entry
whole_faults s near at None = []
whole_faults s near at (Some packet) = fault_entries at (whole_cause s near (packet_in packet))

abbrev pub gathered_more : ℕ → ℕ → PieceParts → Row → Row
gathered_more moment id x row = record row { gathering = (taken row.gathering id x moment).0 }

-- It is held, or its packet is forgotten, which it completes.
abbrev pub piece_taken_by : State → ℕ → ℕ → ℕ → PieceParts → Option Row → Did
piece_taken_by s near at id x None = nothing s
piece_taken_by s near at id x (Some row) = record {
  state = with_row s near (gathered_more s.moment id x row);
  entries = whole_faults s near at (whole_by s.moment (Some row) id x);
}

abbrev pub piece_taken : State → ℕ → ℕ → Result Chunk ChunkFault → Did
piece_taken s near at (Ok (Fragment more id number bytes)) =
    piece_taken_by s near at id (piece number more bytes) (get s.sessions near)
piece_taken s near at read = nothing s

-- The very piece is held already.
abbrev pub holds_it : ℕ → Option Row → ℕ → PieceParts → Bool
holds_it moment None id x = false
holds_it moment (Some row) id x = is_again x (pieces_under id (kept_at moment row.gathering))

abbrev pub is_held_piece : State → ℕ → Result Chunk ChunkFault → Bool
is_held_piece s near (Ok (Fragment more id number bytes)) =
    holds_it s.moment (get s.sessions near) id (piece number more bytes)
is_held_piece s near read = false

-- ---- the packet that a piece completes, and its chunks, which are gone through behind the piece

abbrev pub whole_in : State → ℕ → Result Chunk ChunkFault → Option (List ℕ)
whole_in s near (Ok (Fragment more id number bytes)) =
    whole_by s.moment (get s.sessions near) id (piece number more bytes)
whole_in s near read = None

abbrev pub chunks_in : State → ℕ → Option (List ℕ) → List Placed
chunks_in s near None = []
chunks_in s near (Some packet) = whole_chunks s near (packet_in packet)
