-- What the chunks of a packet have for flows.
use Rattle.std.specs.Prelude.{ℕ, ◌≡◌, ◌==◌, ◌++◌, if◌then◌else◌, List, [], ◌∷◌, Option}
use Rattle.std.specs.Prelude.{None, Result, Ok, Err}
use Rattle.std.specs.List.{AllByRecursion, flat_map}
use Rattle.std.specs.Option.{option_map}
use Rattle.rtmfp_chunks.specs.declared.reading.ChunkFault.{ChunkFault}
use Rattle.rtmfp_chunks.specs.Chunk.{Chunk, Fragment}
use Rattle.rtmfp_chunks.specs.FieldReading.{chunk_reading}
use Rattle.rtmfp_fragments.specs.Pieces.{piece}
use Rattle.rtmfp_packet.specs.Spelling.{Chunk as Written, IsChunk, chunk_bytes}
use Rattle.rtmfp_packet.specs.Walk.{Placed, all_placed_from, visible}
use Rattle.rtmfp_data_chunks.specs.declared.user_data.Numbers.{Numbers}
use Rattle.rtmfp_data_chunks.specs.declared.view.DataFault.{DataFault}
use Rattle.rtmfp_data_chunks.specs.Chunk.{UserParts, DataChunk, Data, Next, AckBitmap, AckRanges}
use Rattle.rtmfp_data_chunks.specs.Chunk.{Probe, Exception}
use Rattle.rtmfp_data_chunks.specs.Acked.{acked}
use Rattle.rtmfp_data_chunks.specs.Reader.{data_reading}
use Rattle.rtmfp_data_chunks.specs.Spelling.{before_next}
use Rattle.flow_send.specs.Acks.{told}
use Rattle.flow_history.specs.Flow.{Carried}
use Rattle.flow_history.specs.Deeds.{Piece, Part, Data as DataOf, Ack as AckOf}
use Rattle.session_flows.specs.Causes.{piece_of, metadata_of}
use Rattle.session_flows.specs.Told.{begins_with_a}

-- a user data chunk, and the order that its metadata tells, where it has some
abbrev pub carried_of : UserParts → Carried
carried_of user = record {
  chunk = piece_of user;
  order = option_map begins_with_a (metadata_of user);
}

-- what one chunk has: its data, or its ack, in one of its two forms
abbrev pub pieces_in : DataChunk → List Piece
pieces_in (Data user) = DataOf user.flow (carried_of user) ∷ []
pieces_in (Next user) = DataOf user.flow (carried_of user) ∷ []
pieces_in (AckBitmap flow blocks upto bits) =
    AckOf flow (told blocks upto (acked (AckBitmap flow blocks upto bits))) ∷ []
pieces_in (AckRanges flow blocks upto pairs) =
    AckOf flow (told blocks upto (acked (AckRanges flow blocks upto pairs))) ∷ []
pieces_in (Probe flow) = []
pieces_in (Exception flow code) = []

-- what can't be read has none
abbrev pub pieces_read : Result DataChunk DataFault → List Piece
pieces_read (Ok chunk) = pieces_in chunk
pieces_read (Err fault) = []

-- a fragment is a part of a packet
abbrev pub parts_read : Result Chunk ChunkFault → List Piece
parts_read (Ok (Fragment more id number bytes)) = Part id (piece number more bytes) ∷ []
parts_read read = []

-- what a chunk has behind these numbers
abbrev pub pieces_at : Option Numbers → ℕ → List ℕ → List Piece
pieces_at before kind payload = if kind == 0x7f then parts_read (chunk_reading kind payload)
    else pieces_read (data_reading before kind payload)

-- Chunk after chunk, each read behind the numbers of the one before it.
abbrev pub pieces_behind : Option Numbers → List Placed → List Piece
pieces_behind before [] = []
pieces_behind before (c ∷ later) = pieces_at before c.kind c.payload
    ++ pieces_behind (before_next (data_reading before c.kind c.payload)) later

abbrev pub pieces_of : List Placed → List Piece
pieces_of chunks = pieces_behind None chunks

-- ---- packets

-- The packet goes on with chunks that have these pieces, and no others, for whoever reads it.
pub record IsPutBehind (front packet : List ℕ) (pieces : List Piece) : Type 0 where
  pub chunks : List Written
  pub whole : packet ≡ front ++ flat_map chunk_bytes chunks
  pub each : AllByRecursion IsChunk chunks
  pub read : (at : ℕ) → pieces_of (visible (all_placed_from at chunks)) ≡ pieces
