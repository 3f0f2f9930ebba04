-- A fragment chunk at the place that it came at: the piece of a packet that it is.
use Rattle.std.specs.Prelude.{ℕ, not, List, [], ◌∷◌, length, Option, Some, None, Result, Ok, Err}
use Rattle.std.specs.FinMap.{get}
use Rattle.rtmfp_chunks.specs.declared.kinds.TheConstants.{FRAGMENT}
use Rattle.rtmfp_chunks.specs.declared.reading.ChunkFault.{ChunkFault}
use Rattle.rtmfp_chunks.specs.Chunk.{Chunk, Fragment}
use Rattle.rtmfp_chunks.specs.FieldReading.{chunk_reading}
use Rattle.rtmfp_packet.specs.declared.head.Mode.{Mode}
use Rattle.rtmfp_packet.specs.declared.head.PacketFault.{PacketFault}
use Rattle.rtmfp_packet.specs.Whole.{Whole}
use Rattle.rtmfp_fragments.specs.Pieces.{PieceParts, piece}
use Rattle.rtmfp_base.specs.Reasons.{where_true, first_that_stands}
use Rattle.rtmfp_base.specs.declared.cause.Cause.{Cause}
use Rattle.rtmfp_base.specs.declared.cause.Cause.TheVariants.{BadWhole, WrongState}
use Rattle.rtmfp_base.specs.declared.cause.Cause.TheVariants.{Fragment as StrayFragment}
use Rattle.endpoint_model.specs.declared.place.Place.{Place}
use Rattle.endpoint_model.specs.declared.row.Row.{Row}
use Rattle.endpoint_model.specs.declared.walk.Walk.{Walk}
use Rattle.endpoint_model.specs.State.{State, Did}
use Rattle.endpoint_model.specs.Admission.{fault_number, has_mode, sid_at}
use Rattle.endpoint_model.specs.Causes.{is_stray, read_fault, row_takes}
use Rattle.endpoint_model.specs.Effects.{discarded_or}
use Rattle.endpoint_model.specs.Gathering.{piece_cause, piece_taken, whole_in}
use Rattle.end_chunks.specs.declared.pieces.Part.{Part}

-- a piece and its packet's id as the chunk that it came as
abbrev pub fragment_of : Part → Chunk
fragment_of part = Fragment part.piece.more part.id part.piece.number part.piece.bytes.now

-- why one is discarded in a session: for its stage, or since the piece is refused
abbrev pub cause_in : ℕ → Option Row → ℕ → PieceParts → Option Cause
cause_in moment row id x = first_that_stands (
    where_true (not (row_takes row FRAGMENT)) WrongState ∷ piece_cause moment row id x ∷ [])

abbrev pub read_cause_in : ℕ → Option Row → Result Chunk ChunkFault → Option Cause
read_cause_in moment row (Ok (Fragment more id number bytes)) =
    cause_in moment row id (piece number more bytes)
read_cause_in moment row read = None

-- why one is discarded
abbrev pub part_cause : State → Place → Walk → List ℕ → Option Cause
part_cause s place walk payload = first_that_stands (
    read_fault (length payload) (chunk_reading FRAGMENT payload)
    ∷ where_true (is_stray place walk FRAGMENT) StrayFragment
    ∷ read_cause_in s.moment (get s.sessions (sid_at place)) (chunk_reading FRAGMENT payload)
    ∷ [])

-- what one does at a place of its packet
abbrev pub part_did : State → Place → Walk → ℕ → List ℕ → Did
part_did s place walk at payload = discarded_or s at (part_cause s place walk payload)
    (piece_taken s (sid_at place) at (chunk_reading FRAGMENT payload))

-- the packet that one completes, where nothing discards it
abbrev pub part_whole : State → Place → Option Cause → List ℕ → Option (List ℕ)
part_whole s place None payload = whole_in s (sid_at place) (chunk_reading FRAGMENT payload)
part_whole s place (Some cause) payload = None

-- what is wrong with a packet, where the peer's have this mode
abbrev pub fault_by_mode : Mode → Result Whole PacketFault → Option Cause
fault_by_mode mode (Err fault) = Some (BadWhole (fault_number fault))
fault_by_mode mode (Ok packet) = where_true (not (has_mode packet.head mode)) (BadWhole 4)
