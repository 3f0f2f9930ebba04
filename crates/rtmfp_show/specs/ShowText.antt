-- What `show` prints of one packet.
use Rattle.std.specs.Prelude.{◌≡◌, ℕ, List, [], ◌∷◌, ◌++◌, length, codes, decimal, Option, None, Result, Ok, Err}
use Rattle.hex.specs.Hex.{encode_lower}
use Rattle.rtmfp_packet.specs.declared.head.PacketHead.{PacketHead}
use Rattle.rtmfp_packet.specs.declared.head.PacketFault.{PacketFault}
use Rattle.rtmfp_packet.specs.declared.head.PacketFault.TheVariants.{Empty, ModeZero, ShortStamp}
use Rattle.rtmfp_packet.specs.Head.{mode_number}
use Rattle.rtmfp_packet.specs.Walk.{Placed, all_placed_from, visible}
use Rattle.rtmfp_packet.specs.Whole.{Whole}
use Rattle.rtmfp_packet.specs.Reading.{PacketReading}
use Rattle.rtmfp_chunks.specs.declared.reading.ChunkFault.{ChunkFault}
use Rattle.rtmfp_chunks.specs.declared.reading.ChunkFault.TheVariants.{Unknown, Malformed}
use Rattle.rtmfp_chunks.specs.Chunk.{Chunk}
use Rattle.rtmfp_chunks.specs.Reading.{Reading}
use Rattle.rtmfp_data_chunks.specs.declared.user_data.Numbers.{Numbers}
use Rattle.rtmfp_data_chunks.specs.declared.view.DataFault.{DataFault}
use Rattle.rtmfp_data_chunks.specs.declared.view.DataFault.TheVariants as flow
use Rattle.rtmfp_data_chunks.specs.declared.view.DataFault.TheVariants.{BadOffset}
use Rattle.rtmfp_data_chunks.specs.Chunk.{DataChunk}
use Rattle.rtmfp_data_chunks.specs.Spelling.{DataReading, before_next}
use Rattle.rtmfp_text.specs.Words.{bit_text, number_text, text_of}
use Rattle.rtmfp_text.specs.KindText.{kind_text}
use Rattle.rtmfp_show.specs.ChunkText.{chunk_text}
use Rattle.rtmfp_show.specs.DataText.{data_text}

unfoldable pub head_text : PacketHead → List ℕ
head_text head = text_of (
    codes "packet mode=" ∷ decimal (mode_number head.mode)
    ∷ codes " critical=" ∷ bit_text head.critical
    ∷ codes " reverse=" ∷ bit_text head.reverse
    ∷ codes " stamp=" ∷ number_text head.stamp
    ∷ codes " echo=" ∷ number_text head.echo
    ∷ codes "\n" ∷ [])

-- ---- chunks

abbrev pub unknown_text : ℕ → List ℕ
unknown_text kind = text_of (codes " unknown " ∷ encode_lower (kind ∷ []) ∷ [])

-- the name of the type, and the offset
unfoldable pub malformed_text : ℕ → ℕ → List ℕ
malformed_text kind at =
    text_of (codes " malformed " ∷ kind_text kind ∷ codes " " ∷ decimal at ∷ [])

-- what stands behind the offset of a chunk of this type that reads so as a chunk of a flow
abbrev pub flow_text : ℕ → Result DataChunk DataFault → List ℕ
flow_text kind (Ok chunk) = data_text chunk
flow_text kind (Err (flow.Unknown told)) = unknown_text told
flow_text kind (Err (flow.Malformed at)) = malformed_text kind at
flow_text kind (Err (BadOffset at)) = malformed_text kind at

-- it reads so as a chunk of a flow, behind the numbers of the chunk before it
pub record FlowText (before : Option Numbers) (kind : ℕ) (payload text : List ℕ)
    (after : Option Numbers) : Type 0 where
  pub result : Result DataChunk DataFault
  pub reads : DataReading before kind payload result
  pub is_text : text ≡ flow_text kind result
  pub is_after : after ≡ before_next result

-- what stands behind the offset of a chunk that reads so as a chunk of no flow. A type that isn't
-- known here can be one of flows
abbrev pub ReadText : Result Chunk ChunkFault → Option Numbers → ℕ → List ℕ → List ℕ →
    Option Numbers → Type 0
ReadText (Ok chunk) before kind payload text after = (text ≡ chunk_text chunk) × (after ≡ None)
ReadText (Err (Malformed at)) before kind payload text after = (text ≡ malformed_text kind at) ×
    (after ≡ None)
ReadText (Err (Unknown told)) before kind payload text after =
    FlowText before kind payload text after

-- what stands behind the offset of a chunk, and the numbers that a next chunk stands behind, before
-- it and after it
abbrev pub FieldsText : Option Numbers → ℕ → List ℕ → List ℕ → Option Numbers → Type 0
FieldsText before kind payload text after = (result : Result Chunk ChunkFault) ×
    Reading kind payload result × ReadText result before kind payload text after

unfoldable pub chunk_line : ℕ → List ℕ → List ℕ
chunk_line at fields = text_of (decimal at ∷ fields ∷ codes "\n" ∷ [])

-- the line of a chunk
pub record LineText (before : Option Numbers) (chunk : Placed) (line : List ℕ)
    (after : Option Numbers) : Type 0 where
  pub fields : List ℕ
  pub told : FieldsText before chunk.kind chunk.payload fields after
  pub is_line : line ≡ chunk_line chunk.at fields

-- the line of each chunk
abbrev pub ChunksText : Option Numbers → List Placed → List ℕ → Option Numbers → Type 0
ChunksText before [] text after = (text ≡ []) × (after ≡ before)
ChunksText before (chunk ∷ chunks) text after =
    (between : Option Numbers) × (line : List ℕ) × (rest : List ℕ)
    × LineText before chunk line between
    × ChunksText between chunks rest after
    × (text ≡ line ++ rest)

unfoldable pub padding_text : ℕ → List ℕ
padding_text count = text_of (codes "padding " ∷ decimal count ∷ codes "\n" ∷ [])

-- the head, the chunks and the padding, each chunk and each of the others on a line
abbrev pub WholeText : Whole → List ℕ → Type 0
WholeText packet text =
    (lines : List ℕ) × (after : Option Numbers) ×
    ChunksText None (visible (all_placed_from packet.start packet.chunks)) lines after
    × (text ≡ text_of (head_text packet.head ∷ lines ∷ padding_text (length packet.padding) ∷ []))

abbrev pub ResultText : Result Whole PacketFault → List ℕ → Type 0
ResultText (Ok packet) text = WholeText packet text
ResultText (Err Empty) text = text ≡ codes "bad empty\n"
ResultText (Err ModeZero) text = text ≡ codes "bad mode-zero\n"
ResultText (Err ShortStamp) text = text ≡ codes "bad short-stamp\n"

-- what is printed of the bytes of a packet
abbrev pub PacketText : List ℕ → List ℕ → Type 0
PacketText b text = (result : Result Whole PacketFault) × PacketReading b result ×
    ResultText result text
