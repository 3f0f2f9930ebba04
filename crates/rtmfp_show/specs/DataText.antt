-- The texts of the chunks of flows.
use Rattle.std.specs.Prelude.{ℕ, zero, suc, ◌-◌, Bool, List, [], ◌∷◌, map, codes, decimal, Option, Some, None}
use Rattle.std.specs.List.{flat_map}
use Rattle.rtmfp_forms.specs.Options.{OptionParts}
use Rattle.rtmfp_data_chunks.specs.declared.user_data.Part.{Part}
use Rattle.rtmfp_data_chunks.specs.declared.user_data.Part.TheVariants.{Whole, Begin, End, Middle}
use Rattle.rtmfp_data_chunks.specs.Chunk.{UserParts, DataChunk, Data, Next, AckBitmap, AckRanges, Probe, Exception}
use Rattle.rtmfp_data_chunks.specs.Acked.{spans_of_bits, spans_of_pairs}
use Rattle.rtmfp_text.specs.Words.{bit_field_text, field_text, list_text, number_field_text, text_of}

-- ---- user data

abbrev pub part_text : Part → List ℕ
part_text Whole = codes "whole"
part_text Begin = codes "begin"
part_text End = codes "end"
part_text Middle = codes "middle"

-- kind, colon, value
unfoldable pub option_text : OptionParts → List ℕ
option_text o = text_of (decimal o.kind ∷ field_text (codes ":") o.value ∷ [])

-- a hyphen also where there is no list
abbrev pub options_text : Option (List OptionParts) → List ℕ
options_text None = codes "-"
options_text (Some options) = list_text (map option_text options)

unfoldable pub marks_text : Part → Bool → Bool → List ℕ
marks_text part abandon last = text_of (
    codes " part="
    ∷ part_text part
    ∷ bit_field_text (codes " abandon=") abandon
    ∷ bit_field_text (codes " final=") last
    ∷ [])

unfoldable pub numbers_text : ℕ → ℕ → ℕ → List ℕ
numbers_text flow seq forward = text_of (
    number_field_text (codes " flow=") flow
    ∷ number_field_text (codes " seq=") seq
    ∷ number_field_text (codes " forward=") forward
    ∷ [])

-- the name and the fields
unfoldable pub user_text : List ℕ → UserParts → List ℕ
user_text name user = text_of (
    name
    ∷ marks_text user.part user.abandon user.last
    ∷ numbers_text user.flow user.seq user.forward
    ∷ codes " opts="
    ∷ options_text user.options
    ∷ field_text (codes " bytes=") user.bytes
    ∷ [])

-- ---- acks

-- the name and the fields before the numbers above the cumulative one
unfoldable pub ack_text : List ℕ → ℕ → ℕ → ℕ → List ℕ
ack_text name flow blocks upto = text_of (
    number_field_text name flow
    ∷ number_field_text (codes " blocks=") blocks
    ∷ number_field_text (codes " upto=") upto
    ∷ codes " also="
    ∷ [])

-- first, hyphen, last
unfoldable pub span_text : ℕ × ℕ → List ℕ
span_text span = text_of (decimal span.0 ∷ codes "-" ∷ decimal span.1 ∷ [])

-- so many numbers from n on
abbrev pub count_up : ℕ → ℕ → List ℕ
count_up n zero = []
count_up n (suc count) = n ∷ count_up (suc n) count

-- the numbers of a span
abbrev pub numbers_of : ℕ × ℕ → List ℕ
numbers_of span = span.0 ∷ count_up (suc span.0) (span.1 - span.0)

-- ---- all chunks

-- the name and the fields of a chunk
unfoldable pub data_text : DataChunk → List ℕ
data_text (Data user) = user_text (codes " data") user
data_text (Next user) = user_text (codes " next") user
data_text (AckBitmap flow blocks upto bits) =
    text_of (ack_text (codes " ackbits flow=") flow blocks upto
    ∷ list_text (map decimal (flat_map numbers_of (spans_of_bits upto bits))) ∷ [])
data_text (AckRanges flow blocks upto pairs) =
    text_of (ack_text (codes " ackranges flow=") flow blocks upto
    ∷ list_text (map span_text (spans_of_pairs upto pairs)) ∷ [])
data_text (Probe flow) = number_field_text (codes " probe flow=") flow
data_text (Exception flow code) =
    text_of (number_field_text (codes " exception flow=") flow
    ∷ number_field_text (codes " code=") code ∷ [])
