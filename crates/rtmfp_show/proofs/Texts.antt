-- A line has one text, since its packet and each of its chunks read in one way.
use Rattle.std.proofs.Common.{◌≡◌, ℕ, List, [], ◌∷◌, ◌++◌, length, sym, ap, ◌∙◌, subst, Option, None, Result, Ok, Err}
use Rattle.hex.proofs.HexLemmas.{decode_of-ok}
use Rattle.rtmfp_packet.specs.declared.head.PacketFault.{PacketFault}
use Rattle.rtmfp_packet.specs.declared.head.PacketFault.TheVariants.{Empty, ModeZero, ShortStamp}
use Rattle.rtmfp_packet.specs.Walk.{Placed, all_placed_from, visible}
use Rattle.rtmfp_packet.specs.Whole.{Whole}
use Rattle.rtmfp_packet.specs.Reading.{PacketReading}
use Rattle.rtmfp_packet.proofs.Readings.{packet_reading_same}
use Rattle.rtmfp_chunks.specs.declared.reading.ChunkFault.{ChunkFault}
use Rattle.rtmfp_chunks.specs.declared.reading.ChunkFault.TheVariants.{Unknown, Malformed}
use Rattle.rtmfp_chunks.specs.Chunk.{Chunk}
use Rattle.rtmfp_chunks.proofs.ReadingLaws.{reading_same}
use Rattle.rtmfp_data_chunks.specs.declared.user_data.Numbers.{Numbers}
use Rattle.rtmfp_data_chunks.specs.Spelling.{before_next}
use Rattle.rtmfp_data_chunks.proofs.ReadingLaws.{data_reading_same}
use Rattle.rtmfp_text.specs.Words.{text_of}
use Rattle.rtmfp_show.specs.ShowText.{ChunksText, FieldsText, FlowText, LineText, ReadText, WholeText, ResultText, PacketText, chunk_line, flow_text, head_text, padding_text}
use Rattle.rtmfp_show.specs.ShowLine.{ShowsLine}
use Rattle.rtmfp_show.proofs.Payloads.{IsBytes, Payloads, is_bytes, payloads_are}

flow_same : (before : Option Numbers) (kind : ℕ) (payload text other : List ℕ) (after later : Option Numbers) → IsBytes payload
    → FlowText before kind payload text after → FlowText before kind payload other later → (text ≡ other) × (after ≡ later)
flow_same before kind payload text other after later fits p q =
    let e = data_reading_same before kind payload p.result q.result fits p.reads q.reads in
    (p.is_text ∙ ap (λ r. flow_text kind r) e ∙ sym q.is_text, p.is_after ∙ ap (λ r. before_next r) e ∙ sym q.is_after)

read_same : (result : Result Chunk ChunkFault) (before : Option Numbers) (kind : ℕ) (payload text other : List ℕ) (after later : Option Numbers) → IsBytes payload
    → ReadText result before kind payload text after → ReadText result before kind payload other later → (text ≡ other) × (after ≡ later)
read_same (Ok chunk) before kind payload text other after later fits p q = (p.0 ∙ sym q.0, p.1 ∙ sym q.1)
read_same (Err (Malformed at)) before kind payload text other after later fits p q = (p.0 ∙ sym q.0, p.1 ∙ sym q.1)
read_same (Err (Unknown told)) before kind payload text other after later fits p q = flow_same before kind payload text other after later fits p q

fields_same : (before : Option Numbers) (kind : ℕ) (payload text other : List ℕ) (after later : Option Numbers) → IsBytes payload
    → FieldsText before kind payload text after → FieldsText before kind payload other later → (text ≡ other) × (after ≡ later)
fields_same before kind payload text other after later fits p q =
    let P : Result Chunk ChunkFault → Type 0 = λ r. ReadText r before kind payload text after in
    read_same q.0 before kind payload text other after later fits (subst P (reading_same kind payload p.0 q.0 p.1 q.1) p.2) q.2

line_of_chunk_same : (before : Option Numbers) (chunk : Placed) (line other : List ℕ) (after later : Option Numbers) → IsBytes chunk.payload
    → LineText before chunk line after → LineText before chunk other later → (line ≡ other) × (after ≡ later)
line_of_chunk_same before chunk line other after later fits p q =
    let both = fields_same before chunk.kind chunk.payload p.fields q.fields after later fits p.told q.told in
    (p.is_line ∙ ap (λ fields. chunk_line chunk.at fields) both.0 ∙ sym q.is_line, both.1)

chunks_same : (before : Option Numbers) (chunks : List Placed) (text other : List ℕ) (after later : Option Numbers) → Payloads chunks
    → ChunksText before chunks text after → ChunksText before chunks other later → text ≡ other
chunks_same before [] text other after later fit p q = p.0 ∙ sym q.0
chunks_same before (chunk ∷ chunks) text other after later fit p q =
    let one = line_of_chunk_same before chunk p.1 q.1 p.0 q.0 (is_bytes chunk.payload fit.0) p.3 q.3 in
    let P : Option Numbers → Type 0 = λ n. ChunksText n chunks p.2 after in
    let rest = chunks_same q.0 chunks p.2 q.2 after later fit.1 (subst P one.1 p.4) q.4 in
    p.5 ∙ ap (λ xs. xs ++ p.2) one.0 ∙ ap (λ xs. q.1 ++ xs) rest ∙ sym q.5

whole_same : (packet : Whole) (text other : List ℕ) → Payloads (visible (all_placed_from packet.start packet.chunks)) → WholeText packet text → WholeText packet other → text ≡ other
whole_same packet text other fit p q =
    let lines = chunks_same None (visible (all_placed_from packet.start packet.chunks)) p.0 q.0 p.1 q.1 fit p.2 q.2 in
    p.3 ∙ ap (λ xs. text_of (head_text packet.head ∷ xs ∷ padding_text (length packet.padding) ∷ [])) lines ∙ sym q.3

result_same : (b : List ℕ) (result : Result Whole PacketFault) (text other : List ℕ) → IsBytes b → PacketReading b result → ResultText result text → ResultText result other → text ≡ other
result_same b (Ok packet) text other small reads p q = whole_same packet text other (payloads_are packet b small reads) p q
result_same b (Err Empty) text other small reads p q = p ∙ sym q
result_same b (Err ModeZero) text other small reads p q = p ∙ sym q
result_same b (Err ShortStamp) text other small reads p q = p ∙ sym q

packet_same : (b text other : List ℕ) → IsBytes b → PacketText b text → PacketText b other → text ≡ other
packet_same b text other small p q =
    let P : Result Whole PacketFault → Type 0 = λ r. ResultText r text in
    result_same b q.0 text other small q.1 (subst P (packet_reading_same b p.0 q.0 p.1 q.1) p.2) q.2

pub line_same : (line text other : List ℕ) → ShowsLine line text → ShowsLine line other → text ≡ other
line_same line text other p q =
    let both = sym p.packet.decoded ∙ q.packet.decoded in
    let bytes : p.bytes ≡ q.bytes = cc in
    let P : List ℕ → Type 0 = λ b. PacketText b text in
    packet_same q.bytes text other (decode_of-ok line q.bytes q.packet.decoded).3 (subst P bytes p.printed) q.printed
