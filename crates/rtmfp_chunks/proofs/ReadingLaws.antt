-- A payload reads in one way.
use Rattle.std.proofs.Common.{◌≡◌, ℕ, ◌-◌, ◌≤◌, List, length, Option, Some, None, Result, Ok, Err, refl, sym, ap, subst, ◌∙◌, arith}
use Rattle.rtmfp_vlu.proofs.Bytes.{IsBytes}
use Rattle.rtmfp_chunks.specs.declared.reading.ChunkFault.{ChunkFault}
use Rattle.rtmfp_chunks.specs.declared.reading.ChunkFault.TheVariants.{Unknown, Malformed}
use Rattle.rtmfp_chunks.specs.Fields.{Parts, Row, PartsSpell, RowBreaks}
use Rattle.rtmfp_chunks.specs.Chunk.{Chunk, IHello, FIHello, RHello, Redirect, CookieChange, IIKeying, RIKeying, Ping, PingReply, Close, CloseAck, Fragment, kind_of, parts_of, row_of, Spells, Breaks}
use Rattle.rtmfp_chunks.specs.Reading.{Reading}
use Rattle.rtmfp_chunks.specs.FieldReading.{row_at, typed, typed_row, chunk_at, chunk_with, known_chunk, chunk_or_fault, chunk_reading}
use Rattle.rtmfp_chunks.proofs.RowLaws.{RowIs, row_is, row_of_parts, row_again, row_broken, row_within}

-- the type and the fields are those of one chunk
chunk_known : (chunk : Chunk) → chunk_with (kind_of chunk) (parts_of chunk) ≡ Some chunk
unfolding chunk_with
chunk_known (IHello epd tag) = refl
chunk_known (FIHello epd reply tag) = refl
chunk_known (RHello tag cookie cert) = refl
chunk_known (Redirect tag list) = refl
chunk_known (CookieChange old new) = refl
chunk_known (IIKeying near cookie cert part sign) = refl
chunk_known (RIKeying near part sign) = refl
chunk_known (Ping bytes) = refl
chunk_known (PingReply bytes) = refl
chunk_known Close = refl
chunk_known CloseAck = refl
chunk_known (Fragment more id number bytes) = refl

-- each chunk has the fields of its type
row_known : (chunk : Chunk) → row_of (kind_of chunk) ≡ Some (row_of_parts (parts_of chunk))
unfolding row_of
row_known (IHello epd tag) = refl
row_known (FIHello epd reply tag) = refl
row_known (RHello tag cookie cert) = refl
row_known (Redirect tag list) = refl
row_known (CookieChange old new) = refl
row_known (IIKeying near cookie cert part sign) = refl
row_known (RIKeying near part sign) = refl
row_known (Ping bytes) = refl
row_known (PingReply bytes) = refl
row_known Close = refl
row_known CloseAck = refl
row_known (Fragment more id number bytes) = refl

-- ---- what reads so is what the function gives

spelled_at : (chunk : Chunk) (kind : ℕ) (b : List ℕ) → Spells chunk kind b → chunk_at kind b ≡ Some (Ok (kind, parts_of chunk))
unfolding chunk_at
spelled_at chunk kind b h =
    let row : row_of kind ≡ Some (row_of_parts (parts_of chunk)) = ap row_of h.0 ∙ row_known chunk in
    rw (row, row_again (parts_of chunk) b h.1) refl

broken_at : (kind : ℕ) (b : List ℕ) (at : ℕ) → Breaks kind b at → chunk_at kind b ≡ Some (Err (length b - at))
unfolding chunk_at
broken_at kind b at (row, is, h) = rw (is, row_broken row b at h) refl

unknown_at : (kind : ℕ) (b : List ℕ) → row_of kind ≡ None → chunk_at kind b ≡ None
unfolding chunk_at
unknown_at kind b e = rw e refl

-- ---- and the other way round

pub record Found (kind : ℕ) (b : List ℕ) (k : ℕ) (parts : Parts) : Type 0 where
  pub is_kind : kind ≡ k
  pub spells : PartsSpell parts b

found_row : (kind : ℕ) (b : List ℕ) (r : Result Parts ℕ) (row : Row) (k : ℕ) (parts : Parts) → RowIs row b r → Some (typed kind r) ≡ Some (Ok (k, parts)) → Found kind b k parts
found_row kind b (Ok found) row k parts h e =
    let pair : (kind, found) ≡ (k, parts) = cc in
    record { is_kind = ap (λ (x : ℕ × Parts). x.0) pair; spells = subst (λ (p : Parts). PartsSpell p b) (ap (λ (x : ℕ × Parts). x.1) pair) h }
found_row kind b (Err left) row k parts h e = absurd (cc)

found_in : (kind : ℕ) (b : List ℕ) (o : Option Row) (k : ℕ) (parts : Parts) → IsBytes b → typed_row kind b o ≡ Some (Ok (k, parts)) → Found kind b k parts
found_in kind b None k parts fits e = absurd (cc)
found_in kind b (Some row) k parts fits e = found_row kind b (row_at row b) row k parts (row_is row b fits) e

pub found_reads : (kind : ℕ) (b : List ℕ) (chunk : Chunk) → IsBytes b → chunk_at kind b ≡ Some (Ok (kind_of chunk, parts_of chunk)) → Spells chunk kind b
unfolding chunk_at
found_reads kind b chunk fits e = let h = found_in kind b (row_of kind) (kind_of chunk) (parts_of chunk) fits e in (h.is_kind, h.spells)

fault_row : (kind : ℕ) (b : List ℕ) (r : Result Parts ℕ) (row : Row) (left : ℕ) → RowIs row b r → Some (typed kind r) ≡ Some (Err left) → (left ≤ length b) × RowBreaks row b (length b - left)
fault_row kind b (Ok found) row left h e = absurd (cc)
fault_row kind b (Err there) row left h e =
    let same : there ≡ left = cc in
    subst (λ (n : ℕ). (n ≤ length b) × RowBreaks row b (length b - n)) same h

fault_in : (kind : ℕ) (b : List ℕ) (o : Option Row) (left : ℕ) → IsBytes b → typed_row kind b o ≡ Some (Err left) → (left ≤ length b) × ((row : Row) × (o ≡ Some row) × RowBreaks row b (length b - left))
fault_in kind b None left fits e = absurd (cc)
fault_in kind b (Some row) left fits e = let h = fault_row kind b (row_at row b) row left (row_is row b fits) e in (h.0, (row, refl, h.1))

pub fault_reads : (kind : ℕ) (b : List ℕ) (left : ℕ) → IsBytes b → chunk_at kind b ≡ Some (Err left) → (left ≤ length b) × Breaks kind b (length b - left)
unfolding chunk_at
fault_reads kind b left fits e = fault_in kind b (row_of kind) left fits e

none_in : (kind : ℕ) (b : List ℕ) (o : Option Row) → typed_row kind b o ≡ None → o ≡ None
none_in kind b None e = refl
none_in kind b (Some row) e = absurd (cc)

pub none_reads : (kind : ℕ) (b : List ℕ) → chunk_at kind b ≡ None → row_of kind ≡ None
unfolding chunk_at
none_reads kind b e = none_in kind b (row_of kind) e

-- ---- so there is one reading

pub reading_is : (kind : ℕ) (b : List ℕ) (r : Result Chunk ChunkFault) → Reading kind b r → r ≡ chunk_reading kind b
unfolding chunk_reading
reading_is kind b (Ok chunk) h =
    let found : chunk_with kind (parts_of chunk) ≡ Some chunk = ap (λ (k : ℕ). chunk_with k (parts_of chunk)) h.0 ∙ chunk_known chunk in
    sym (ap (chunk_or_fault kind b) (spelled_at chunk kind b h) ∙ ap (known_chunk kind) found)
reading_is kind b (Err (Unknown told)) h = ap (λ (k : ℕ). Err (Unknown k)) h.0 ∙ sym (ap (chunk_or_fault kind b) (unknown_at kind b h.1))
reading_is kind b (Err (Malformed at)) h =
    let same : at ≡ length b - (length b - at) = omega (arith, row_within h.0 b at h.2) in
    ap (λ (n : ℕ). Err (Malformed n)) same ∙ sym (ap (chunk_or_fault kind b) (broken_at kind b at h))

pub reading_same : (kind : ℕ) (b : List ℕ) (x y : Result Chunk ChunkFault) → Reading kind b x → Reading kind b y → x ≡ y
reading_same kind b x y p q = reading_is kind b x p ∙ sym (reading_is kind b y q)
