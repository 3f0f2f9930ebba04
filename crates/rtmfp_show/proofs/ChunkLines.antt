-- The lines of chunks, one after another.
use Rattle.std.proofs.Common.{◌≡◌, ℕ, List, [], ◌∷◌, ◌++◌, length, refl, sym, ap, ◌∙◌, append_assoc, append-nil, subst, Option, None}
use Rattle.rtmfp_packet.specs.Walk.{Placed, all_placed_from, visible}
use Rattle.rtmfp_packet.specs.Whole.{Whole}
use Rattle.rtmfp_data_chunks.specs.declared.user_data.Numbers.{Numbers}
use Rattle.rtmfp_text.specs.Words.{text_of}
use Rattle.rtmfp_show.specs.ShowText.{ChunksText, FieldsText, LineText, WholeText, chunk_line, head_text, padding_text}
use Rattle.rtmfp_show.specs.Adding.{Adds}
use Rattle.rtmfp_text.proofs.Pushes.{Pushed, pushed, pushed_last}

-- the lines of one more chunk
pub chunks_more : (before : Option Numbers) (done : List Placed) (lines : List ℕ) (between after : Option Numbers) (chunk : Placed) (line : List ℕ)
    → ChunksText before done lines between → LineText between chunk line after → ChunksText before (done ++ chunk ∷ []) (lines ++ line) after
chunks_more before [] lines between after chunk line shown one =
    let here : LineText before chunk line after = subst (λ (n : Option Numbers). LineText n chunk line after) shown.1 one in
    (after, line, [], here, (refl, refl), ap (λ xs. xs ++ line) shown.0 ∙ sym (append-nil line))
chunks_more before (first ∷ done) lines between after chunk line shown one =
    let later = chunks_more shown.0 done shown.2 between after chunk line shown.4 one in
    (shown.0, shown.1, shown.2 ++ line, shown.3, later, ap (λ xs. xs ++ line) shown.5 ∙ append_assoc shown.1 shown.2 line)

-- the chunks that were shown so far, and those that are left
pub record LinesSoFar (all left : List Placed) (now : Option Numbers) (old new : List ℕ) : Type 0 where
  pub done : List Placed
  pub lines : List ℕ
  pub shown : ChunksText None done lines now
  pub split : all ≡ done ++ left
  pub joined : new ≡ old ++ lines

pub no_lines : (all : List Placed) (old : List ℕ) → LinesSoFar all all None old old
no_lines all old = record { done = []; lines = []; shown = (refl, refl); split = refl; joined = sym (append-nil old) }

pub more_lines : (all left rest : List Placed) (chunk : Placed) (now after : Option Numbers) (fields old mid new : List ℕ) → LinesSoFar all left now old mid → left ≡ chunk ∷ rest →
    FieldsText now chunk.kind chunk.payload fields after → new ≡ mid ++ chunk_line chunk.at fields → LinesSoFar all rest after old new
more_lines all left rest chunk now after fields old mid new so e told joined =
    let line = chunk_line chunk.at fields in
    let one : LineText now chunk line after = record { fields = fields; told = told; is_line = refl } in
    record {
      done = so.done ++ chunk ∷ [];
      lines = so.lines ++ line;
      shown = chunks_more None so.done so.lines now after chunk line so.shown one;
      split = so.split ∙ ap (λ xs. so.done ++ xs) e ∙ sym (append_assoc so.done (chunk ∷ []) rest);
      joined = joined ∙ ap (λ xs. xs ++ line) so.joined ∙ append_assoc old so.lines line;
    }

-- the head, the lines of all chunks, and the padding
pub whole_shown : (packet : Whole) (left : List Placed) (now : Option Numbers) (old mid new : List ℕ) → LinesSoFar (visible (all_placed_from packet.start packet.chunks)) left now (old ++ head_text packet.head) mid → left ≡ [] →
    new ≡ mid ++ padding_text (length packet.padding) → Adds (WholeText packet) old new
whole_shown packet left now old mid new so none padded =
    let all = visible (all_placed_from packet.start packet.chunks) in
    let P : List Placed → Type 0 = λ xs. ChunksText None xs so.lines now in
    let shown : ChunksText None all so.lines now = subst P (sym (so.split ∙ ap (λ xs. so.done ++ xs) none ∙ append-nil so.done)) so.shown in
    let head : Pushed old (old ++ head_text packet.head) (head_text packet.head) = record { joined = refl } in
    let lines : Pushed (old ++ head_text packet.head) mid so.lines = record { joined = so.joined } in
    let padding : Pushed mid new (padding_text (length packet.padding)) = record { joined = padded } in
    (text_of (head_text packet.head ∷ so.lines ∷ padding_text (length packet.padding) ∷ []), (so.lines, now, shown, refl), (pushed head (pushed lines (pushed_last padding))).joined)
