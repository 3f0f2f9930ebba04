-- A number, a piece or the marker that is read is the one that is spelled, and each fault is the one that stands there.
use Rattle.std.proofs.Common.{◌≡◌, ℕ, zero, suc, ◌<◌, true, false, cond, ltb, eqb, List, [], ◌∷◌, ◌++◌, length, take, drop, Option, Some, None, Result, Ok, Err, refl, sym, ap, subst, ◌∙◌, append_assoc, inl, inr, arith}
use Rattle.std.proofs.lemmas.Bool.{cases_lt, cases_eq, lt-ltb, le-ltb, eq-eqb, ne_eqb}
use Rattle.std.proofs.lemmas.List.{take_at, drop_at, length-append, length-take, length-take-le, take-append-drop}
use Rattle.rtmfp_vlu.specs.declared.reading.VluFault.{VluFault}
use Rattle.rtmfp_vlu.specs.declared.reading.VluFault.TheVariants as vlu
use Rattle.rtmfp_vlu.specs.Vlu.{VluSpells, IsCut, IsLarge}
use Rattle.rtmfp_vlu.specs.Reading.{number_at}
use Rattle.rtmfp_vlu.specs.Decoding.{Decodes}
use Rattle.rtmfp_vlu.proofs.Bytes.{IsBytes, IsBytes-take, IsBytes-drop}
use Rattle.rtmfp_vlu.proofs.Fields.{behind, within, stands}
use Rattle.rtmfp_vlu.proofs.Spellings.{IsEnded-some}
use Rattle.rtmfp_vlu.proofs.Decoded.{decodes_number, reads_number, reads_cut, reads_large}
use Rattle.rtmfp_forms.specs.declared.fault.FormFault.{FormFault}
use Rattle.rtmfp_forms.specs.declared.fault.FormFault.TheVariants.{Short, Large, NoMarker}
use Rattle.rtmfp_forms.specs.Options.{OptionParts, PieceSpells, HasPiece, IsCutPiece, IsFaultAt}
use Rattle.rtmfp_forms.specs.OptionReading.{◌>>=◌, split_number, number_then, counted_then, piece_then}

-- ---- numbers

abbrev pub NumberIs : List ℕ → Result (ℕ × List ℕ) FormFault → Type 0
NumberIs b (Ok found) = (s : List ℕ) × (b ≡ s ++ found.1) × VluSpells found.0 s
NumberIs b (Err Short) = IsCut b
NumberIs b (Err Large) = IsLarge b
NumberIs b (Err NoMarker) = ⊥

split_is : (b : List ℕ) (r : Result (ℕ × ℕ) VluFault) → Decodes b r → NumberIs b (split_number b r)
split_is b (Ok found) d = (take found.1 b, sym (take-append-drop found.1 b), d.1)
split_is b (Err vlu.Short) d = d
split_is b (Err vlu.Large) d = d

pub number_is : (b : List ℕ) → IsBytes b → NumberIs b (number_then b)
unfolding number_then
number_is b fits = split_is b (number_at b) (decodes_number b fits)

-- what is spelled is read, whatever follows it
pub number_again : (v : ℕ) (s rest : List ℕ) → VluSpells v s → number_then (s ++ rest) ≡ Ok (v, rest)
unfolding number_then
number_again v s rest h =
    let at = stands v (s ++ rest) s rest refl h in
    rw (reads_number (s ++ rest) v (length s) at.0 at.1, drop_at s rest (length s) refl) refl

pub number_cut : (b : List ℕ) → IsCut b → number_then b ≡ Err Short
unfolding number_then
number_cut b h = rw (reads_cut b h) refl

pub number_large : (b : List ℕ) → IsLarge b → number_then b ≡ Err Large
unfolding number_then
number_large b h = rw (reads_large b h) refl

-- ---- the kind and the value

abbrev pub CountedIs : ℕ → List ℕ → Result (Option OptionParts × List ℕ) FormFault → Type 0
CountedIs size b (Ok found) = (o : OptionParts) × (kind_bytes : List ℕ) × (found.0 ≡ Some o) × (b ≡ (kind_bytes ++ o.value) ++ found.1) × VluSpells o.kind kind_bytes × (length (kind_bytes ++ o.value) ≡ size)
CountedIs size b (Err Short) = IsCutPiece size (take size b)
CountedIs size b (Err Large) = IsLarge (take size b)
CountedIs size b (Err NoMarker) = ⊥

abbrev after_kind : ℕ → List ℕ → ℕ × List ℕ → Result (Option OptionParts × List ℕ) FormFault
after_kind size b kind = cond (ltb (length b) size) (Err Short) (Ok (Some (record { kind = kind.0; value = kind.1 }), drop size b))

kind_is : (size : ℕ) (b : List ℕ) (r : Result (ℕ × List ℕ) FormFault) → NumberIs (take size b) r → CountedIs size b (r >>= after_kind size b)
kind_is size b (Ok kind) n =
    elim (cases_lt (length b) size) [
      | inl lt ↦ rw (lt-ltb (length b) size lt)
          (inr (kind.0, length n.0, within (take size b) n.0 kind.1 n.1, (stands kind.0 (take size b) n.0 kind.1 n.1 n.2).1, omega (arith, length-take size b)))
      | inr ge ↦ rw (le-ltb (length b) size ge)
          (record { kind = kind.0; value = kind.1 }, n.0, refl, sym (take-append-drop size b) ∙ ap (λ (t : List ℕ). t ++ drop size b) n.1, n.2, ap length (sym n.1) ∙ length-take-le size b ge)
    ]
kind_is size b (Err Short) n = inl n
kind_is size b (Err Large) n = n
kind_is size b (Err NoMarker) n = n

pub counted_is : (size : ℕ) (b : List ℕ) → IsBytes b → CountedIs size b (counted_then size b)
unfolding counted_then
counted_is size b fits = kind_is size b (number_then (take size b)) (number_is (take size b) (IsBytes-take size b fits))

pub counted_again : (o : OptionParts) (kind_bytes rest : List ℕ) → VluSpells o.kind kind_bytes
    → counted_then (length (kind_bytes ++ o.value)) ((kind_bytes ++ o.value) ++ rest) ≡ Ok (Some o, rest)
unfolding counted_then
counted_again o kind_bytes rest h =
    let all = kind_bytes ++ o.value in
    let long : ltb (length (all ++ rest)) (length all) ≡ false = le-ltb _ _ (omega (arith, length-append all rest)) in
    rw (take_at all rest (length all) refl, number_again o.kind kind_bytes o.value h, long, drop_at all rest (length all) refl) refl

pub counted_cut : (size : ℕ) (b : List ℕ) → IsCutPiece size (take size b) → counted_then size b ≡ Err Short
unfolding counted_then
counted_cut size b (inl cut) = rw (number_cut (take size b) cut) refl
counted_cut size b (inr short) =
    let kind = short.0 in
    let n = short.1 in
    let piece = take size b in
    let parts : number_then piece ≡ Ok (kind, drop n piece) = rw (take-append-drop n piece) at (number_again kind (take n piece) (drop n piece) short.3) in
    let lt : ltb (length b) size ≡ true = lt-ltb _ _ (omega (arith, short.4, length-take size b)) in
    rw (parts, lt) refl

pub counted_large : (size : ℕ) (b : List ℕ) → IsLarge (take size b) → counted_then size b ≡ Err Large
unfolding counted_then
counted_large size b h = rw (number_large (take size b) h) refl

-- ---- a piece or the marker

none_or_some : {A : Type 0} (x : A) → let none : Option A = None in none ≡ Some x → ⊥
none_or_some x e = absurd cc

some_is : {A : Type 0} (x y : A) → let one : Option A = Some x in one ≡ Some y → x ≡ y
some_is x y e = cc

abbrev pub PieceIs : List ℕ → Result (Option OptionParts × List ℕ) FormFault → Type 0
PieceIs b (Ok (None, rest)) = (marker : List ℕ) × (b ≡ marker ++ rest) × VluSpells 0 marker
PieceIs b (Ok (Some o, rest)) = (piece : List ℕ) × (b ≡ piece ++ rest) × PieceSpells o piece
PieceIs b (Err fault) = IsFaultAt fault b

counted_piece : (b after : List ℕ) (size : ℕ) (l : List ℕ) (r : Result (Option OptionParts × List ℕ) FormFault) → b ≡ l ++ after → VluSpells size l → 0 < size → CountedIs size after r → PieceIs b r
counted_piece b after size l (Ok (None, rest)) e h some (o, kind_bytes, is, whole, kind, len) = absurd (none_or_some o is)
counted_piece b after size l (Ok (Some p, rest)) e h some (o, kind_bytes, is, whole, kind, len) =
    let same : o ≡ p = some_is o p (sym is) in
    let spells : PieceSpells o (l ++ (kind_bytes ++ o.value)) = record { size_bytes = l; kind_bytes = kind_bytes; size = rw len h; kind = kind; whole = refl } in
    (l ++ (kind_bytes ++ o.value), e ∙ ap (λ (t : List ℕ). l ++ t) whole ∙ sym (append_assoc l (kind_bytes ++ o.value) rest), subst (λ (q : OptionParts). PieceSpells q (l ++ (kind_bytes ++ o.value))) same spells)
counted_piece b after size l (Err Short) e h some c = inr (size, take size after, record { size_bytes = l; after = after; whole = e; spelled = h; some = some; is_counted = refl }, c)
counted_piece b after size l (Err Large) e h some c = inr (size, take size after, record { size_bytes = l; after = after; whole = e; spelled = h; some = some; is_counted = refl }, c)
counted_piece b after size l (Err NoMarker) e h some c = absurd c

size_is : (b : List ℕ) (r : Result (ℕ × List ℕ) FormFault) → 0 < length b → IsBytes b → NumberIs b r
    → PieceIs b (r >>= λ size. cond (eqb size.0 0) (Ok (None, size.1)) (counted_then size.0 size.1))
size_is b (Ok size) some fits n =
    elim (cases_eq size.0 0) [
      | inl none ↦ rw (eq-eqb size.0 0 none) (n.0, n.1, subst (λ (k : ℕ). VluSpells k n.0) none n.2)
      | inr more ↦ rw (ne_eqb size.0 0 more)
          (counted_piece b size.1 size.0 n.0 (counted_then size.0 size.1) n.1 n.2 (omega (arith, more))
          (counted_is size.0 size.1 (subst IsBytes (behind b n.0 size.1 n.1) (IsBytes-drop (length n.0) b fits))))
    ]
size_is b (Err Short) some fits n = inl (some, n)
size_is b (Err Large) some fits n = inl n
size_is b (Err NoMarker) some fits n = absurd n

pub piece_is : (b : List ℕ) → IsBytes b → PieceIs b (piece_then b)
unfolding piece_then
piece_is [] fits = refl
piece_is (x ∷ xs) fits = size_is (x ∷ xs) (number_then (x ∷ xs)) (omega arith) fits (number_is (x ∷ xs) fits)

pub marker_again : (marker rest : List ℕ) → VluSpells 0 marker → piece_then (marker ++ rest) ≡ Ok (None, rest)
unfolding piece_then
marker_again [] rest h = absurd h.ended
marker_again (x ∷ xs) rest h = rw (number_again 0 (x ∷ xs) rest h) refl

after_size : (size : ℕ) (size_bytes after : List ℕ) → VluSpells size size_bytes → 0 < size → piece_then (size_bytes ++ after) ≡ counted_then size after
unfolding piece_then
after_size size [] after h some = absurd h.ended
after_size size (x ∷ xs) after h some =
    let not_none : eqb size 0 ≡ false = ne_eqb size 0 (λ e. omega (arith, e)) in
    rw (number_again size (x ∷ xs) after h, not_none) refl

pub piece_again : (o : OptionParts) (piece rest : List ℕ) → PieceSpells o piece → piece_then (piece ++ rest) ≡ Ok (Some o, rest)
piece_again o piece rest h =
    let all = h.kind_bytes ++ o.value in
    let some : 0 < length all = omega (arith, IsEnded-some h.kind_bytes h.kind.ended, length-append h.kind_bytes o.value) in
    let whole : piece ++ rest ≡ h.size_bytes ++ (all ++ rest) = ap (λ (t : List ℕ). t ++ rest) h.whole ∙ append_assoc h.size_bytes all rest in
    ap piece_then whole ∙ after_size (length all) h.size_bytes (all ++ rest) h.size some ∙ counted_again o h.kind_bytes rest h.kind

cut_again : (size : ℕ) (b counted : List ℕ) → HasPiece b size counted → IsCutPiece size counted → piece_then b ≡ Err Short
cut_again size b counted h cut =
    ap piece_then h.whole ∙ after_size size h.size_bytes h.after h.spelled h.some ∙ counted_cut size h.after (subst (IsCutPiece size) h.is_counted cut)

large_again : (size : ℕ) (b counted : List ℕ) → HasPiece b size counted → IsLarge counted → piece_then b ≡ Err Large
large_again size b counted h large =
    ap piece_then h.whole ∙ after_size size h.size_bytes h.after h.spelled h.some ∙ counted_large size h.after (subst IsLarge h.is_counted large)

first_cut : (b : List ℕ) → 0 < length b → IsCut b → piece_then b ≡ Err Short
unfolding piece_then
first_cut [] some cut = absurd (omega (arith, some))
first_cut (x ∷ xs) some cut = rw (number_cut (x ∷ xs) cut) refl

nothing_large : IsLarge [] → ⊥
nothing_large (inl long) = omega (arith, long.0)
nothing_large (inr (zero, at, over)) = at.2
nothing_large (inr (suc n, at, over)) = omega (arith, at.0)

first_large : (b : List ℕ) → IsLarge b → piece_then b ≡ Err Large
unfolding piece_then
first_large [] large = absurd (nothing_large large)
first_large (x ∷ xs) large = rw (number_large (x ∷ xs) large) refl

no_marker : (b : List ℕ) → b ≡ [] → piece_then b ≡ Err NoMarker
unfolding piece_then
no_marker b e = rw e refl

pub fault_again : (fault : FormFault) (b : List ℕ) → IsFaultAt fault b → piece_then b ≡ Err fault
fault_again NoMarker b h = no_marker b h
fault_again Short b (inl cut) = first_cut b cut.0 cut.1
fault_again Short b (inr piece) = cut_again piece.0 b piece.1 piece.2 piece.3
fault_again Large b (inl large) = first_large b large
fault_again Large b (inr piece) = large_again piece.0 b piece.1 piece.2 piece.3
