-- The pieces of packets that are held: what is so of each of them, and that those of one packet give
-- that packet.
use Rattle.std.proofs.Common.{◌≡◌, ℕ, zero, suc, ◌+◌, ◌≤◌, ◌==◌, nat_le, Bool, true, false, not, cond}
use Rattle.std.proofs.Common.{if◌then◌else◌, filter, List, [], ◌∷◌, ◌++◌, length, take, drop}
use Rattle.std.proofs.Common.{Some, Result, Ok, Err, inl, inr, ◌⊎◌, refl, sym, ap}
use Rattle.std.proofs.Common.{subst, ◌∙◌, arith}
use Rattle.std.proofs.lemmas.Bool.Decides.{nat_tests}
use Rattle.rtmfp_data_chunks.specs.HandsOver.{IsIn}
use Rattle.rtmfp_fragments.specs.declared.outcome.PieceRefusal.{PieceRefusal}
use Rattle.rtmfp_fragments.specs.declared.outcome.Gathered.{Gathered}
use Rattle.rtmfp_fragments.specs.declared.outcome.Gathered.TheVariants.{Again, Kept, Whole}
use Rattle.rtmfp_fragments.specs.Pieces.{PieceParts, piece, stretches, pieces_of}
use Rattle.rtmfp_fragments.specs.Held.{PacketParts, has_id, is_kept, piece_at, pieces_under, kept_at}
use Rattle.rtmfp_fragments.specs.Held.{with_piece, with_one_more}
use Rattle.rtmfp_fragments.specs.Answers.{held_after, taken}
use Rattle.rtmfp_fragments.proofs.Cutting.{at_true, at_false}
use Rattle.rtmfp_fragments.proofs.Histories.{by_number}
use Rattle.rtmfp_fragments.proofs.Spelling.{spelled}
use Rattle.endpoint_model.specs.Gathering.{given}

-- ---- each piece that is held

-- It is so of each, under the ID of its packet.
abbrev pub AllHeld : (ℕ → PieceParts → Type 0) → List PacketParts → Type 0
AllHeld P [] = Unit {0}
AllHeld P (q ∷ later) = ((x : PieceParts) → IsIn x q.pieces → P q.id x) × AllHeld P later

pub held_wider : (P Q : ℕ → PieceParts → Type 0) (held : List PacketParts) →
    ((id : ℕ) (x : PieceParts) → P id x → Q id x) → AllHeld P held → AllHeld Q held
held_wider P Q [] wider all = tt
held_wider P Q (q ∷ later) wider all =
    ((λ x among. wider q.id x (all.0 x among)), held_wider P Q later wider all.1)

among_end : (x y : PieceParts) (pieces : List PieceParts) → IsIn y (pieces ++ x ∷ []) →
    IsIn y pieces ⊎ (y ≡ x)
among_end x y [] (inl is) = inr is
among_end x y [] (inr none) = absurd none
among_end x y (z ∷ pieces) (inl is) = inl (inl is)
among_end x y (z ∷ pieces) (inr among) = elim (among_end x y pieces among) [
  | inl before ↦ inl (inr before)
  | inr last ↦ inr last
]

module _ (P : ℕ → PieceParts → Type 0) where
  abbrev AreSo : PacketParts → Type 0
  AreSo q = (x : PieceParts) → IsIn x q.pieces → P q.id x

  filter_by : (b : Bool) (q : PacketParts) (later : List PacketParts) → AreSo q →
      AllHeld P later → AllHeld P (cond b (q ∷ later) later)
  filter_by true q later these rest = (these, rest)
  filter_by false q later these rest = rest

  held_filter : (test : PacketParts → Bool) (held : List PacketParts) → AllHeld P held →
      AllHeld P (filter test held)
  held_filter test [] all = tt
  held_filter test (q ∷ later) all =
      filter_by (test q) q (filter test later) all.0 (held_filter test later all.1)

  one_more : (x : PieceParts) (q : PacketParts) → P q.id x → AreSo q → AreSo (with_one_more q x)
  one_more x q is these y among = elim (among_end x y q.pieces among) [
    | inl before ↦ these y before
    | inr last ↦ subst (λ (z : PieceParts). P q.id z) (sym last) is
  ]

  with_by : (b : Bool) (id : ℕ) (x : PieceParts) (q : PacketParts) (later more : List PacketParts) →
      (q.id == id) ≡ b → P id x → AreSo q → AllHeld P later → AllHeld P more →
      AllHeld P (if b then with_one_more q x ∷ later else q ∷ more)
  with_by true id x q later more same is these rest over =
      let its : id ≡ q.id = grind (arith, nat_tests) in
      (one_more x q (subst (λ (n : ℕ). P n x) its is) these, rest)
  with_by false id x q later more same is these rest over = (these, over)

  held_with : (id moment : ℕ) (x : PieceParts) (held : List PacketParts) → P id x →
      AllHeld P held → AllHeld P (with_piece id moment x held)
  held_with id moment x [] is all =
      ((λ y among. elim among [ inl last ↦ subst (λ (z : PieceParts). P id z) (sym last) is | inr none ↦ absurd none ]), tt)
  held_with id moment x (q ∷ later) is all =
      with_by (q.id == id) id x q later (with_piece id moment x later) refl is all.0 all.1
      (held_with id moment x later is all.1)

  held_then : (answer : Result Gathered PieceRefusal) (id moment : ℕ) (x : PieceParts)
      (now : List PacketParts) → P id x → AllHeld P now →
      AllHeld P (held_after id moment x now answer)
  held_then (Ok Again) id moment x now is all = all
  held_then (Ok Kept) id moment x now is all = held_with id moment x now is all
  held_then (Ok (Whole packet)) id moment x now is all =
      held_filter (λ q. not (has_id id q)) now all
  held_then (Err refusal) id moment x now is all = all

  -- once a piece of which it is so was taken
  pub held_taken : (held : List PacketParts) (id moment : ℕ) (x : PieceParts) → P id x →
      AllHeld P held → AllHeld P (taken held id x moment).0
  held_taken held id moment x is all =
      held_then (taken held id x moment).1 id moment x (kept_at moment held) is
      (held_filter (is_kept moment) held all)

  under_by : (b : Bool) (id : ℕ) (x : PieceParts) (q : PacketParts) (later : List PieceParts) →
      (q.id == id) ≡ b → AreSo q → (IsIn x later → P id x) →
      IsIn x (if b then q.pieces else later) → P id x
  under_by true id x q later same these rest among =
      let its : q.id ≡ id = grind (arith, nat_tests) in
      subst (λ (n : ℕ). P n x) its (these x among)
  under_by false id x q later same these rest among = rest among

  held_under : (id : ℕ) (x : PieceParts) (held : List PacketParts) → AllHeld P held →
      IsIn x (pieces_under id held) → P id x
  held_under id x [] all among = absurd among
  held_under id x (q ∷ later) all among =
      under_by (q.id == id) id x q (pieces_under id later) refl all.0
      (λ rest. held_under id x later all.1 rest) among

  -- and so of each of the pieces of which a packet is joined
  held_or_last : (held : List PacketParts) (id moment : ℕ) (x y : PieceParts) → P id x →
      AllHeld P held → IsIn y (pieces_under id (kept_at moment held) ++ x ∷ []) → P id y
  held_or_last held id moment x y is all among =
      elim (among_end x y (pieces_under id (kept_at moment held)) among) [
        | inl before ↦ held_under id y (kept_at moment held) (held_filter (is_kept moment) held all) before
        | inr last ↦ subst (λ (z : PieceParts). P id z) (sym last) is
      ]

-- ---- a piece among the pieces of a packet

-- a number's piece is among them, and has the number
there_by : (b : Bool) (number : ℕ) (x y : PieceParts) (later : List PieceParts) →
    (y.number == number) ≡ b → (piece_at number later ≡ Some x → IsIn x later × (x.number ≡ number)) →
    (if b then Some y else piece_at number later) ≡ Some x →
    IsIn x (y ∷ later) × (x.number ≡ number)
there_by true number x y later same rest e =
    let is : x ≡ y = cc in
    let its : y.number ≡ number = grind (arith, nat_tests) in
    (inl is, ap (λ (z : PieceParts). z.number) is ∙ its)
there_by false number x y later same rest e = let k = rest e in (inr k.0, k.1)

is_there : (number : ℕ) (x : PieceParts) (pieces : List PieceParts) →
    piece_at number pieces ≡ Some x → IsIn x pieces × (x.number ≡ number)
is_there number x [] e = absurd cc
is_there number x (y ∷ later) e =
    there_by (y.number == number) number x y later refl (λ k. is_there number x later k) e

-- the first of them is that of its number
at_first : (x y : PieceParts) (later : List PieceParts) → x ≡ y →
    piece_at x.number (y ∷ later) ≡ Some x
at_first x y later is =
    let its : x.number ≡ y.number = ap (λ (z : PieceParts). z.number) is in
    let same : (y.number == x.number) ≡ true = grind (arith, nat_tests) in
    at_true (y.number == x.number) (Some y) (piece_at x.number later) same
    ∙ ap (λ (z : PieceParts). Some z) (sym is)

-- and numbers rise
past_first : (x y : PieceParts) (later : List PieceParts) → suc y.number ≤ x.number →
    piece_at x.number later ≡ Some x → piece_at x.number (y ∷ later) ≡ Some x
past_first x y later above is =
    let other : (y.number == x.number) ≡ false = grind (arith, nat_tests) in
    at_false (y.number == x.number) (Some y) (piece_at x.number later) other ∙ is

abbrev IsAt : ℕ → PieceParts → List PieceParts → Type 0
IsAt number x pieces = (number ≤ x.number) × (piece_at x.number pieces ≡ Some x)

stretch_by : (b : Bool) (number size : ℕ) (bytes : List ℕ) (x : PieceParts) (later : List PieceParts) →
    (IsIn x later → IsAt (number + 1) x later) →
    IsIn x (if b then piece number false bytes ∷ [] else piece number true (take size bytes) ∷ later) →
    IsAt number x (if b then piece number false bytes ∷ [] else piece number true (take size bytes) ∷ later)
stretch_by true number size bytes x later rest (inl is) =
    let its : x.number ≡ number = ap (λ (z : PieceParts). z.number) is in
    (omega arith, at_first x (piece number false bytes) [] is)
stretch_by true number size bytes x later rest (inr none) = absurd none
stretch_by false number size bytes x later rest (inl is) =
    let its : x.number ≡ number = ap (λ (z : PieceParts). z.number) is in
    (omega arith, at_first x (piece number true (take size bytes)) later is)
stretch_by false number size bytes x later rest (inr among) =
    let k = rest among in
    (omega (arith, k.0), past_first x (piece number true (take size bytes)) later (omega (arith, k.0)) k.1)

at_its_number : (fuel number size : ℕ) (bytes : List ℕ) (x : PieceParts) →
    IsIn x (stretches fuel number size bytes) → IsAt number x (stretches fuel number size bytes)
at_its_number zero number size bytes x among = absurd among
at_its_number (suc fuel) number size bytes x among =
    stretch_by (nat_le (length bytes) size) number size bytes x
    (stretches fuel (number + 1) size (drop size bytes))
    (λ later. at_its_number fuel (number + 1) size (drop size bytes) x later) among

-- ---- the packet that is given

-- Where each piece that is held under the ID is one of a packet's, and the last one is, that packet
-- is given.
pub gives_the_packet : (held : List PacketParts) (id size moment : ℕ) (x : PieceParts)
    (packet whole : List ℕ) →
    AllHeld (λ (its : ℕ) (y : PieceParts). its ≡ id → IsIn y (pieces_of packet size)) held →
    IsIn x (pieces_of packet size) → (taken held id x moment).1 ≡ Ok (Whole whole) →
    whole ≡ packet
gives_the_packet held id size moment x packet whole all is e =
    let pieces : List PieceParts = pieces_under id (kept_at moment held) ++ x ∷ [] in
    let Among : ℕ → PieceParts → Type 0 = λ its y. its ≡ id → IsIn y (pieces_of packet size) in
    spelled pieces size (suc (length packet)) 0 packet whole (λ k y above at.
    let there = is_there k y pieces at in
    let among : IsIn y (pieces_of packet size) =
    held_or_last Among held id moment x y (λ same. is) all there.0 refl in
    subst (λ (n : ℕ). piece_at n (pieces_of packet size) ≡ Some y) there.1
    (at_its_number (suc (length packet)) 0 size packet y among).1) (by_number held id x moment whole e)

pub given_whole : (answer : Result Gathered PieceRefusal) (packet : List ℕ) →
    given answer ≡ Some packet → answer ≡ Ok (Whole packet)
given_whole (Ok Again) packet e = absurd cc
given_whole (Ok Kept) packet e = absurd cc
given_whole (Ok (Whole p)) packet e = cc
given_whole (Err refusal) packet e = absurd cc
