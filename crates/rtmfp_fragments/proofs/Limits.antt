-- At most 4 packets of 4,096 bytes are held, and no id or number twice.
use Rattle.std.proofs.Common.{◌≡◌, ℕ, zero, suc, ◌+◌, ◌<◌, ◌≤◌, ◌==◌, ◌&&◌, ◌||◌, nat_le, nat_lt, Bool, true, false, not, if◌then◌else◌, filter, All, AllPairs, List, [], ◌∷◌, ◌++◌, length, get_or, Option, Some, None, Result, Ok, Err, IfOk, OnErr, refl, sym, ap, ◌∙◌, subst, arith}
use Rattle.std.specs.List.{list_any}
use Rattle.std.proofs.lemmas.Bool.Decides.{nat_tests}
use Rattle.std.proofs.lemmas.List.Elements.{All-cons, All-head, All-tail, All-push, All-filter}
use Rattle.std.proofs.lemmas.List.Filters.{length-filter_both}
use Rattle.std.proofs.lemmas.List.Kept.{AllPairs-cons, AllPairs-filter}
use Rattle.std.proofs.lemmas.List.Quantifiers.{all_pairs_push}
use Rattle.std.proofs.lemmas.List.Sums.{sum_by-append}
use Rattle.rtmfp_fragments.specs.declared.outcome.PieceRefusal.{PieceRefusal}
use Rattle.rtmfp_fragments.specs.declared.outcome.PieceRefusal.TheVariants.{TooMany, Conflict, TooLong, PacketsFull}
use Rattle.rtmfp_fragments.specs.declared.outcome.Gathered.{Gathered}
use Rattle.rtmfp_fragments.specs.declared.outcome.Gathered.TheVariants.{Again, Kept, Whole}
use Rattle.rtmfp_fragments.specs.Pieces.{PieceParts}
use Rattle.rtmfp_fragments.specs.Held.{PacketParts, has_id, is_same, is_again, are_at_odds, conflicts, held_bytes, whole, is_kept, kept_at, is_known, pieces_under, one_piece, with_one_more, with_piece, AreHeld, IsWithinLimits}
use Rattle.rtmfp_fragments.specs.Answers.{unless, piece_refusal, gathered, answer_to, held_after, taken, Gathers}
use Rattle.rtmfp_fragments.specs.Happenings.{Took, Lacked, held_by, StaysWithinLimits}
use Rattle.rtmfp_fragments.proofs.Cutting.{at_true, at_false}

-- ---- a piece that is held now

pub record IsFree (known full : Bool) (x : PieceParts) (pieces : List PieceParts) : Type 0 where
  pub number : x.number < 64
  pub agrees : conflicts x pieces ≡ false
  pub room : held_bytes pieces + length x.bytes ≤ 4096
  pub place : (not known && full) ≡ false

free_by : (a b c d : Bool) (v w y z : PieceRefusal)
    → (if a then Some v else if b then Some w else if c then Some y else if d then Some z else None) ≡ None
    → (a ≡ false) × (b ≡ false) × (c ≡ false) × (d ≡ false)
free_by true b c d v w y z e = absurd cc
free_by false true c d v w y z e = absurd cc
free_by false false true d v w y z e = absurd cc
free_by false false false true v w y z e = absurd cc
free_by false false false false v w y z e = (refl, refl, refl, refl)

pub free : (id : ℕ) (x : PieceParts) (held : List PacketParts) → piece_refusal id x held ≡ None
    → IsFree (is_known id held) (nat_le 4 (length held)) x (pieces_under id held)
free id x held e =
    let all = free_by (nat_le 64 x.number) (conflicts x (pieces_under id held)) (nat_lt 4096 (held_bytes (pieces_under id held) + length x.bytes))
    (not (is_known id held) && nat_le 4 (length held))
    (TooMany x.number) (Conflict x.number) (TooLong (held_bytes (pieces_under id held))) (PacketsFull (length held)) e in
    let low : nat_le 64 x.number ≡ false = all.0 in
    let fits : nat_lt 4096 (held_bytes (pieces_under id held) + length x.bytes) ≡ false = all.2 in
    record { number = grind (arith, nat_tests); agrees = all.1; room = grind (arith, nat_tests); place = all.3 }

pub record IsKeptNow (id : ℕ) (x : PieceParts) (held : List PacketParts) : Type 0 where
  pub is_new : is_again x (pieces_under id held) ≡ false
  pub is_free : piece_refusal id x held ≡ None
  pub is_open : whole (pieces_under id held ++ x ∷ []) ≡ None

kept_by : (b : Bool) (r : Option PieceRefusal) (o : Option (List ℕ))
    → ◌≡◌ {A = Result Gathered PieceRefusal} (if b then Ok Again else unless r (gathered o)) (Ok Kept) → (b ≡ false) × (r ≡ None) × (o ≡ None)
kept_by true r o e = absurd cc
kept_by false (Some refusal) o e = absurd cc
kept_by false None (Some v) e = absurd cc
kept_by false None None e = (refl, refl, refl)

pub kept_now : (id : ℕ) (x : PieceParts) (held : List PacketParts) → answer_to id x held ≡ Ok Kept → IsKeptNow id x held
kept_now id x held e =
    let all = kept_by (is_again x (pieces_under id held)) (piece_refusal id x held) (whole (pieces_under id held ++ x ∷ [])) e in
    record { is_new = all.0; is_free = all.1; is_open = all.2 }

pub low_number : (id : ℕ) (x : PieceParts) (held : List PacketParts) → IsKeptNow id x held → x.number < 64
low_number id x held k = let f = free id x held k.is_free in f.number

-- ---- one packet

or_first : (a b : Bool) → (a || b) ≡ false → a ≡ false
or_first true b e = absurd cc
or_first false b e = refl

or_second : (a b : Bool) → (a || b) ≡ false → b ≡ false
or_second true b e = absurd cc
or_second false b e = e

pub none_of : (test : PieceParts → Bool) (pieces : List PieceParts) → list_any test pieces ≡ false → (k : ℕ) (d : PieceParts) → k < length pieces → test (get_or pieces k d) ≡ false
none_of test [] e k d within = absurd (omega arith)
none_of test (x ∷ later) e zero d within = or_first (test x) (list_any test later) e
none_of test (x ∷ later) e (suc k) d within = none_of test later (or_second (test x) (list_any test later) e) k d (omega arith)

other_by : (number same two three : Bool) → same ≡ false → ((number && not same) || two || three) ≡ false → number ≡ false
other_by false same two three e f = refl
other_by true true two three e f = absurd cc
other_by true false two three e f = absurd cc

other_number : (x held : PieceParts) → is_same x held ≡ false → are_at_odds x held ≡ false → held.number ≡ x.number → ⊥
other_number x held e f same =
    let other : (held.number == x.number) ≡ false = other_by (held.number == x.number) (is_same x held)
    (not held.more && nat_lt held.number x.number) (not x.more && nat_lt x.number held.number) e f in
    absurd (grind (arith, nat_tests))

pub once_more : (x : PieceParts) (pieces : List PieceParts) → AllPairs (λ y z. y.number ≡ z.number → ⊥) pieces → is_again x pieces ≡ false → conflicts x pieces ≡ false
    → AllPairs (λ y z. y.number ≡ z.number → ⊥) (pieces ++ x ∷ [])
once_more x pieces h is_new agrees =
    all_pairs_push (λ y z. y.number ≡ z.number → ⊥) pieces x h
    (λ k d within. other_number x (get_or pieces k d) (none_of (is_same x) pieces is_new k d within) (none_of (are_at_odds x) pieces agrees k d within))

pub agree_more : (x : PieceParts) (pieces : List PieceParts) → AllPairs (λ y z. are_at_odds z y ≡ false) pieces → conflicts x pieces ≡ false
    → AllPairs (λ y z. are_at_odds z y ≡ false) (pieces ++ x ∷ [])
agree_more x pieces h agrees = all_pairs_push (λ y z. are_at_odds z y ≡ false) pieces x h (λ k d within. none_of (are_at_odds x) pieces agrees k d within)

one_more : (known full : Bool) (x : PieceParts) (pieces : List PieceParts) → AreHeld pieces → is_again x pieces ≡ false → IsFree known full x pieces
    → whole (pieces ++ x ∷ []) ≡ None → AreHeld (pieces ++ x ∷ [])
one_more known full x pieces h is_new is_free is_open = record {
  once = once_more x pieces h.once is_new is_free.agrees;
  agree = agree_more x pieces h.agree is_free.agrees;
  numbers = All-push (λ y. y.number < 64) pieces x h.numbers is_free.number;
  bytes = let sum = sum_by-append (λ y. length y.bytes) pieces (x ∷ []) in let room = is_free.room in omega arith;
  open_yet = is_open;
}

pub nothing_held : AreHeld []
unfolding whole
nothing_held = record {
  once = λ i j d less within. absurd (omega arith);
  agree = λ i j d less within. absurd (omega arith);
  numbers = λ k d within. absurd (omega arith);
  bytes = omega arith;
  open_yet = refl;
}

-- ---- one piece more

all_with_by : (b : Bool) (P : PacketParts → Type 0) (id moment : ℕ) (x : PieceParts) (q : PacketParts) (later : List PacketParts) → (q.id == id) ≡ b
    → P q → All P later → (b ≡ true → P (with_one_more q x)) → (b ≡ false → All P (with_piece id moment x later))
    → All P (if b then with_one_more q x ∷ later else q ∷ with_piece id moment x later)
all_with_by true P id moment x q later e h rest one more = All-cons P (with_one_more q x) later (one refl) rest
all_with_by false P id moment x q later e h rest one more = All-cons P q (with_piece id moment x later) h (more refl)

-- what holds of each packet, of a new one and of the one that has a piece more
all_with : (P : PacketParts → Type 0) (id moment : ℕ) (x : PieceParts) (held : List PacketParts) → All P held
    → (pieces_under id held ≡ [] → P (one_piece id moment x))
    → ((q : PacketParts) → P q → q.id ≡ id → pieces_under id held ≡ q.pieces → P (with_one_more q x))
    → All P (with_piece id moment x held)
all_with P id moment x [] h one more = All-cons P (one_piece id moment x) [] (one refl) h
all_with P id moment x (q ∷ later) h one more =
    all_with_by (q.id == id) P id moment x q later refl (All-head P q later h) (All-tail P q later h)
    (λ e. let same : q.id ≡ id = grind (arith, nat_tests) in
    more q (All-head P q later h) same (at_true (q.id == id) q.pieces (pieces_under id later) e))
    (λ e. let is = at_false (q.id == id) q.pieces (pieces_under id later) e in
    all_with P id moment x later (All-tail P q later h) (λ none. one (is ∙ none)) (λ r holds same under. more r holds same (is ∙ under)))

abbrev HasOtherId : PacketParts → PacketParts → Type 0
HasOtherId p q = p.id ≡ q.id → ⊥

ids_by : (b : Bool) (id moment : ℕ) (x : PieceParts) (q : PacketParts) (later : List PacketParts) → (q.id == id) ≡ b
    → All (HasOtherId q) later → AllPairs HasOtherId later → AllPairs HasOtherId (with_piece id moment x later)
    → AllPairs HasOtherId (if b then with_one_more q x ∷ later else q ∷ with_piece id moment x later)
ids_by true id moment x q later e others rest more = AllPairs-cons HasOtherId (with_one_more q x) later others rest
ids_by false id moment x q later e others rest more =
    let other : q.id ≡ id → ⊥ = λ same. absurd (grind (arith, nat_tests)) in
    AllPairs-cons HasOtherId q (with_piece id moment x later) (all_with (HasOtherId q) id moment x later others (λ none. other) (λ r holds same under. holds)) more

ids_with : (id moment : ℕ) (x : PieceParts) (held : List PacketParts) → AllPairs HasOtherId held → AllPairs HasOtherId (with_piece id moment x held)
ids_with id moment x [] h = AllPairs-cons HasOtherId (one_piece id moment x) [] (λ k d within. absurd (omega arith)) h
ids_with id moment x (q ∷ later) h =
    let rest : AllPairs HasOtherId later = λ i j d less within. h (suc i) (suc j) d (omega arith) (omega arith) in
    ids_by (q.id == id) id moment x q later refl (λ k d within. h zero (suc k) d (omega arith) (omega arith)) rest (ids_with id moment x later rest)

count_by_id : (b known : Bool) (id moment : ℕ) (x : PieceParts) (q : PacketParts) (later : List PacketParts)
    → length (with_piece id moment x later) ≡ (if known then length later else length later + 1)
    → length (if b then with_one_more q x ∷ later else q ∷ with_piece id moment x later) ≡ (if b || known then suc (length later) else suc (length later) + 1)
count_by_id true known id moment x q later e = refl
count_by_id false true id moment x q later e = ap (λ n. suc n) e
count_by_id false false id moment x q later e = ap (λ n. suc n) e ∙ (omega arith)

count_with : (id moment : ℕ) (x : PieceParts) (held : List PacketParts) → length (with_piece id moment x held) ≡ (if is_known id held then length held else length held + 1)
count_with id moment x [] = omega arith
count_with id moment x (q ∷ later) = count_by_id (q.id == id) (is_known id later) id moment x q later (count_with id moment x later)

few_by : (known : Bool) (n : ℕ) → (not known && nat_le 4 n) ≡ false → n ≤ 4 → (if known then n else n + 1) ≤ 4
few_by true n e few = few
few_by false n e few = let less : nat_le 4 n ≡ false = e in grind (arith, nat_tests)

pub limits_with : (id moment : ℕ) (x : PieceParts) (held : List PacketParts) → IsKeptNow id x held → IsWithinLimits held → IsWithinLimits (with_piece id moment x held)
limits_with id moment x held k h =
    let is_free = free id x held k.is_free in
    record {
      few = subst (λ n. n ≤ 4) (sym (count_with id moment x held)) (few_by (is_known id held) (length held) is_free.place h.few);
      once = ids_with id moment x held h.once;
      packets = all_with (λ p. AreHeld p.pieces) id moment x held h.packets
          (λ none. subst (λ (l : List PieceParts). is_again x l ≡ false → IsFree (is_known id held) (nat_le 4 (length held)) x l → whole (l ++ x ∷ []) ≡ None → AreHeld (x ∷ [])) (sym none)
          (λ a b c. one_more (is_known id held) (nat_le 4 (length held)) x [] nothing_held a b c) k.is_new is_free k.is_open)
          (λ q holds same under. subst (λ (l : List PieceParts). is_again x l ≡ false → IsFree (is_known id held) (nat_le 4 (length held)) x l → whole (l ++ x ∷ []) ≡ None → AreHeld (q.pieces ++ x ∷ [])) (sym under)
          (λ a b c. one_more (is_known id held) (nat_le 4 (length held)) x q.pieces holds a b c) k.is_new is_free k.is_open);
    }

-- ---- fewer packets

fewer : (test : PacketParts → Bool) (held : List PacketParts) → length (filter test held) ≤ length held
fewer test held = let both = length-filter_both test (λ p. not (test p)) (λ p. refl) held in omega arith

pub limits_filter : (test : PacketParts → Bool) (held : List PacketParts) → IsWithinLimits held → IsWithinLimits (filter test held)
limits_filter test held h = record {
  few = let less = fewer test held in let few = h.few in omega arith;
  once = AllPairs-filter HasOtherId test held h.once;
  packets = All-filter test (λ p. AreHeld p.pieces) held h.packets;
}

pub no_packets : (held : List PacketParts) → held ≡ [] → IsWithinLimits held
no_packets held e = subst (λ (l : List PacketParts). IsWithinLimits l) (sym e) (record {
  few = omega arith;
  once = λ i j d less within. absurd (omega arith);
  packets = λ k d within. absurd (omega arith);
})

-- ---- every call

limits_after : (answer : Result Gathered PieceRefusal) (id moment : ℕ) (x : PieceParts) (now : List PacketParts) → answer ≡ answer_to id x now
    → IsWithinLimits now → IsWithinLimits (held_after id moment x now answer)
limits_after (Ok Again) id moment x now e h = h
limits_after (Ok Kept) id moment x now e h = limits_with id moment x now (kept_now id x now (sym e)) h
limits_after (Ok (Whole packet)) id moment x now e h = limits_filter (λ p. not (has_id id p)) now h
limits_after (Err refusal) id moment x now e h = h

pub within : StaysWithinLimits
within [] = no_packets [] refl
within (Took id x moment ∷ before) =
    let now = kept_at moment (held_by before) in
    limits_after (answer_to id x now) id moment x now refl (limits_filter (is_kept moment) (held_by before) (within before))
within (Lacked id x moment ∷ before) = limits_filter (is_kept moment) (held_by before) (within before)

-- where a call found memory
pub limits_taken : (answer : Result Gathered PieceRefusal) (held after : List PacketParts) (id moment : ℕ) (x : PieceParts)
    → ◌≡◌ {A = List PacketParts × Result Gathered PieceRefusal} (after, answer) (taken held id x moment)
    → IsWithinLimits held → IsWithinLimits after
limits_taken answer held after id moment x is h =
    let now = kept_at moment held in
    subst (λ (l : List PacketParts). IsWithinLimits l) (sym (ap (λ (r : List PacketParts × Result Gathered PieceRefusal). r.0) is))
    (limits_after (answer_to id x now) id moment x now refl (limits_filter (is_kept moment) held h))

-- a call that forgets nothing where it finds no memory
pub limits_gathered : {E : Type 0} (answer : Result Gathered E) (held after : List PacketParts) (id moment : ℕ) (x : PieceParts)
    → IfOk answer (λ g. Gathers held after id x moment g) → OnErr answer (after ≡ held) → IsWithinLimits held → IsWithinLimits after
limits_gathered (Ok g) held after id moment x is same h = limits_taken (Ok g) held after id moment x is h
limits_gathered (Err e) held after id moment x is same h = subst (λ (l : List PacketParts). IsWithinLimits l) (sym same) h

-- a call that only forgets
pub limits_kept : (held after : List PacketParts) (moment : ℕ) → after ≡ kept_at moment held → IsWithinLimits held → IsWithinLimits after
limits_kept held after moment is h = subst (λ (l : List PacketParts). IsWithinLimits l) (sym is) (limits_filter (is_kept moment) held h)
