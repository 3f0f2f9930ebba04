-- A piece of the packet that the others are of isn't refused but for want of a place.
use Rattle.std.proofs.Common.{◌≡◌, ℕ, zero, suc, ◌+◌, ◌*◌, ◌<◌, ◌≤◌, ◌==◌, ◌&&◌, ◌||◌, nat_le, nat_lt, Bool, true, false, not, if◌then◌else◌, sum_by, All, AllPairs, bytes_eq, List, [], ◌∷◌, ◌++◌, length, take, drop, get_or, Option, Some, None, Ok, ◌⊎◌, inl, inr, refl, sym, ap, ◌∙◌, subst, arith, length-drop, length-take}
use Rattle.std.specs.List.{list_any}
use Rattle.std.proofs.lemmas.Bool.Decides.{nat_tests}
use Rattle.std.proofs.lemmas.List.Elements.{All-cons, All-head, All-tail, All-push}
use Rattle.std.proofs.lemmas.List.Kept.{AllPairs-cons}
use Rattle.std.proofs.lemmas.List.Quantifiers.{all_pairs_push}
use Rattle.std.proofs.lemmas.List.Sums.{sum_by-append, sum_by-cons}
use Rattle.std.proofs.lemmas.Slice.Eq.{bytes_eq-Decides}
use Rattle.rtmfp_fragments.specs.Pieces.{PieceParts, piece, stretches, pieces_of}
use Rattle.rtmfp_fragments.specs.Held.{piece_at, same_mark, is_same, is_again, are_at_odds, conflicts, held_bytes, is_kept, kept_at, is_known, pieces_under}
use Rattle.rtmfp_fragments.specs.declared.outcome.PieceRefusal.TheVariants.{TooMany, Conflict, TooLong, PacketsFull}
use Rattle.rtmfp_fragments.specs.declared.outcome.Gathered.{Gathered}
use Rattle.rtmfp_fragments.specs.declared.outcome.Gathered.TheVariants.{Again}
use Rattle.rtmfp_fragments.specs.Answers.{unless, accepted}
use Rattle.rtmfp_fragments.specs.Happenings.{held_by, IsPieceOf, IsTakenOrFull, RefusesNoTruePiece}
use Rattle.rtmfp_fragments.proofs.Cutting.{at_true, at_false}
use Rattle.rtmfp_fragments.proofs.Histories.{all_pure, pure_filter, pure_under}
use Rattle.rtmfp_fragments.proofs.Limits.{none_of, limits_filter, within}
use Rattle.rtmfp_fragments.proofs.Kept.{held_under}

none_some : {X : Type 0} (x : X) → None ≡ Some x → ⊥
none_some x e = absurd cc

true_false : (b : Bool) → b ≡ true → b ≡ false → ⊥
true_false b e f = absurd cc

-- ---- where a piece stands among stretches

pick : (b : Bool) (p y : PieceParts) (later : Option PieceParts) → (if b then Some p else later) ≡ Some y → ((b ≡ true) × (y ≡ p)) ⊎ ((b ≡ false) × (later ≡ Some y))
pick true p y later e = inl (refl, cc)
pick false p y later e = inr (refl, e)

-- what is told of a piece at a number: it is the first and last, or the first, or a later one
abbrev Stands : Bool → ℕ → ℕ → List ℕ → List PieceParts → ℕ → PieceParts → Type 0
Stands b number size bytes later k y =
    ((b ≡ true) × (k ≡ number) × (y ≡ piece number false bytes))
    ⊎ (((b ≡ false) × (k ≡ number) × (y ≡ piece number true (take size bytes)))
    ⊎ ((b ≡ false) × (piece_at k later ≡ Some y)))

single : (number k : ℕ) (p y : PieceParts) → (((number == k) ≡ true) × (y ≡ p)) ⊎ (((number == k) ≡ false) × (None ≡ Some y)) → (k ≡ number) × (y ≡ p)
single number k p y (inl h) = let same : (number == k) ≡ true = h.0 in (grind (arith, nat_tests), h.1)
single number k p y (inr h) = absurd (none_some y h.1)

first_or_later : (number k size : ℕ) (bytes : List ℕ) (later : List PieceParts) (y : PieceParts)
    → (((number == k) ≡ true) × (y ≡ piece number true (take size bytes))) ⊎ (((number == k) ≡ false) × (piece_at k later ≡ Some y))
    → Stands false number size bytes later k y
first_or_later number k size bytes later y (inl h) = let same : (number == k) ≡ true = h.0 in inr (inl (refl, grind (arith, nat_tests), h.1))
first_or_later number k size bytes later y (inr h) = inr (inr (refl, h.1))

stands : (b : Bool) (number size : ℕ) (bytes : List ℕ) (later : List PieceParts) (k : ℕ) (y : PieceParts)
    → piece_at k (if b then piece number false bytes ∷ [] else piece number true (take size bytes) ∷ later) ≡ Some y
    → Stands b number size bytes later k y
stands true number size bytes later k y e =
    let is = single number k (piece number false bytes) y (pick (number == k) (piece number false bytes) y None e) in inl (refl, is.0, is.1)
stands false number size bytes later k y e =
    first_or_later number k size bytes later y (pick (number == k) (piece number true (take size bytes)) y (piece_at k later) e)

abbrev Rest : ℕ → ℕ → ℕ → List ℕ → List PieceParts
Rest fuel number size bytes = stretches fuel (number + 1) size (drop size bytes)

-- ---- numbers

abbrev Room : ℕ → ℕ → ℕ
Room zero size = size
Room (suc most) size = size + Room most size

abbrev Above : ℕ → ℕ → ℕ → List ℕ → Type 0
Above fuel number size bytes = (k : ℕ) (y : PieceParts) → piece_at k (stretches fuel number size bytes) ≡ Some y → number ≤ k

above_by : (b : Bool) (fuel number size : ℕ) (bytes : List ℕ) (k : ℕ) (y : PieceParts) → Above fuel (number + 1) size (drop size bytes)
    → Stands b number size bytes (Rest fuel number size bytes) k y → number ≤ k
above_by b fuel number size bytes k y go (inl h) = let same : k ≡ number = h.1 in omega arith
above_by b fuel number size bytes k y go (inr (inl h)) = let same : k ≡ number = h.1 in omega arith
above_by b fuel number size bytes k y go (inr (inr h)) = let far = go k y h.1 in omega arith

above : (fuel number size : ℕ) (bytes : List ℕ) → Above fuel number size bytes
above zero number size bytes k y e = absurd (none_some y e)
above (suc fuel) number size bytes k y e =
    above_by (nat_le (length bytes) size) fuel number size bytes k y (above fuel (number + 1) size (drop size bytes))
    (stands (nat_le (length bytes) size) number size bytes (Rest fuel number size bytes) k y e)

low_by : (b : Bool) (most fuel number size : ℕ) (bytes : List ℕ) (k : ℕ) (y : PieceParts) → nat_le (length bytes) size ≡ b → length bytes ≤ Room most size
    → ((less : ℕ) → most ≡ suc less → length (drop size bytes) ≤ Room less size → piece_at k (Rest fuel number size bytes) ≡ Some y → k ≤ number + 1 + less)
    → Stands b number size bytes (Rest fuel number size bytes) k y → k ≤ number + most
low_by b most fuel number size bytes k y e few go (inl h) = let same : k ≡ number = h.1 in omega arith
low_by b most fuel number size bytes k y e few go (inr (inl h)) = let same : k ≡ number = h.1 in omega arith
low_by b zero fuel number size bytes k y e few go (inr (inr h)) =
    let longer : nat_le (length bytes) size ≡ false = e ∙ h.0 in absurd (let long : size < length bytes = grind (arith, nat_tests) in omega arith)
low_by b (suc less) fuel number size bytes k y e few go (inr (inr h)) =
    let left = length-drop size bytes in
    let fits : length bytes ≤ size + Room less size = few in
    let far : k ≤ number + 1 + less = go less refl (omega arith) h.1 in omega arith

low : (most fuel number size : ℕ) (bytes : List ℕ) (k : ℕ) (y : PieceParts) → length bytes ≤ Room most size
    → piece_at k (stretches fuel number size bytes) ≡ Some y → k ≤ number + most
low most zero number size bytes k y few e = absurd (none_some y e)
low most (suc fuel) number size bytes k y few e =
    low_by (nat_le (length bytes) size) most fuel number size bytes k y refl few
    (λ less is fits at. low less fuel (number + 1) size (drop size bytes) k y fits at)
    (stands (nat_le (length bytes) size) number size bytes (Rest fuel number size bytes) k y e)

-- ---- the last piece is the highest

more_of : (y : PieceParts) (n : ℕ) (m : Bool) (bytes : List ℕ) → y ≡ piece n m bytes → y.more ≡ m
more_of y n m bytes e = ap (λ (p : PieceParts). p.more) e

highest_by : (b : Bool) (fuel number size : ℕ) (bytes : List ℕ) (k j : ℕ) (y z : PieceParts) → y.more ≡ false
    → (piece_at k (Rest fuel number size bytes) ≡ Some y → piece_at j (Rest fuel number size bytes) ≡ Some z → j ≤ k)
    → Stands b number size bytes (Rest fuel number size bytes) k y → Stands b number size bytes (Rest fuel number size bytes) j z → j ≤ k
highest_by b fuel number size bytes k j y z last go (inl h) (inl i) = let one : k ≡ number = h.1 in let two : j ≡ number = i.1 in omega arith
highest_by b fuel number size bytes k j y z last go (inl h) (inr (inl i)) = absurd (true_false b h.0 i.0)
highest_by b fuel number size bytes k j y z last go (inl h) (inr (inr i)) = absurd (true_false b h.0 i.0)
highest_by b fuel number size bytes k j y z last go (inr (inl h)) other = absurd (true_false y.more (more_of y number true (take size bytes) h.2) last)
highest_by b fuel number size bytes k j y z last go (inr (inr h)) (inl i) = absurd (true_false b i.0 h.0)
highest_by b fuel number size bytes k j y z last go (inr (inr h)) (inr (inl i)) =
    let far = above fuel (number + 1) size (drop size bytes) k y h.1 in let two : j ≡ number = i.1 in omega arith
highest_by b fuel number size bytes k j y z last go (inr (inr h)) (inr (inr i)) = go h.1 i.1

highest : (fuel number size : ℕ) (bytes : List ℕ) (k j : ℕ) (y z : PieceParts) → y.more ≡ false
    → piece_at k (stretches fuel number size bytes) ≡ Some y → piece_at j (stretches fuel number size bytes) ≡ Some z → j ≤ k
highest zero number size bytes k j y z last e f = absurd (none_some y e)
highest (suc fuel) number size bytes k j y z last e f =
    highest_by (nat_le (length bytes) size) fuel number size bytes k j y z last (λ g h. highest fuel (number + 1) size (drop size bytes) k j y z last g h)
    (stands (nat_le (length bytes) size) number size bytes (Rest fuel number size bytes) k y e)
    (stands (nat_le (length bytes) size) number size bytes (Rest fuel number size bytes) j z f)

-- ---- bytes

abbrev Once : List PieceParts → Type 0
Once l = AllPairs (λ x y. x.number ≡ y.number → ⊥) l

abbrev len_of : PieceParts → ℕ
len_of x = length x.bytes

once_head : (z : PieceParts) (l : List PieceParts) → Once (z ∷ l) → All (λ y. z.number ≡ y.number → ⊥) l
once_head z l h = λ k d inside. h zero (suc k) d (omega arith) (omega arith)

once_tail : (z : PieceParts) (l : List PieceParts) → Once (z ∷ l) → Once l
once_tail z l h = λ i j d less inside. h (suc i) (suc j) d (omega arith) (omega arith)

-- those of other numbers
abbrev others : ℕ → List PieceParts → List PieceParts
others n [] = []
others n (z ∷ l) = if n == z.number then others n l else z ∷ others n l

other_all_by : (b : Bool) (Q : PieceParts → Type 0) (z : PieceParts) (l : List PieceParts) → (b ≡ false → Q z) → All Q l → All Q (if b then l else z ∷ l)
other_all_by true Q z l one all = all
other_all_by false Q z l one all = All-cons Q z l (one refl) all

other_all : (P Q : PieceParts → Type 0) (n : ℕ) (l : List PieceParts) → ((z : PieceParts) → (n == z.number) ≡ false → P z → Q z) → All P l → All Q (others n l)
other_all P Q n [] f h = λ k d inside. absurd (omega arith)
other_all P Q n (z ∷ l) f h = other_all_by (n == z.number) Q z (others n l) (λ e. f z e (All-head P z l h)) (other_all P Q n l f (All-tail P z l h))

other_once_by : (b : Bool) (z : PieceParts) (l : List PieceParts) → All (λ y. z.number ≡ y.number → ⊥) l → Once l → Once (if b then l else z ∷ l)
other_once_by true z l head h = h
other_once_by false z l head h = AllPairs-cons (λ x y. x.number ≡ y.number → ⊥) z l head h

other_once : (n : ℕ) (l : List PieceParts) → Once l → Once (others n l)
other_once n [] h = h
other_once n (z ∷ l) h =
    other_once_by (n == z.number) z (others n l)
    (other_all (λ y. z.number ≡ y.number → ⊥) (λ y. z.number ≡ y.number → ⊥) n l (λ y e not. not) (once_head z l h)) (other_once n l (once_tail z l h))

sum_none_by : (b : Bool) (z : PieceParts) (l rest : List PieceParts) → b ≡ false → sum_by len_of l ≤ sum_by len_of rest
    → sum_by len_of (z ∷ l) ≤ sum_by len_of (if b then rest else z ∷ rest)
sum_none_by true z l rest e go = absurd cc
sum_none_by false z l rest e go = let one = sum_by-cons len_of z l in let two = sum_by-cons len_of z rest in omega arith

sum_none : (n : ℕ) (l : List PieceParts) → All (λ z. (n == z.number) ≡ false) l → sum_by len_of l ≤ sum_by len_of (others n l)
sum_none n [] h = omega arith
sum_none n (z ∷ l) h =
    sum_none_by (n == z.number) z l (others n l) (All-head (λ y. (n == y.number) ≡ false) z l h) (sum_none n l (All-tail (λ y. (n == y.number) ≡ false) z l h))

sum_split_by : (b : Bool) (n most : ℕ) (z : PieceParts) (l : List PieceParts) → (n == z.number) ≡ b → All (λ y. z.number ≡ y.number → ⊥) l
    → ((n == z.number) ≡ true → len_of z ≤ most) → sum_by len_of l ≤ most + sum_by len_of (others n l)
    → sum_by len_of (z ∷ l) ≤ most + sum_by len_of (if b then others n l else z ∷ others n l)
sum_split_by true n most z l e differ short go =
    let fits = short e in
    let rest = sum_none n l (λ k d inside. let other = differ k d inside in let here : (n == z.number) ≡ true = e in grind (arith, nat_tests)) in
    let sum = sum_by-cons len_of z l in omega arith
sum_split_by false n most z l e differ short go =
    let one = sum_by-cons len_of z l in let two = sum_by-cons len_of z (others n l) in omega arith

sum_split : (n most : ℕ) (l : List PieceParts) → Once l → All (λ z. (n == z.number) ≡ true → len_of z ≤ most) l → sum_by len_of l ≤ most + sum_by len_of (others n l)
sum_split n most [] h short = omega arith
sum_split n most (z ∷ l) h short =
    sum_split_by (n == z.number) n most z l refl (once_head z l h) (All-head (λ y. (n == y.number) ≡ true → len_of y ≤ most) z l short)
    (sum_split n most l (once_tail z l h) (All-tail (λ y. (n == y.number) ≡ true → len_of y ≤ most) z l short))

sum_absurd : (l : List PieceParts) → All (λ z. ⊥) l → sum_by len_of l ≡ 0
sum_absurd [] h = refl
sum_absurd (z ∷ l) h = absurd (All-head (λ y. ⊥) z l h)

len_is : (z : PieceParts) (n : ℕ) (more : Bool) (bytes : List ℕ) → z ≡ piece n more bytes → len_of z ≡ length bytes
len_is z n more bytes e = ap (λ (p : PieceParts). length p.bytes) e

here_by : (b : Bool) (fuel number size : ℕ) (bytes : List ℕ) (z : PieceParts) → (number == z.number) ≡ true
    → Stands b number size bytes (Rest fuel number size bytes) z.number z → len_of z ≤ (if b then length bytes else length (take size bytes))
here_by true fuel number size bytes z here (inl h) = let is = len_is z number false bytes h.2 in omega arith
here_by true fuel number size bytes z here (inr (inl h)) = absurd (let no : true ≡ false = h.0 in cc)
here_by true fuel number size bytes z here (inr (inr h)) = absurd (let no : true ≡ false = h.0 in cc)
here_by false fuel number size bytes z here (inl h) = absurd (let no : false ≡ true = h.0 in cc)
here_by false fuel number size bytes z here (inr (inl h)) = let is = len_is z number true (take size bytes) h.2 in omega arith
here_by false fuel number size bytes z here (inr (inr h)) =
    let far : number + 1 ≤ z.number = above fuel (number + 1) size (drop size bytes) z.number z h.1 in absurd (grind (arith, nat_tests))

later_by : (b : Bool) (fuel number size : ℕ) (bytes : List ℕ) (z : PieceParts) → (number == z.number) ≡ false
    → Stands b number size bytes (Rest fuel number size bytes) z.number z → (b ≡ false) × (piece_at z.number (Rest fuel number size bytes) ≡ Some z)
later_by b fuel number size bytes z other (inl h) = let same : z.number ≡ number = h.1 in absurd (grind (arith, nat_tests))
later_by b fuel number size bytes z other (inr (inl h)) = let same : z.number ≡ number = h.1 in absurd (grind (arith, nat_tests))
later_by b fuel number size bytes z other (inr (inr h)) = h

abbrev AreOf : List PieceParts → List PieceParts → Type 0
AreOf all l = All (λ z. piece_at z.number all ≡ Some z) l

sum_by_last : (b : Bool) (fuel number size : ℕ) (bytes : List ℕ) (l : List PieceParts) → Once l
    → All (λ z. Stands b number size bytes (Rest fuel number size bytes) z.number z) l
    → (Once (others number l) → AreOf (Rest fuel number size bytes) (others number l) → sum_by len_of (others number l) ≤ length (drop size bytes))
    → sum_by len_of l ≤ length bytes
sum_by_last true fuel number size bytes l h stand go =
    let split = sum_split number (length bytes) l h (λ k d inside here. here_by true fuel number size bytes (get_or l k d) here (stand k d inside)) in
    let none = sum_absurd (others number l) (other_all (λ z. Stands true number size bytes (Rest fuel number size bytes) z.number z) (λ z. ⊥) number l
    (λ z other is. let no : true ≡ false = (later_by true fuel number size bytes z other is).0 in absurd cc) stand) in
    omega arith
sum_by_last false fuel number size bytes l h stand go =
    let split = sum_split number (length (take size bytes)) l h (λ k d inside here. here_by false fuel number size bytes (get_or l k d) here (stand k d inside)) in
    let rest = go (other_once number l h) (other_all (λ z. Stands false number size bytes (Rest fuel number size bytes) z.number z) (λ z. piece_at z.number (Rest fuel number size bytes) ≡ Some z) number l
    (λ z other is. (later_by false fuel number size bytes z other is).1) stand) in
    let front = length-take size bytes in let back = length-drop size bytes in omega arith

sum_of : (fuel number size : ℕ) (bytes : List ℕ) (l : List PieceParts) → Once l → AreOf (stretches fuel number size bytes) l → sum_by len_of l ≤ length bytes
sum_of zero number size bytes [] h are = omega arith
sum_of zero number size bytes (z ∷ l) h are = absurd (none_some z (All-head (λ y. piece_at y.number [] ≡ Some y) z l are))
sum_of (suc fuel) number size bytes l h are =
    sum_by_last (nat_le (length bytes) size) fuel number size bytes l h
    (λ k d inside. stands (nat_le (length bytes) size) number size bytes (Rest fuel number size bytes) (get_or l k d).number (get_or l k d) (are k d inside))
    (λ once those. sum_of fuel (number + 1) size (drop size bytes) (others number l) once those)

-- ---- what is held

self_found : (l : List PieceParts) → Once l → AreOf l l
self_found [] h = λ k d inside. absurd (omega arith)
self_found (z ∷ l) h =
    All-cons (λ y. piece_at y.number (z ∷ l) ≡ Some y) z l
    (at_true (z.number == z.number) (Some z) (piece_at z.number l) (let same : (z.number == z.number) ≡ true = grind (arith, nat_tests) in same))
    (λ k d inside. let y = get_or l k d in let other = once_head z l h k d inside in
    at_false (z.number == y.number) (Some z) (piece_at y.number l) (let differ : (z.number == y.number) ≡ false = grind (arith, nat_tests) in differ)
    ∙ self_found l (once_tail z l h) k d inside)

mark_same : (b : Bool) → same_mark b b ≡ true
mark_same true = refl
mark_same false = refl

both : (p q r : Bool) → p ≡ true → q ≡ true → r ≡ true → (p && q && r) ≡ true
both true true true e f g = refl
both false q r e f g = absurd cc
both true false r e f g = absurd cc
both true true false e f g = absurd cc

same_self : (x : PieceParts) → is_same x x ≡ true
same_self x = both (x.number == x.number) (same_mark x.more x.more) (bytes_eq x.bytes x.bytes)
    (let same : (x.number == x.number) ≡ true = grind (arith, nat_tests) in same) (mark_same x.more) (let told = bytes_eq-Decides x.bytes x.bytes in told.1 refl)

one_piece_at : (k : ℕ) (all : List PieceParts) (x y : PieceParts) → piece_at k all ≡ Some x → piece_at k all ≡ Some y → x ≡ y
one_piece_at k all x y e f = let same : Some x ≡ Some y = sym e ∙ f in cc

same_number : (all : List PieceParts) (x h : PieceParts) → piece_at x.number all ≡ Some x → piece_at h.number all ≡ Some h → h.number ≡ x.number → is_same x h ≡ true
same_number all x h e f same =
    let is : x ≡ h = one_piece_at x.number all x h e (ap (λ n. piece_at n all) (sym same) ∙ f) in
    ap (λ (p : PieceParts). is_same x p) (sym is) ∙ same_self x

no_odds : (number same last below first above : Bool) → (number ≡ true → same ≡ true) → (last ≡ false → below ≡ true → ⊥) → (first ≡ false → above ≡ true → ⊥)
    → ((number && not same) || (not last && below) || (not first && above)) ≡ false
no_odds true false last below first above f g h = absurd (let no : false ≡ true = f refl in cc)
no_odds number same false true first above f g h = absurd (g refl refl)
no_odds number same last below false true f g h = absurd (h refl refl)
no_odds true true true below true above f g h = refl
no_odds true true true below false false f g h = refl
no_odds true true false false true above f g h = refl
no_odds true true false false false false f g h = refl
no_odds false same true below true above f g h = refl
no_odds false same true below false false f g h = refl
no_odds false same false false true above f g h = refl
no_odds false same false false false false f g h = refl

agree : (packet : List ℕ) (size : ℕ) (x h : PieceParts) → IsPieceOf packet size x → IsPieceOf packet size h → are_at_odds x h ≡ false
agree packet size x h e f =
    no_odds (h.number == x.number) (is_same x h) h.more (nat_lt h.number x.number) x.more (nat_lt x.number h.number)
    (λ t. let same : h.number ≡ x.number = grind (arith, nat_tests) in same_number (pieces_of packet size) x h e f same)
    (λ last t. let le = highest (suc (length packet)) 0 size packet h.number x.number h x last f e in absurd (grind (arith, nat_tests)))
    (λ last t. let le = highest (suc (length packet)) 0 size packet x.number h.number x h last e f in absurd (grind (arith, nat_tests)))

no_one : (test : PieceParts → Bool) (l : List PieceParts) → All (λ z. test z ≡ false) l → list_any test l ≡ false
no_one test [] h = refl
no_one test (z ∷ l) h =
    let rest = no_one test l (All-tail (λ y. test y ≡ false) z l h) in
    let one = All-head (λ y. test y ≡ false) z l h in
    ap (λ (b : Bool). b || list_any test l) one ∙ rest

-- ---- the answer

answer_by : (again many odd long full : Bool) (g : Gathered) (n k l m : ℕ) → many ≡ false → odd ≡ false → (again ≡ false → long ≡ false) → (full ≡ true → m ≡ 4)
    → IsTakenOrFull (if again then Ok Again else unless (if many then Some (TooMany n) else if odd then Some (Conflict k) else if long then Some (TooLong l) else if full then Some (PacketsFull m) else None) g)
answer_by true many odd long full g n k l m a b c d = tt
answer_by false true odd long full g n k l m a b c d = absurd (let no : true ≡ false = a in cc)
answer_by false false true long full g n k l m a b c d = absurd (let no : true ≡ false = b in cc)
answer_by false false false true full g n k l m a b c d = absurd (let no : true ≡ false = c refl in cc)
answer_by false false false false true g n k l m a b c d = d refl
answer_by false false false false false g n k l m a b c d = tt

full_four : (known : Bool) (n : ℕ) → n ≤ 4 → (not known && nat_le 4 n) ≡ true → n ≡ 4
full_four true n few e = absurd cc
full_four false n few e = let most : nat_le 4 n ≡ true = e in grind (arith, nat_tests)

room_is : (size : ℕ) → Room 63 size ≡ 64 * size
room_is size = omega arith

pub no_true_piece : RefusesNoTruePiece
no_true_piece happened id size packet x moment short few all is =
    let now = kept_at moment (held_by happened) in
    let limits = limits_filter (is_kept moment) (held_by happened) (within happened) in
    let pieces = pieces_under id now in
    let held = held_under id now limits.packets in
    let pure = pure_under id packet size now (pure_filter (is_kept moment) id packet size (held_by happened) (all_pure id packet size happened all)) in
    let found = self_found pieces held.once in
    let of_it : AreOf (pieces_of packet size) pieces = λ k d inside. pure (get_or pieces k d).number (get_or pieces k d) (found k d inside) in
    let number = low 63 (suc (length packet)) 0 size packet x.number x (subst (λ n. length packet ≤ n) (sym (room_is size)) few) is in
    answer_by (is_again x pieces) (nat_le 64 x.number) (conflicts x pieces) (nat_lt 4096 (held_bytes pieces + length x.bytes)) (not (is_known id now) && nat_le 4 (length now))
    (accepted id x now) x.number x.number (held_bytes pieces) (length now)
    (let below : x.number ≤ 63 = omega (arith, number) in grind (arith, nat_tests))
    (no_one (are_at_odds x) pieces (λ k d inside. agree packet size x (get_or pieces k d) is (of_it k d inside)))
    (λ new.
    let once : Once (pieces ++ x ∷ []) = all_pairs_push (λ y z. y.number ≡ z.number → ⊥) pieces x held.once
    (λ k d inside same. true_false (is_same x (get_or pieces k d)) (same_number (pieces_of packet size) x (get_or pieces k d) is (of_it k d inside) same) (none_of (is_same x) pieces new k d inside)) in
    let those : AreOf (pieces_of packet size) (pieces ++ x ∷ []) = All-push (λ z. piece_at z.number (pieces_of packet size) ≡ Some z) pieces x of_it is in
    let sum = sum_of (suc (length packet)) 0 size packet (pieces ++ x ∷ []) once those in
    let parts = sum_by-append len_of pieces (x ∷ []) in
    let fits : held_bytes pieces + length x.bytes ≤ 4096 = omega (arith, sum, parts) in grind (arith, nat_tests))
    (λ full. full_four (is_known id now) (length now) limits.few full)
