-- A packet that is given has the bytes of all its pieces.
use Rattle.std.proofs.Common.{◌≡◌, ℕ, zero, suc, ◌+◌, ◌≤◌, ◌==◌, ◌&&◌, ◌||◌, nat_le, nat_lt, Bool, true, false, not, if◌then◌else◌, sum_by, All, AllPairs, List, [], ◌∷◌, ◌++◌, length, Option, Some, None, Result, Ok, refl, sym, ap, ◌∙◌, subst, arith, length-append}
use Rattle.std.proofs.lemmas.Bool.Decides.{nat_tests}
use Rattle.std.proofs.lemmas.List.Elements.{All-cons, All-head, All-tail}
use Rattle.std.proofs.lemmas.List.Sums.{sum_by-append, sum_by-cons}
use Rattle.rtmfp_fragments.specs.declared.outcome.PieceRefusal.{PieceRefusal}
use Rattle.rtmfp_fragments.specs.declared.outcome.Gathered.{Gathered}
use Rattle.rtmfp_fragments.specs.declared.outcome.Gathered.TheVariants.{Again, Whole}
use Rattle.rtmfp_fragments.specs.Pieces.{PieceParts}
use Rattle.rtmfp_fragments.specs.Held.{PacketParts, piece_at, is_same, is_again, are_at_odds, whole, is_kept, kept_at, pieces_under, IsWithinLimits}
use Rattle.rtmfp_fragments.specs.Answers.{unless, piece_refusal, refusal_at, gathered}
use Rattle.rtmfp_fragments.specs.Happenings.{JoinsFrom, Last, Next, GivesAllPieces}
use Rattle.rtmfp_fragments.proofs.Histories.{by_number_now}
use Rattle.rtmfp_fragments.proofs.Limits.{free, once_more, agree_more, limits_filter}
use Rattle.rtmfp_fragments.proofs.Kept.{held_under}

none_some : {X : Type 0} (x : X) → None ≡ Some x → ⊥
none_some x e = absurd cc

abbrev Once : List PieceParts → Type 0
Once l = AllPairs (λ x y. x.number ≡ y.number → ⊥) l

abbrev Agree : List PieceParts → Type 0
Agree l = AllPairs (λ x y. are_at_odds y x ≡ false) l

abbrev len_of : PieceParts → ℕ
len_of x = length x.bytes

-- ---- what holds of all holds of one that is found

found_by : (b : Bool) (P : PieceParts → Type 0) (z y : PieceParts) (later : Option PieceParts) → P z → (later ≡ Some y → P y) → (if b then Some z else later) ≡ Some y → P y
found_by true P z y later holds go e = let same : z ≡ y = cc in subst P same holds
found_by false P z y later holds go e = go e

found : (P : PieceParts → Type 0) (n : ℕ) (l : List PieceParts) (y : PieceParts) → All P l → piece_at n l ≡ Some y → P y
found P n [] y all e = absurd (none_some y e)
found P n (z ∷ l) y all e = found_by (z.number == n) P z y (piece_at n l) (All-head P z l all) (λ at. found P n l y (All-tail P z l all) at) e

-- ---- nothing is above a last piece

second_false : (number more below rest : Bool) → (number || (not more && below) || rest) ≡ false → more ≡ false → below ≡ false
second_false true more below rest e f = absurd cc
second_false false true below rest e f = absurd cc
second_false false false true rest e f = absurd cc
second_false false false false rest e f = refl

third_false : (number first more above : Bool) → (number || first || (not more && above)) ≡ false → more ≡ false → above ≡ false
third_false true first more above e f = absurd cc
third_false false true more above e f = absurd cc
third_false false false true above e f = absurd cc
third_false false false false true e f = absurd cc
third_false false false false false e f = refl

below_first : (z b : PieceParts) → are_at_odds b z ≡ false → z.more ≡ false → b.number ≤ z.number
below_first z b e last =
    let test = second_false ((z.number == b.number) && not (is_same b z)) z.more (nat_lt z.number b.number) (not b.more && nat_lt b.number z.number) e last in
    let told : nat_lt z.number b.number ≡ false = test in grind (arith, nat_tests)

below_second : (z b : PieceParts) → are_at_odds b z ≡ false → b.more ≡ false → z.number ≤ b.number
below_second z b e last =
    let test = third_false ((z.number == b.number) && not (is_same b z)) (not z.more && nat_lt z.number b.number) b.more (nat_lt b.number z.number) e last in
    let told : nat_lt b.number z.number ≡ false = test in grind (arith, nat_tests)

agree_head : (z : PieceParts) (l : List PieceParts) → Agree (z ∷ l) → All (λ y. are_at_odds y z ≡ false) l
agree_head z l h = λ k d inside. h zero (suc k) d (omega arith) (omega arith)

agree_tail : (z : PieceParts) (l : List PieceParts) → Agree (z ∷ l) → Agree l
agree_tail z l h = λ i j d less inside. h (suc i) (suc j) d (omega arith) (omega arith)

once_head : (z : PieceParts) (l : List PieceParts) → Once (z ∷ l) → All (λ y. z.number ≡ y.number → ⊥) l
once_head z l h = λ k d inside. h zero (suc k) d (omega arith) (omega arith)

once_tail : (z : PieceParts) (l : List PieceParts) → Once (z ∷ l) → Once l
once_tail z l h = λ i j d less inside. h (suc i) (suc j) d (omega arith) (omega arith)

abbrev IsTop : PieceParts → List PieceParts → Type 0
IsTop y l = All (λ b. b.number ≤ y.number) l

top_by : (b : Bool) (n : ℕ) (z y : PieceParts) (l : List PieceParts) → y.more ≡ false → All (λ c. are_at_odds c z ≡ false) l
    → (piece_at n l ≡ Some y → IsTop y l) → (if b then Some z else piece_at n l) ≡ Some y → IsTop y (z ∷ l)
top_by true n z y l last agrees go e =
    let same : z ≡ y = cc in
    subst (λ (p : PieceParts). p.more ≡ false → IsTop p (z ∷ l)) same
    (λ end. All-cons (λ c. c.number ≤ z.number) z l (omega arith) (λ k d inside. below_first z _ (agrees k d inside) end)) last
top_by false n z y l last agrees go e =
    All-cons (λ c. c.number ≤ y.number) z l (below_second z y (found (λ c. are_at_odds c z ≡ false) n l y agrees e) last) (go e)

top : (n : ℕ) (l : List PieceParts) (y : PieceParts) → Agree l → y.more ≡ false → piece_at n l ≡ Some y → IsTop y l
top n [] y h last e = absurd (none_some y e)
top n (z ∷ l) y h last e =
    top_by (z.number == n) n z y l last (agree_head z l h) (λ at. top n l y (agree_tail z l h) last at) e

number_by : (b : Bool) (n : ℕ) (z y : PieceParts) (later : Option PieceParts) → (z.number == n) ≡ b → (later ≡ Some y → y.number ≡ n) → (if b then Some z else later) ≡ Some y → y.number ≡ n
number_by true n z y later same go e = let is : z.number ≡ n = grind (arith, nat_tests) in let eq : z ≡ y = cc in ap (λ (p : PieceParts). p.number) (sym eq) ∙ is
number_by false n z y later same go e = go e

number_of : (n : ℕ) (l : List PieceParts) (y : PieceParts) → piece_at n l ≡ Some y → y.number ≡ n
number_of n [] y e = absurd (none_some y e)
number_of n (z ∷ l) y e = number_by (z.number == n) n z y (piece_at n l) refl (λ at. number_of n l y at) e

-- ---- the bytes of the pieces from a number on

abbrev weight : ℕ → List PieceParts → ℕ
weight n [] = 0
weight n (z ∷ l) = if nat_le n z.number then len_of z + weight n l else weight n l

all_weight : (l : List PieceParts) → weight 0 l ≡ sum_by len_of l
all_weight [] = refl
all_weight (z ∷ l) =
    let rest = all_weight l in
    let sum = sum_by-cons len_of z l in
    let yes : nat_le 0 z.number ≡ true = grind (arith, nat_tests) in
    ap (λ (b : Bool). if b then len_of z + weight 0 l else weight 0 l) yes ∙ (omega arith)

same_by : (a b : Bool) (n : ℕ) (z : PieceParts) (l : List PieceParts) → a ≡ b → weight n l ≡ weight (n + 1) l
    → (if a then len_of z + weight n l else weight n l) ≡ (if b then len_of z + weight (n + 1) l else weight (n + 1) l)
same_by true true n z l e go = omega arith
same_by false false n z l e go = go
same_by true false n z l e go = absurd cc
same_by false true n z l e go = absurd cc

-- where none has the number
same_weight : (n : ℕ) (l : List PieceParts) → All (λ y. y.number ≡ n → ⊥) l → weight n l ≡ weight (n + 1) l
same_weight n [] h = refl
same_weight n (z ∷ l) h =
    let other = All-head (λ y. y.number ≡ n → ⊥) z l h in
    same_by (nat_le n z.number) (nat_le (n + 1) z.number) n z l (grind (arith, nat_tests)) (same_weight n l (All-tail (λ y. y.number ≡ n → ⊥) z l h))

step_other : (a b : Bool) (n : ℕ) (z y : PieceParts) (l : List PieceParts) → a ≡ b → weight n l ≡ len_of y + weight (n + 1) l
    → (if a then len_of z + weight n l else weight n l) ≡ len_of y + (if b then len_of z + weight (n + 1) l else weight (n + 1) l)
step_other true true n z y l e rest = omega arith
step_other false false n z y l e rest = rest
step_other true false n z y l e rest = absurd cc
step_other false true n z y l e rest = absurd cc

step_by : (b : Bool) (n : ℕ) (z y : PieceParts) (l : List PieceParts) → (z.number == n) ≡ b → All (λ c. z.number ≡ c.number → ⊥) l
    → (piece_at n l ≡ Some y → weight n l ≡ len_of y + weight (n + 1) l) → (if b then Some z else piece_at n l) ≡ Some y
    → weight n (z ∷ l) ≡ len_of y + weight (n + 1) (z ∷ l)
step_by true n z y l same differ go e =
    let is : z ≡ y = cc in
    let here : z.number ≡ n = grind (arith, nat_tests) in
    let yes : nat_le n z.number ≡ true = grind (arith, nat_tests) in
    let no : nat_le (n + 1) z.number ≡ false = grind (arith, nat_tests) in
    let rest = same_weight n l (λ k d inside. let other = differ k d inside in λ equal. other (here ∙ sym equal)) in
    ap (λ (b : Bool). if b then len_of z + weight n l else weight n l) yes
    ∙ ap (λ m. len_of z + m) rest ∙ ap (λ (p : PieceParts). len_of p + weight (n + 1) l) is
    ∙ ap (λ (b : Bool). len_of y + (if b then len_of z + weight (n + 1) l else weight (n + 1) l)) (sym no)
step_by false n z y l same differ go e =
    step_other (nat_le n z.number) (nat_le (n + 1) z.number) n z y l (grind (arith, nat_tests)) (go e)

step : (n : ℕ) (l : List PieceParts) (y : PieceParts) → Once l → piece_at n l ≡ Some y → weight n l ≡ len_of y + weight (n + 1) l
step n [] y h e = absurd (none_some y e)
step n (z ∷ l) y h e = step_by (z.number == n) n z y l refl (once_head z l h) (λ at. step n l y (once_tail z l h) at) e

-- where none is above
nothing_above : (n : ℕ) (l : List PieceParts) → All (λ c. c.number ≤ n) l → weight (n + 1) l ≡ 0
nothing_above n [] h = refl
nothing_above n (z ∷ l) h =
    let few = All-head (λ c. c.number ≤ n) z l h in
    let no : nat_le (n + 1) z.number ≡ false = grind (arith, nat_tests) in
    ap (λ (b : Bool). if b then len_of z + weight (n + 1) l else weight (n + 1) l) no ∙ nothing_above n l (All-tail (λ c. c.number ≤ n) z l h)

weighed : (l : List PieceParts) (n : ℕ) (packet : List ℕ) → Once l → Agree l → JoinsFrom l n packet → length packet ≡ weight n l
weighed l n packet once agree (Last m y here last) =
    let first = step m l y once here in
    let number = number_of m l y here in
    let none = nothing_above m l (subst (λ k. All (λ c. c.number ≤ k) l) number (top m l y agree last here)) in
    omega arith
weighed l n packet once agree (Next m y later here more rest) =
    let first = step m l y once here in
    let others = weighed l (m + 1) later once agree rest in
    length-append y.bytes later ∙ (omega arith)

-- ---- a packet that is given

free_by : (b : Bool) (r : Option PieceRefusal) (g : Gathered) (packet : List ℕ)
    → ◌≡◌ {A = Result Gathered PieceRefusal} (if b then Ok Again else unless r g) (Ok (Whole packet)) → (b ≡ false) × (r ≡ None)
free_by true r g packet e = absurd cc
free_by false (Some refusal) g packet e = absurd cc
free_by false None g packet e = (refl, refl)

pub all_pieces : GivesAllPieces
all_pieces held id x moment packet h given =
    let now = kept_at moment held in
    let limits = limits_filter (is_kept moment) held h in
    let under = held_under id now limits.packets in
    let pieces = pieces_under id now in
    let both = free_by (is_again x pieces) (piece_refusal id x now) (gathered (whole (pieces ++ x ∷ []))) packet given in
    let is_free = free id x now both.1 in
    let all = weighed (pieces ++ x ∷ []) 0 packet (once_more x pieces under.once both.0 is_free.agrees) (agree_more x pieces under.agree is_free.agrees)
    (by_number_now now id x packet given) in
    let sum = sum_by-append len_of pieces (x ∷ []) in
    let weighs = all_weight (pieces ++ x ∷ []) in
    let room = is_free.room in
    record { all = omega arith; few = omega arith }

-- ---- it has at most 4,096 bytes

answered_by : (again : Bool) (r : Option PieceRefusal) (o : Option (List ℕ)) (packet : List ℕ) → again ≡ false → (if again then None else r) ≡ None → o ≡ Some packet
    → ◌≡◌ {A = Result Gathered PieceRefusal} (if again then Ok Again else unless r (gathered o)) (Ok (Whole packet))
answered_by true r o packet again free is = absurd (cc)
answered_by false (Some refusal) o packet again free is = absurd (cc)
answered_by false None o packet again free is = let answer : Option (List ℕ) → Result Gathered PieceRefusal = λ x. Ok (gathered x) in ap answer is

-- where a piece that isn't refused completes it
pub short : (held : List PacketParts) (id moment : ℕ) (x : PieceParts) (packet : List ℕ) → IsWithinLimits held → is_again x (pieces_under id (kept_at moment held)) ≡ false
    → refusal_at moment id x held ≡ None → whole (pieces_under id (kept_at moment held) ++ x ∷ []) ≡ Some packet → length packet ≤ 4096
short held id moment x packet within again free is =
    (all_pieces held id x moment packet within
    (answered_by (is_again x (pieces_under id (kept_at moment held))) (piece_refusal id x (kept_at moment held)) (whole (pieces_under id (kept_at moment held) ++ x ∷ [])) packet again free is)).few
