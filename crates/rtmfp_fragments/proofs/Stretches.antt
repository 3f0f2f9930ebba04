-- The pieces of a packet by their numbers, and how many there are.
use Rattle.std.proofs.Common.{◌≡◌, ℕ, zero, suc, ◌+◌, ◌-◌, ◌*◌, ◌<◌, ◌≤◌, ◌==◌, ◌||◌, nat_le, nat_lt, Bool, true, false, if◌then◌else◌, List, [], ◌∷◌, length, take, drop, slice_get, Option, Some, None, refl, sym, ap, ◌∙◌, arith, length-drop}
use Rattle.std.proofs.Math.Nat.{suc-mul}
use Rattle.std.proofs.lemmas.Bool.Decides.{nat_tests}
use Rattle.std.proofs.lemmas.List.{take_all, drop-drop}
use Rattle.rtmfp_fragments.specs.Pieces.{PieceParts, piece, stretches}
use Rattle.rtmfp_fragments.specs.Cuts.{CutsIntoStretches, HasMorePieces}

abbrev Item : Bool → ℕ → Bool → List ℕ → Option PieceParts
Item there number more bytes = if there then Some (piece number more bytes) else None

same_item : (a b : Bool) (n m : ℕ) (p q : Bool) (x y : List ℕ) → a ≡ b → n ≡ m → p ≡ q → x ≡ y → Item a n p x ≡ Item b m q y
same_item a b n m p q x y e f g h =
    ap (λ (t : Bool). Item t n p x) e ∙ ap (λ k. Item b k p x) f ∙ ap (λ (t : Bool). Item b m t x) g ∙ ap (λ (l : List ℕ). Item b m q l) h

same_test : (p q : Bool) → (p ≡ true → q ≡ true) → (q ≡ true → p ≡ true) → p ≡ q
same_test true true f g = refl
same_test true false f g = sym (f refl)
same_test false true f g = g refl
same_test false false f g = refl

neither : (p q : Bool) → p ≡ false → q ≡ false → (p || q) ≡ false
neither true q e f = absurd cc
neither false q e f = f

less_by : (a b size len : ℕ) → b ≡ a + size → size < len → nat_lt a (len - size) ≡ nat_lt b len
less_by a b size len e long = same_test (nat_lt a (len - size)) (nat_lt b len) (λ t. grind (arith, nat_tests)) (λ t. grind (arith, nat_tests))

no_zero : (j : ℕ) → (suc j == 0) ≡ false
no_zero j = grind (arith, nat_tests)

next_product : (j size : ℕ) → (suc j + 1) * size ≡ (j + 1) * size + size
next_product j size = let same : suc j + 1 ≡ suc (j + 1) = omega arith in ap (λ n. n * size) same ∙ suc-mul (j + 1) size

-- a number is reached in what is left after a stretch exactly where the next one is in all
there_test : (j size len : ℕ) → size < len → ((j == 0) || nat_lt (j * size) (len - size)) ≡ ((suc j == 0) || nat_lt (suc j * size) len)
there_test zero size len long = let one : nat_lt (1 * size) len ≡ true = grind (arith, nat_tests) in sym one
there_test (suc i) size len long =
    ap (λ (t : Bool). t || nat_lt (suc i * size) (len - size)) (no_zero i)
    ∙ less_by (suc i * size) (suc (suc i) * size) size len (suc-mul (suc i) size) long
    ∙ ap (λ (t : Bool). t || nat_lt (suc (suc i) * size) len) (sym (no_zero (suc i)))

past_test : (j size len : ℕ) → len ≤ size → ((suc j == 0) || nat_lt (suc j * size) len) ≡ false
past_test j size len short =
    let product : suc j * size ≡ j * size + size = suc-mul j size in
    neither (suc j == 0) (nat_lt (suc j * size) len) (no_zero j) (grind (arith, nat_tests))

abbrev There : ℕ → List ℕ → ℕ → Bool
There size bytes k = (k == 0) || nat_lt (k * size) (length bytes)

abbrev At : ℕ → ℕ → List ℕ → ℕ → Option PieceParts
At number size bytes k = Item (There size bytes k) (number + k) (nat_lt ((k + 1) * size) (length bytes)) (take size (drop (k * size) bytes))

none_at : (there more : Bool) (n : ℕ) (bytes : List ℕ) → there ≡ false → None ≡ Item there n more bytes
none_at true more n bytes e = absurd cc
none_at false more n bytes e = refl

at_by : (b : Bool) (fuel number size : ℕ) (bytes : List ℕ) (k : ℕ) → nat_le (length bytes) size ≡ b
    → (b ≡ false → (j : ℕ) → slice_get (stretches fuel (number + 1) size (drop size bytes)) j ≡ At (number + 1) size (drop size bytes) j)
    → slice_get (if b then piece number false bytes ∷ [] else piece number true (take size bytes) ∷ stretches fuel (number + 1) size (drop size bytes)) k ≡ At number size bytes k
at_by true fuel number size bytes zero e go =
    let short : length bytes ≤ size = grind (arith, nat_tests) in
    let last : false ≡ nat_lt (1 * size) (length bytes) = sym (let over : nat_lt (1 * size) (length bytes) ≡ false = grind (arith, nat_tests) in over) in
    same_item true true number (number + 0) false (nat_lt (1 * size) (length bytes)) bytes (take size (drop (0 * size) bytes)) refl (omega arith) last
    (sym (ap (λ n. take size (drop n bytes)) (let none : 0 * size ≡ 0 = omega arith in none) ∙ take_all size bytes short))
at_by true fuel number size bytes (suc j) e go =
    let short : length bytes ≤ size = grind (arith, nat_tests) in
    none_at (There size bytes (suc j)) (nat_lt ((suc j + 1) * size) (length bytes)) (number + suc j) (take size (drop (suc j * size) bytes)) (past_test j size (length bytes) short)
at_by false fuel number size bytes zero e go =
    let long : size < length bytes = grind (arith, nat_tests) in
    let more : nat_lt (1 * size) (length bytes) ≡ true = grind (arith, nat_tests) in
    same_item true true number (number + 0) true (nat_lt (1 * size) (length bytes)) (take size bytes) (take size (drop (0 * size) bytes)) refl (omega arith) (sym more)
    (sym (ap (λ n. take size (drop n bytes)) (let none : 0 * size ≡ 0 = omega arith in none)))
at_by false fuel number size bytes (suc j) e go =
    let long : size < length bytes = grind (arith, nat_tests) in
    let left = length-drop size bytes in
    go refl j ∙ same_item (There size (drop size bytes) j) (There size bytes (suc j)) (number + 1 + j) (number + suc j)
    (nat_lt ((j + 1) * size) (length (drop size bytes))) (nat_lt ((suc j + 1) * size) (length bytes))
    (take size (drop (j * size) (drop size bytes))) (take size (drop (suc j * size) bytes))
    (ap (λ n. (j == 0) || nat_lt (j * size) n) left ∙ there_test j size (length bytes) long)
    (omega arith)
    (ap (λ n. nat_lt ((j + 1) * size) n) left ∙ less_by ((j + 1) * size) ((suc j + 1) * size) size (length bytes) (next_product j size) long)
    (ap (λ (l : List ℕ). take size l) (drop-drop (j * size) size bytes ∙ ap (λ n. drop n bytes) (let sum : size + j * size ≡ suc j * size = let product = suc-mul j size in omega (arith, product) in sum)))

at : (fuel number size : ℕ) (bytes : List ℕ) (k : ℕ) → 0 < size → length bytes < fuel → slice_get (stretches fuel number size bytes) k ≡ At number size bytes k
at zero number size bytes k some enough = absurd (omega arith)
at (suc fuel) number size bytes k some enough =
    at_by (nat_le (length bytes) size) fuel number size bytes k refl
    (λ longer j. let long : size < length bytes = grind (arith, nat_tests) in at fuel (number + 1) size (drop size bytes) j some (omega (arith, length-drop size bytes)))

pub cuts : CutsIntoStretches
cuts packet size k some =
    at (suc (length packet)) 0 size packet k some (omega arith)
    ∙ ap (λ n. Item (There size packet k) n (nat_lt ((k + 1) * size) (length packet)) (take size (drop (k * size) packet))) (let same : 0 + k ≡ k = omega arith in same)

-- ---- how many

count_by : (b : Bool) (fuel number size : ℕ) (bytes : List ℕ) (k : ℕ) → nat_le (length bytes) size ≡ b
    → (b ≡ false → (j : ℕ) → nat_lt j (length (stretches fuel (number + 1) size (drop size bytes))) ≡ There size (drop size bytes) j)
    → nat_lt k (length (if b then piece number false bytes ∷ [] else piece number true (take size bytes) ∷ stretches fuel (number + 1) size (drop size bytes))) ≡ There size bytes k
count_by true fuel number size bytes zero e go = refl
count_by true fuel number size bytes (suc j) e go =
    let short : length bytes ≤ size = grind (arith, nat_tests) in
    let over : nat_lt (suc j) 1 ≡ false = grind (arith, nat_tests) in
    over ∙ sym (past_test j size (length bytes) short)
count_by false fuel number size bytes zero e go =
    let first : nat_lt 0 (suc (length (stretches fuel (number + 1) size (drop size bytes)))) ≡ true = grind (arith, nat_tests) in first
count_by false fuel number size bytes (suc j) e go =
    let long : size < length bytes = grind (arith, nat_tests) in
    let count = length (stretches fuel (number + 1) size (drop size bytes)) in
    let one_less : nat_lt (suc j) (suc count) ≡ nat_lt j count = same_test (nat_lt (suc j) (suc count)) (nat_lt j count) (λ t. grind (arith, nat_tests)) (λ t. grind (arith, nat_tests)) in
    one_less ∙ go refl j ∙ ap (λ n. (j == 0) || nat_lt (j * size) n) (length-drop size bytes) ∙ there_test j size (length bytes) long

count : (fuel number size : ℕ) (bytes : List ℕ) (k : ℕ) → 0 < size → length bytes < fuel → nat_lt k (length (stretches fuel number size bytes)) ≡ There size bytes k
count zero number size bytes k some enough = absurd (omega arith)
count (suc fuel) number size bytes k some enough =
    count_by (nat_le (length bytes) size) fuel number size bytes k refl
    (λ longer j. let long : size < length bytes = grind (arith, nat_tests) in count fuel (number + 1) size (drop size bytes) j some (omega (arith, length-drop size bytes)))

pub has_more : HasMorePieces
has_more packet size some = count (suc (length packet)) 0 size packet 64 some (omega arith)
