-- Each number below 2 ^ 64 has one shortest spelling.
use Rattle.std.proofs.Common.{◌≡◌, ◌≢◌, ℕ, zero, suc, ◌+◌, ◌-◌, ◌*◌, ◌/◌, ◌%◌, ◌^◌, ◌<◌, ◌≤◌, List, [], ◌∷◌, ◌++◌, length, refl, sym, ap, subst, ◌∙◌, append_assoc, add-one, max, inl, inr, arith}
use Rattle.std.proofs.lemmas.Bool.{cases_lt}
use Rattle.std.proofs.lemmas.List.{length_push}
use Rattle.std.proofs.lemmas.Nat.{div_below, same_from_place, mul-le, pow-add}
use Rattle.std.proofs.Math.Nat.{pow-suc, pow-le-pow_right}
use Rattle.rtmfp_vlu.specs.Vlu.{value, AllContinued, IsEnded, IsUnpadded, VluSpells, Shortest, groups_before, vlu}
use Rattle.rtmfp_vlu.proofs.Values.{value-push, value-below}
use Rattle.rtmfp_vlu.proofs.Spellings.{IsEnded-some, AllContinued-push, IsEnded-push}

-- ---- the function gives one

AllContinued-groups : (count v : ℕ) → AllContinued (groups_before count v)
unfolding groups_before
AllContinued-groups zero v = tt
AllContinued-groups (suc count) zero = tt
AllContinued-groups (suc count) (suc v) = AllContinued-push (groups_before count (suc v / 128)) (128 + suc v % 128) (AllContinued-groups count (suc v / 128)) (omega arith, omega arith)

value-groups : (count v : ℕ) → v < 128 ^ count → value (groups_before count v) ≡ v
unfolding groups_before
value-groups zero v h = omega arith
value-groups (suc count) zero h = refl
value-groups (suc count) (suc v) h =
    let high : suc v / 128 < 128 ^ count = div_below (suc v) 128 (128 ^ count) (omega arith) (rw pow-suc at h) in
    value-push (groups_before count (suc v / 128)) (128 + suc v % 128) ∙ rw (value-groups count (suc v / 128) high) (omega arith)

length-groups : (count v : ℕ) → length (groups_before count v) ≤ count
unfolding groups_before
length-groups zero v = omega arith
length-groups (suc count) zero = omega arith
length-groups (suc count) (suc v) = omega (arith, length_push (groups_before count (suc v / 128)) (128 + suc v % 128), length-groups count (suc v / 128))

-- no group of zeros comes first
IsUnpadded-groups : (count v b : ℕ) (bs : List ℕ) → v < 128 ^ count → (v ≡ 0 → b ≢ 128) → IsUnpadded (groups_before count v ++ b ∷ bs)
unfolding groups_before
IsUnpadded-groups zero v b bs h first = first (omega arith)
IsUnpadded-groups (suc count) zero b bs h first = first refl
IsUnpadded-groups (suc count) (suc v) b bs h first =
    let high : suc v / 128 < 128 ^ count = div_below (suc v) 128 (128 ^ count) (omega arith) (rw pow-suc at h) in
    rw append_assoc (IsUnpadded-groups count (suc v / 128) (128 + suc v % 128) (b ∷ bs) high (λ none e. omega (arith, none, e)))

pub Shortest-vlu : (v : ℕ) → v < 2 ^ 64 → Shortest v (vlu v)
unfolding vlu
Shortest-vlu v h =
    let few : v / 128 < 128 ^ 9 = omega arith in
    record {
      spells = record {
        size = omega (arith, length_push (groups_before 9 (v / 128)) (v % 128), length-groups 9 (v / 128));
        ended = IsEnded-push (groups_before 9 (v / 128)) (v % 128) (AllContinued-groups 9 (v / 128)) (omega arith);
        sum = value-push (groups_before 9 (v / 128)) (v % 128) ∙ rw (value-groups 9 (v / 128) few) (omega arith);
        fits = h;
      };
      unpadded = IsUnpadded-groups 9 (v / 128) (v % 128) [] few (λ none e. omega (arith, e));
    }

-- ---- there is no other

-- the length that a number needs
pub record Needs (v n : ℕ) : Type 0 where
  pub some : 1 ≤ n
  pub enough : v < 128 ^ n
  pub least : 1 < n → 128 ^ (n - 1) ≤ v

pub same_need : (v m n : ℕ) → Needs v m → Needs v n → m ≡ n
same_need v m n p q =
    elim (cases_lt m n) [
      | inl lt ↦ absurd (omega (arith, p.some, p.enough, q.least (omega (arith, p.some)), pow-le-pow_right {n = 128} (omega arith) {i = m} {j = n - 1} (omega arith)))
      | inr le ↦ elim (cases_lt n m) [
        | inl lt ↦ absurd (omega (arith, q.some, q.enough, p.least (omega (arith, q.some)), pow-le-pow_right {n = 128} (omega arith) {i = n} {j = m - 1} (omega arith)))
        | inr ge ↦ omega arith
      ]
    ]

pub Needs-spelling : (v : ℕ) (s : List ℕ) → IsEnded s → IsUnpadded s → value s ≡ v → Needs v (length s)
Needs-spelling v [] e u h = absurd e
Needs-spelling v (b ∷ []) e u h = record { some = omega arith; enough = omega (arith, h, value-below (b ∷ [])); least = λ lt. absurd (omega (arith, lt)) }
Needs-spelling v (b ∷ c ∷ s) e u h = record {
  some = omega arith;
  enough = omega (arith, h, value-below (b ∷ c ∷ s));
  least = λ lt.
      let fewer : length (b ∷ c ∷ s) - 1 ≡ length (c ∷ s) = omega arith in
      let some : 1 ≤ b % 128 = omega (arith, e.0.0, e.0.1, u) in
      rw fewer (omega (arith, h, mul-le 1 (128 ^ length (c ∷ s)) (b % 128) (128 ^ length (c ∷ s)) some (omega arith)));
}

pub Needs-shortest : (v : ℕ) (s : List ℕ) → Shortest v s → Needs v (length s)
Needs-shortest v s h = Needs-spelling v s h.spells.ended h.unpadded h.spells.sum

-- two spellings of one length and value are one
same_spelling : (s t : List ℕ) → IsEnded s → IsEnded t → length s ≡ length t → value s ≡ value t → s ≡ t
same_spelling [] t p q e h = absurd p
same_spelling (a ∷ s) [] p q e h = absurd q
same_spelling (a ∷ []) (b ∷ []) p q e h = let same : a ≡ b = omega (arith, p, q, h) in ap (λ (n : ℕ). n ∷ []) same
same_spelling (a ∷ []) (b ∷ d ∷ t) p q e h = absurd (omega (arith, e))
same_spelling (a ∷ c ∷ s) (b ∷ []) p q e h = absurd (omega (arith, e))
same_spelling (a ∷ c ∷ s) (b ∷ d ∷ t) p q e h =
    let lengths : length (c ∷ s) ≡ length (d ∷ t) = omega (arith, e) in
    let sums : a % 128 * 128 ^ length (c ∷ s) + value (c ∷ s) ≡ b % 128 * 128 ^ length (c ∷ s) + value (d ∷ t) = h ∙ ap (λ (n : ℕ). b % 128 * 128 ^ n + value (d ∷ t)) (sym lengths) in
    let below : value (d ∷ t) < 128 ^ length (c ∷ s) = subst (λ (n : ℕ). value (d ∷ t) < 128 ^ n) (sym lengths) (value-below (d ∷ t)) in
    let both = same_from_place (a % 128) (value (c ∷ s)) (b % 128) (value (d ∷ t)) (128 ^ length (c ∷ s)) (value-below (c ∷ s)) below sums in
    let head : a ≡ b = omega (arith, p.0.0, p.0.1, q.0.0, q.0.1, both.0) in
    let tails : c ∷ s ≡ d ∷ t = same_spelling (c ∷ s) (d ∷ t) p.1 q.1 lengths both.1 in
    cc

pub Shortest-unique : (v : ℕ) (s t : List ℕ) → Shortest v s → Shortest v t → s ≡ t
Shortest-unique v s t p q = same_spelling s t p.spells.ended q.spells.ended (same_need v (length s) (length t) (Needs-shortest v s p) (Needs-shortest v t q)) (p.spells.sum ∙ sym q.spells.sum)

-- the shortest spelling is the one that the function gives
pub Shortest-is : (v : ℕ) (s : List ℕ) → Shortest v s → s ≡ vlu v
Shortest-is v s h = Shortest-unique v s (vlu v) h (Shortest-vlu v h.spells.fits)

pub VluSpells-vlu : (v : ℕ) → v < 2 ^ 64 → VluSpells v (vlu v)
VluSpells-vlu v h = (Shortest-vlu v h).spells

pub length-vlu : (v n : ℕ) → v < 2 ^ 64 → Needs v n → n ≡ length (vlu v)
length-vlu v n h need = same_need v n (length (vlu v)) need (Needs-shortest v (vlu v) (Shortest-vlu v h))

-- ---- how long it is, from the index of the highest bit

pow_128 : (k : ℕ) → 128 ^ k ≡ 2 ^ (7 * k)
pow_128 zero = refl
pow_128 (suc k) =
    let more : 7 * suc k ≡ 7 * k + 7 = omega arith in
    pow-suc 128 k ∙ rw (pow_128 k, more, pow-add 2 (7 * k) 7) refl

pub Needs-highest_bit : (v w bit : ℕ) → w ≡ max v 1 → 2 ^ bit ≤ w → w < 2 * 2 ^ bit → Needs v (bit / 7 + 1)
Needs-highest_bit v w bit e low high = record {
  some = omega arith;
  enough =
      let double : 2 ^ (bit + 1) ≡ 2 ^ bit * 2 = rw add-one (pow-suc 2 bit) in
      rw (pow_128 (bit / 7 + 1)) (omega (arith, double, e, pow-le-pow_right {n = 2} (omega arith) {i = bit + 1} {j = 7 * (bit / 7 + 1)} (omega arith)));
  least = λ lt.
      let fewer : bit / 7 + 1 - 1 ≡ bit / 7 = omega arith in
      let one : 128 ^ 1 ≤ 128 ^ (bit / 7) = pow-le-pow_right {n = 128} (omega arith) {i = 1} {j = bit / 7} (omega arith) in
      rw fewer (omega (arith, one, e, low, pow_128 (bit / 7), pow-le-pow_right {n = 2} (omega arith) {i = 7 * (bit / 7)} {j = bit} (omega arith)));
}

-- no spelling of a number is shorter than the shortest one of a number that is no larger
pub length-vlu_le : (a b : ℕ) (s : List ℕ) → a ≤ b → VluSpells b s → length (vlu a) ≤ length s
length-vlu_le a b s le h =
    let need = Needs-shortest a (vlu a) (Shortest-vlu a (omega (arith, le, h.fits))) in
    elim (cases_lt (length s) (length (vlu a))) [
      | inl lt ↦ absurd (omega (arith, le, h.sum, value-below s, need.least (omega (arith, IsEnded-some s h.ended, lt)), pow-le-pow_right {n = 128} (omega arith) {i = length s} {j = length (vlu a) - 1} (omega (arith, lt))))
      | inr ge ↦ ge
    ]
