-- The spans of the numbers that pass a test.
use Rattle.std.proofs.Common.{◌≡◌, ℕ, zero, suc, ◌+◌, ◌-◌, ◌*◌, ◌/◌, ◌%◌, ◌^◌, ◌<◌, ◌≤◌, ◌⊎◌, Bool, true, false, cond, eqb, List, [], ◌∷◌, length, refl, sym, ap, subst, ◌∙◌, inl, inr, arith}
use Rattle.std.specs.Prelude.{◌↔◌}
use Rattle.std.proofs.lemmas.Bool.{cases_lt, cases_eq, eq-eqb, ne_eqb}
use Rattle.std.proofs.lemmas.List.{get_or_past}
use Rattle.std.proofs.lemmas.Nat.Bits.{bit_at-zero}
use Rattle.rtmfp_data_chunks.specs.Fields.{flag}
use Rattle.rtmfp_data_chunks.specs.Acked.{is_set, in_front, spans_where, bits_told, spans_of_bits, IsTold, AreApart}

pub no_spans : (test : ℕ → Bool) (n : ℕ) → spans_where test n 0 ≡ []
unfolding spans_where
no_spans test n = refl

pub spans_unset : (test : ℕ → Bool) (n count : ℕ) → test n ≡ false → spans_where test n (suc count) ≡ spans_where test (suc n) count
unfolding spans_where
spans_unset test n count e = rw e refl

pub spans_set : (test : ℕ → Bool) (n count : ℕ) → test n ≡ true → spans_where test n (suc count) ≡ in_front n n (spans_where test (suc n) count)
unfolding spans_where
spans_set test n count e = rw e refl

-- ---- no span begins before the first number

abbrev Begins : ℕ → List (ℕ × ℕ) → Type 0
Begins n [] = Unit {0}
Begins n (s ∷ ss) = n ≤ s.0

begins_less : (n : ℕ) (ss : List (ℕ × ℕ)) → Begins (suc n) ss → Begins n ss
begins_less n [] h = tt
begins_less n (s ∷ ss) h = omega (arith, h)

begins_if : (t : Bool) (a b : ℕ) (s : ℕ × ℕ) (ss : List (ℕ × ℕ)) → Begins a (cond t ((a, s.1) ∷ ss) ((a, b) ∷ (s ∷ ss)))
begins_if true a b s ss = omega arith
begins_if false a b s ss = omega arith

front_begins : (a b : ℕ) (ss : List (ℕ × ℕ)) → Begins a (in_front a b ss)
front_begins a b [] = omega arith
front_begins a b (s ∷ ss) = begins_if (eqb s.0 (b + 1)) a b s ss

spans_if : (test : ℕ → Bool) (n count : ℕ) (t : Bool) → test n ≡ t → Begins (suc n) (spans_where test (suc n) count) → Begins n (spans_where test n (suc count))
spans_if test n count true e h = rw (spans_set test n count e) (front_begins n n (spans_where test (suc n) count))
spans_if test n count false e h = rw (spans_unset test n count e) (begins_less n (spans_where test (suc n) count) h)

spans_begin : (test : ℕ → Bool) (n count : ℕ) → Begins n (spans_where test n count)
spans_begin test n zero = rw (no_spans test n) tt
spans_begin test n (suc count) = spans_if test n count (test n) refl (spans_begin test (suc n) count)

-- ---- a span grows, and ends

apart_alone : (a b : ℕ) (ss : List (ℕ × ℕ)) → Begins (suc (b + 1)) ss → in_front a b ss ≡ (a, b) ∷ ss
apart_alone a b [] h = refl
apart_alone a b (s ∷ ss) h = rw (ne_eqb s.0 (b + 1) (λ e. omega (arith, e, h))) refl

pub ends_here : (test : ℕ → Bool) (a b count : ℕ) → (count ≡ 0) ⊎ (test (b + 1) ≡ false) → in_front a b (spans_where test (b + 1) count) ≡ (a, b) ∷ spans_where test (b + 1) count
ends_here test a b count (inl none) = rw (none, no_spans test (b + 1)) refl
ends_here test a b zero (inr unset) = rw (no_spans test (b + 1)) refl
ends_here test a b (suc count) (inr unset) = rw (spans_unset test (b + 1) count unset) (apart_alone a b (spans_where test (suc (b + 1)) count) (spans_begin test (suc (b + 1)) count))

front_if : (a b : ℕ) (s : ℕ × ℕ) (ss : List (ℕ × ℕ)) (t : Bool)
    → in_front a b (cond t ((b + 1, s.1) ∷ ss) ((b + 1, b + 1) ∷ (s ∷ ss))) ≡ cond t ((a, s.1) ∷ ss) ((a, b + 1) ∷ (s ∷ ss))
front_if a b s ss true = rw (eq-eqb (b + 1) (b + 1) refl) refl
front_if a b s ss false = rw (eq-eqb (b + 1) (b + 1) refl) refl

two_fronts : (a b : ℕ) (ss : List (ℕ × ℕ)) → in_front a b (in_front (b + 1) (b + 1) ss) ≡ in_front a (b + 1) ss
two_fronts a b [] = rw (eq-eqb (b + 1) (b + 1) refl) refl
two_fronts a b (s ∷ ss) = front_if a b s ss (eqb s.0 (b + 1 + 1))

pub goes_further : (test : ℕ → Bool) (a b count : ℕ) → test (b + 1) ≡ true → in_front a b (spans_where test (b + 1) (suc count)) ≡ in_front a (b + 1) (spans_where test (suc (b + 1)) count)
goes_further test a b count set = rw (spans_set test (b + 1) count set) (two_fronts a b (spans_where test (suc (b + 1)) count))

-- ---- the spans are apart, and of just the numbers that pass

apart_front : (above m : ℕ) (ss : List (ℕ × ℕ)) → above + 2 ≤ m → Begins (suc m) ss → AreApart above ss → AreApart above (in_front m m ss)
apart_front above m [] le h p = (le, omega arith, tt)
apart_front above m (s ∷ ss) le h p =
    elim (cases_eq s.0 (m + 1)) [
      | inl e ↦ rw (eq-eqb s.0 (m + 1) e) (le, omega (arith, e, p.1), p.2)
      | inr ne ↦ rw (ne_eqb s.0 (m + 1) ne) (le, omega arith, (omega (arith, h, ne), p.1, p.2))
    ]

apart_if : (test : ℕ → Bool) (above m count : ℕ) (t : Bool) → test m ≡ t → above + 2 ≤ m → AreApart above (spans_where test (suc m) count) → AreApart above (spans_where test m (suc count))
apart_if test above m count true e le h = rw (spans_set test m count e) (apart_front above m (spans_where test (suc m) count) le (spans_begin test (suc m) count) h)
apart_if test above m count false e le h = rw (spans_unset test m count e) h

pub spans_apart : (test : ℕ → Bool) (above m count : ℕ) → above + 2 ≤ m → AreApart above (spans_where test m count)
spans_apart test above m zero le = rw (no_spans test m) tt
spans_apart test above m (suc count) le = apart_if test above m count (test m) refl le (spans_apart test above (suc m) count (omega (arith, le)))

abbrev Among : (ℕ → Bool) → ℕ → ℕ → ℕ → Type 0
Among test m count n = (m ≤ n) × (n < m + count) × (test n ≡ true)

told_joined : (m n : ℕ) (s : ℕ × ℕ) (ss : List (ℕ × ℕ)) → s.0 ≡ m + 1 → IsTold n ((m, s.1) ∷ ss) → (n ≡ m) ⊎ IsTold n (s ∷ ss)
told_joined m n s ss e (inl here) = elim (cases_lt m n) [ inl lt ↦ inr (inl (omega (arith, e, lt), here.1)) | inr ge ↦ inl (omega (arith, ge, here)) ]
told_joined m n s ss e (inr later) = inr (inr later)

told_beside : (m n : ℕ) (s : ℕ × ℕ) (ss : List (ℕ × ℕ)) → IsTold n ((m, m) ∷ (s ∷ ss)) → (n ≡ m) ⊎ IsTold n (s ∷ ss)
told_beside m n s ss (inl here) = inl (omega (arith, here))
told_beside m n s ss (inr later) = inr later

told_front : (above m n : ℕ) (ss : List (ℕ × ℕ)) → AreApart above ss → IsTold n (in_front m m ss) → (n ≡ m) ⊎ IsTold n ss
told_front above m n [] p (inl here) = inl (omega (arith, here))
told_front above m n [] p (inr later) = absurd later
told_front above m n (s ∷ ss) p h =
    elim (cases_eq s.0 (m + 1)) [
      | inl e ↦ told_joined m n s ss e (rw (eq-eqb s.0 (m + 1) e) at h)
      | inr ne ↦ told_beside m n s ss (rw (ne_eqb s.0 (m + 1) ne) at h)
    ]

joined_told : (m n : ℕ) (s : ℕ × ℕ) (ss : List (ℕ × ℕ)) → s.0 ≡ m + 1 → s.0 ≤ s.1 → (n ≡ m) ⊎ IsTold n (s ∷ ss) → IsTold n ((m, s.1) ∷ ss)
joined_told m n s ss e le (inl here) = inl (omega (arith, here), omega (arith, here, e, le))
joined_told m n s ss e le (inr (inl there)) = inl (omega (arith, there, e), there.1)
joined_told m n s ss e le (inr (inr later)) = inr later

beside_told : (m n : ℕ) (s : ℕ × ℕ) (ss : List (ℕ × ℕ)) → (n ≡ m) ⊎ IsTold n (s ∷ ss) → IsTold n ((m, m) ∷ (s ∷ ss))
beside_told m n s ss (inl here) = inl (omega (arith, here), omega (arith, here))
beside_told m n s ss (inr there) = inr there

front_told : (above m n : ℕ) (ss : List (ℕ × ℕ)) → AreApart above ss → (n ≡ m) ⊎ IsTold n ss → IsTold n (in_front m m ss)
front_told above m n [] p (inl e) = inl (omega (arith, e), omega (arith, e))
front_told above m n [] p (inr told) = absurd told
front_told above m n (s ∷ ss) p h =
    elim (cases_eq s.0 (m + 1)) [
      | inl e ↦ rw (eq-eqb s.0 (m + 1) e) (joined_told m n s ss e p.1 h)
      | inr ne ↦ rw (ne_eqb s.0 (m + 1) ne) (beside_told m n s ss h)
    ]

passes_if : (test : ℕ → Bool) (above m count n : ℕ) (t : Bool) → test m ≡ t → above + 2 ≤ m → (IsTold n (spans_where test (suc m) count) → Among test (suc m) count n) → IsTold n (spans_where test m (suc count)) → Among test m (suc count) n
passes_if test above m count n true e le ih h =
    elim (told_front above m n (spans_where test (suc m) count) (spans_apart test above (suc m) count (omega (arith, le))) (rw (spans_set test m count e) at h)) [
      | inl here ↦ (omega (arith, here), omega (arith, here), ap test here ∙ e)
      | inr later ↦ let p = ih later in (omega (arith, p.0), omega (arith, p.1), p.2)
    ]
passes_if test above m count n false e le ih h = let p = ih (rw (spans_unset test m count e) at h) in (omega (arith, p.0), omega (arith, p.1), p.2)

told_passes : (test : ℕ → Bool) (above m count n : ℕ) → above + 2 ≤ m → IsTold n (spans_where test m count) → Among test m count n
told_passes test above m zero n le h = absurd (rw (no_spans test m) at h)
told_passes test above m (suc count) n le h = passes_if test above m count n (test m) refl le (told_passes test above (suc m) count n (omega (arith, le))) h

told_if : (test : ℕ → Bool) (above m count n : ℕ) (t : Bool) → test m ≡ t → above + 2 ≤ m → (Among test (suc m) count n → IsTold n (spans_where test (suc m) count)) → Among test m (suc count) n → IsTold n (spans_where test m (suc count))
told_if test above m count n true e le ih p =
    let apart = spans_apart test above (suc m) count (omega (arith, le)) in
    rw (spans_set test m count e)
    (front_told above m n (spans_where test (suc m) count) apart (elim (cases_eq n m) [ inl here ↦ inl here | inr ne ↦ inr (ih (omega (arith, p.0, ne), omega (arith, p.1), p.2)) ]))
told_if test above m count n false e le ih p =
    rw (spans_unset test m count e)
    (elim (cases_eq n m) [ inl here ↦ absurd (cc (e, p.2, ap test here)) | inr ne ↦ ih (omega (arith, p.0, ne), omega (arith, p.1), p.2) ])

passes_told : (test : ℕ → Bool) (above m count n : ℕ) → above + 2 ≤ m → Among test m count n → IsTold n (spans_where test m count)
passes_told test above m zero n le p = absurd (omega (arith, p.0, p.1))
passes_told test above m (suc count) n le p = told_if test above m count n (test m) refl le (passes_told test above (suc m) count n (omega (arith, le))) p

-- ---- bits

abbrev IsAcked : ℕ → List ℕ → ℕ → Type 0
IsAcked upto bits n = (upto + 2 ≤ n) × (n < 2 ^ 64) × (is_set upto bits n ≡ true)

zero_unset : (k : ℕ) → flag 0 k ≡ false
zero_unset k = rw (bit_at-zero k) refl

set_inside : (upto n : ℕ) (bits : List ℕ) → is_set upto bits n ≡ true → n - (upto + 2) < 8 * length bits
set_inside upto n bits set =
    elim (cases_lt (n - (upto + 2)) (8 * length bits)) [
      | inl lt ↦ lt
      | inr ge ↦ let past = get_or_past bits ((n - (upto + 2)) / 8) 0 (omega (arith, ge)) in
          let none : is_set upto bits n ≡ false = ap (λ (b : ℕ). flag b ((n - (upto + 2)) % 8)) past ∙ zero_unset ((n - (upto + 2)) % 8) in
          absurd (cc (none, set))
    ]

pub bits_tell : (upto : ℕ) (bits : List ℕ) (n : ℕ) → IsTold n (spans_of_bits upto bits) ↔ IsAcked upto bits n
bits_tell upto bits n = (
  λ told. let p = told_passes (is_set upto bits) upto (upto + 2) (bits_told upto bits) n (omega arith) told in (p.0, omega (arith, p.0, p.1), p.2),
  λ p. let inside = set_inside upto n bits p.2 in passes_told (is_set upto bits) upto (upto + 2) (bits_told upto bits) n (omega arith) (p.0, omega (arith, p.0, p.1, inside), p.2),
)

pub bits_apart : (upto : ℕ) (bits : List ℕ) → AreApart upto (spans_of_bits upto bits)
bits_apart upto bits = spans_apart (is_set upto bits) upto (upto + 2) (bits_told upto bits) (omega arith)

-- ---- a turn of a walk over the bits

pub passes_over : (test : ℕ → Bool) (k n count : ℕ) → k ≤ count → ((j : ℕ) → j < k → test (n + j) ≡ false) → spans_where test (n + k) (count - k) ≡ spans_where test n count
passes_over test zero n count le unset =
    let here : n + 0 ≡ n = omega arith in
    let all : count - 0 ≡ count = omega arith in
    rw (here, all) refl
passes_over test (suc k) n zero le unset = absurd (omega (arith, le))
passes_over test (suc k) n (suc count) le unset =
    let begins : n + suc k ≡ suc n + k = omega arith in
    let left : suc count - suc k ≡ count - k = omega arith in
    let first : n + 0 ≡ n = omega arith in
    let later : (j : ℕ) → j < k → test (suc n + j) ≡ false = λ j lt. let at : suc n + j ≡ n + suc j = omega arith in ap test at ∙ unset (suc j) (omega (arith, lt)) in
    rw (begins, left) (passes_over test k (suc n) count (omega (arith, le)) later) ∙ sym (spans_unset test n count (ap test (sym first) ∙ unset 0 (omega arith)))

pub starts : (test : ℕ → Bool) (n count : ℕ) → 0 < count → test n ≡ true → spans_where test n count ≡ in_front n n (spans_where test (n + 1) (count - 1))
starts test n zero some set = absurd (omega (arith, some))
starts test n (suc count) some set =
    let next : n + 1 ≡ suc n = omega arith in
    let left : suc count - 1 ≡ count = omega arith in
    rw (next, left) (spans_set test n count set)

pub goes_on : (test : ℕ → Bool) (a k b count : ℕ) → k ≤ count → ((j : ℕ) → j < k → test (b + 1 + j) ≡ true)
    → in_front a b (spans_where test (b + 1) count) ≡ in_front a (b + k) (spans_where test (b + k + 1) (count - k))
goes_on test a zero b count le set =
    let here : b + 0 ≡ b = omega arith in
    let all : count - 0 ≡ count = omega arith in
    rw (here, all) refl
goes_on test a (suc k) b zero le set = absurd (omega (arith, le))
goes_on test a (suc k) b (suc count) le set =
    let begins : b + suc k ≡ (b + 1) + k = omega arith in
    let left : suc count - suc k ≡ count - k = omega arith in
    let first : b + 1 + 0 ≡ b + 1 = omega arith in
    let next : suc (b + 1) ≡ b + 1 + 1 = omega arith in
    let later : (j : ℕ) → j < k → test (b + 1 + 1 + j) ≡ true = λ j lt. let at : b + 1 + 1 + j ≡ b + 1 + suc j = omega arith in ap test at ∙ set (suc j) (omega (arith, lt)) in
    goes_further test a b count (ap test (sym first) ∙ set 0 (omega arith))
    ∙ (ap (λ (m : ℕ). in_front a (b + 1) (spans_where test m count)) next ∙ rw (begins, left) (goes_on test a k (b + 1) count (omega (arith, le)) later))

pub ends : (test : ℕ → Bool) (a b n count : ℕ) → b + 1 ≡ n → (count ≡ 0) ⊎ (test n ≡ false) → in_front a b (spans_where test n count) ≡ (a, b) ∷ spans_where test n count
ends test a b n count p (inl none) = subst (λ (k : ℕ). in_front a b (spans_where test k count) ≡ (a, b) ∷ spans_where test k count) p (ends_here test a b count (inl none))
ends test a b n count p (inr unset) = subst (λ (k : ℕ). in_front a b (spans_where test k count) ≡ (a, b) ∷ spans_where test k count) p (ends_here test a b count (inr (ap test p ∙ unset)))
