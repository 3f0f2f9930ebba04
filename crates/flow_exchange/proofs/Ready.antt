-- The greatest number at or below which none is missing; and what is ready by it.
use Rattle.std.proofs.Common.{◌≡◌, ◌≢◌, ℕ, zero, suc, ◌+◌, ◌<◌, ◌≤◌, nat_le, cond, Bool, true, false, List, [], ◌∷◌, ◌++◌, map, Option, Some, None, refl, ap, sym, ◌∙◌, subst, arith, inl, inr, ◌⊎◌}
use Rattle.std.specs.List.{filter}
use Rattle.std.proofs.lemmas.Bool.{cases_eq, cases_lt, le-leb, lt-leb}
use Rattle.std.proofs.lemmas.Bool.Decides.{nat_tests}
use Rattle.std.proofs.lemmas.List.{append-nil}
use Rattle.std.proofs.lemmas.List.Elements.{filter-append}
use Rattle.rtmfp_data_chunks.specs.Runs.{Chunk, Number, Missing, Held, GivenUp, number_of, Run, run_up_to, goes_on, run_ending, runs_to, runs_of, is_whole, is_ready, message_of, highest, through_with, through, through_of, handed_in_order}
use Rattle.rtmfp_data_chunks.specs.HandsOver.{IsIn}
use Rattle.flow_exchange.proofs.Ends.{wholes_to}
use Rattle.flow_exchange.proofs.Wholes.{IsHeld, in_either}
use Rattle.flow_exchange.proofs.Longest.{LongestOf, longest_is, wholes_are}
use Rattle.flow_exchange.proofs.Kept.{still_known}

-- the greatest number at or below which none is missing
through_at : (v : Number) (n t : ℕ) → t ≤ n → (t ≤ through_with v n t) × (through_with v n t ≤ n + 1)
through_at Missing n t le = (omega arith, omega arith)
through_at (Held p b) n t le = grind (arith, nat_tests)
through_at GivenUp n t le = grind (arith, nat_tests)

pub through_low : (s : ℕ → Number) (n : ℕ) → through s n ≤ n
unfolding through
through_low s zero = omega arith
through_low s (suc n) = omega (arith, through_at (s (suc n)) n (through s n) (through_low s n))

pub through_rises : (s : ℕ → Number) (n : ℕ) → through s n ≤ through s (suc n)
unfolding through
through_rises s n = (through_at (s (suc n)) n (through s n) (through_low s n)).0

through_new : (v : Number) (n t k : ℕ) → t ≤ n → k ≤ through_with v n t → (k ≤ t) ⊎ ((k ≡ n + 1) × (v ≢ Missing))
through_new Missing n t k le h = inl h
through_new (Held p b) n t k le h = elim (cases_eq t n) [
  | inl e ↦ elim (cases_lt n k) [ inl l ↦ inr (grind (arith, nat_tests), λ x. cc) | inr l ↦ inl (omega (arith, e)) ]
  | inr ne ↦ inl (grind (arith, nat_tests))
]
through_new GivenUp n t k le h = elim (cases_eq t n) [
  | inl e ↦ elim (cases_lt n k) [ inl l ↦ inr (grind (arith, nat_tests), λ x. cc) | inr l ↦ inl (omega (arith, e)) ]
  | inr ne ↦ inl (grind (arith, nat_tests))
]

-- none at or below it is missing
pub through_none : (s : ℕ → Number) (top n : ℕ) → s 0 ≢ Missing → n ≤ through s top → s n ≢ Missing
unfolding through
through_none s zero n z le = let e : n ≡ 0 = omega arith in subst (λ (x : ℕ). s x ≢ Missing) (sym e) z
through_none s (suc top) n z le = elim (through_new (s (suc top)) top (through s top) n (through_low s top) le) [
  | inl a ↦ through_none s top n z a
  | inr b ↦ let e : n ≡ suc top = omega (arith, b.0) in subst (λ (x : ℕ). s x ≢ Missing) (sym e) b.1
]

through_full : (v : Number) (n t : ℕ) → t ≡ n → v ≢ Missing → through_with v n t ≡ n + 1
through_full Missing n t e ne = absurd (ne refl)
through_full (Held p b) n t e ne = grind (arith, nat_tests)
through_full GivenUp n t e ne = grind (arith, nat_tests)

-- it is the greatest such number
pub through_greatest : (s : ℕ → Number) (top n : ℕ) → n ≤ top → ((k : ℕ) → k ≤ n → s k ≢ Missing) → n ≤ through s top
unfolding through
through_greatest s zero n le none = omega arith
through_greatest s (suc top) n le none = elim (cases_eq n (suc top)) [
  | inl e ↦
      let below = through_greatest s top top (omega arith) (λ k l. none k (omega (arith, e))) in
      let t : through s top ≡ top = omega (arith, below, through_low s top) in
      omega (arith, e, through_full (s (suc top)) top (through s top) t (none (suc top) (omega (arith, e))))
  | inr ne ↦ omega (arith, through_greatest s top n (omega (arith, ne)) none, (through_at (s (suc top)) top (through s top) (through_low s top)).0)
]

pub zero_known : (taken : List Chunk) → number_of taken 0 ≢ Missing
unfolding number_of
zero_known [] e = cc
zero_known (c ∷ taken) e = still_known c taken 0 (zero_known taken) e

pub missing_or : (v : Number) → (v ≡ Missing) ⊎ (v ≢ Missing)
missing_or Missing = inl refl
missing_or (Held p b) = inr (λ e. cc)
missing_or GivenUp = inr (λ e. cc)

-- what a run is
pub record RunOf (s : ℕ → Number) (n : ℕ) (y : Run) : Type 0 where
  pub longest : run_up_to s y.last ≡ Some y
  pub of : LongestOf s y.last y
  pub low : y.last ≤ n
  pub stops : goes_on y (s (suc y.last)) ≡ false

ending_of : (y z : Run) (b : Bool) → IsIn z (cond b [] (y ∷ [])) → (b ≡ false) × (z ≡ y)
ending_of y z true h = absurd h
ending_of y z false (inl e) = (refl, e)
ending_of y z false (inr h) = absurd h

run_ending_of : (s : ℕ → Number) (n : ℕ) (o : Option Run) (z : Run) → run_up_to s n ≡ o → IsIn z (run_ending o (s (suc n))) → RunOf s n z
run_ending_of s n None z e h = absurd h
run_ending_of s n (Some y) z e h =
    let r = ending_of y z (goes_on y (s (suc n))) h in
    let o = longest_is s n y e in
    subst (λ (x : Run). RunOf s n x) (sym r.1) (
    record {
      longest = ap (run_up_to s) o.last ∙ e;
      of = longest_is s y.last y (ap (run_up_to s) o.last ∙ e);
      low = omega (arith, o.last);
      stops = ap (λ x. goes_on y (s (suc x))) o.last ∙ r.0;
    }
    )

run_low : (s : ℕ → Number) (n m : ℕ) (y : Run) → n ≤ m → RunOf s n y → RunOf s m y
run_low s n m y le r = record { longest = r.longest; of = r.of; low = omega (arith, r.low, le); stops = r.stops }

pub run_of : (s : ℕ → Number) (n : ℕ) (y : Run) → IsIn y (runs_to s n) → RunOf s n y
unfolding runs_to
run_of s zero y h = absurd h
run_of s (suc n) y h = elim (in_either y (runs_to s n) (run_ending (run_up_to s (suc n)) (s (suc (suc n)))) h) [
  | inl a ↦ run_low s n (suc n) y (omega arith) (run_of s n y a)
  | inr b ↦ run_ending_of s (suc n) (run_up_to s (suc n)) y refl b
]

filter_cons : {X : Type 0} (p q : X → Bool) (x : X) (xs : List X) (b : Bool) → p x ≡ b → q x ≡ b → filter p xs ≡ filter q xs → filter p (x ∷ xs) ≡ filter q (x ∷ xs)
filter_cons p q x xs true e f g = rw (e, f) (ap (λ ys. x ∷ ys) g)
filter_cons p q x xs false e f g = rw (e, f) g

pub filter_same : {X : Type 0} (p q : X → Bool) (xs : List X) → ((x : X) → IsIn x xs → p x ≡ q x) → filter p xs ≡ filter q xs
filter_same p q [] e = refl
filter_same p q (x ∷ xs) e = filter_cons p q x xs (p x) refl (sym (e x (inl refl))) (filter_same p q xs (λ y h. e y (inr h)))

ready_if : (y : Run) (t : ℕ) (b : Bool) → nat_le y.first t ≡ true → cond b (nat_le y.first t) false ≡ b
ready_if y t true e = e
ready_if y t false e = refl

not_ready_if : (y : Run) (t : ℕ) (b : Bool) → nat_le y.first t ≡ false → cond b (nat_le y.first t) false ≡ false
not_ready_if y t true e = e
not_ready_if y t false e = refl

ready_low : (s : ℕ → Number) (t : ℕ) → filter (is_ready t) (runs_to s t) ≡ filter is_whole (runs_to s t)
ready_low s t = filter_same (is_ready t) is_whole (runs_to s t) (
    λ y h. let r = run_of s t y h in ready_if y t (is_whole y) (le-leb y.first t (omega (arith, r.low, r.of.low)))
    )

none_of : (t : ℕ) (y : Run) (b : Bool) → is_ready t y ≡ false → filter (is_ready t) (cond b [] (y ∷ [])) ≡ []
none_of t y true e = refl
none_of t y false e = rw e refl

held_not_missing : (v : Number) → IsHeld v → v ≡ Missing → ⊥
held_not_missing Missing h e = h
held_not_missing (Held p b) h e = cc
held_not_missing GivenUp h e = h

none_ending : (s : ℕ → Number) (t n : ℕ) (o : Option Run) (next : Number) → run_up_to s n ≡ o → t < n → s (suc t) ≡ Missing → filter (is_ready t) (run_ending o next) ≡ []
none_ending s t n None next e lt miss = refl
none_ending s t n (Some y) next e lt miss =
    let o = longest_is s n y e in
    let high : t < y.first = elim (cases_lt t y.first) [ inl l ↦ l | inr l ↦ absurd (held_not_missing (s (suc t)) (o.held (suc t) (omega (arith, l)) (omega arith)) miss) ] in
    none_of t y (goes_on y next) (not_ready_if y t (is_whole y) (lt-leb y.first t high))

ready_to : (s : ℕ → Number) (t m : ℕ) → t ≤ m → s (suc t) ≡ Missing → filter (is_ready t) (runs_to s m) ≡ filter is_whole (runs_to s t)
unfolding runs_to
ready_to s t zero le miss = let e : t ≡ zero = omega arith in rw e refl
ready_to s t (suc m) le miss = elim (cases_eq t (suc m)) [
  | inl e ↦ subst (λ (x : ℕ). filter (is_ready t) (runs_to s x) ≡ filter is_whole (runs_to s t)) e (ready_low s t)
  | inr ne ↦
      let ih = ready_to s t m (omega (arith, ne)) miss in
      let none = none_ending s t (suc m) (run_up_to s (suc m)) (s (suc (suc m))) refl (omega (arith, ne, le)) miss in
      filter-append (is_ready t) (runs_to s m) (run_ending (run_up_to s (suc m)) (s (suc (suc m))))
      ∙ (ap (λ x. filter (is_ready t) (runs_to s m) ++ x) none ∙ (append-nil (filter (is_ready t) (runs_to s m)) ∙ ih))
]

-- the number after the greatest one is missing, where there is one below the bound
pub through_stops : (s : ℕ → Number) (top : ℕ) → s 0 ≢ Missing → through s top < top → s (suc (through s top)) ≡ Missing
through_stops s top z lt = elim (missing_or (s (suc (through s top)))) [
  | inl e ↦ e
  | inr ne ↦
      let t = through s top in
      absurd (
      omega (
        arith,
        through_greatest s top (suc t) (omega arith) (
            λ k le. elim (cases_eq k (suc t)) [
              | inl e ↦ subst (λ (x : ℕ). s x ≢ Missing) (sym e) ne
              | inr away ↦ through_none s top k z (omega (arith, away))
            ]
            ),
      )
      )
]

-- what is handed over in queueing order, number by number
pub handed_is : (taken : List Chunk) → handed_in_order taken ≡ wholes_to (number_of taken) (through_of taken)
handed_is taken =
    let s = number_of taken in
    let top = highest taken in
    let t = through_of taken in
    let low = through_low s top in
    let same : filter (is_ready t) (runs_of taken) ≡ filter is_whole (runs_to s t) = elim (cases_eq t top) [
      | inl e ↦ subst (λ (x : ℕ). filter (is_ready t) (runs_to s x) ≡ filter is_whole (runs_to s t)) e (ready_low s t)
      | inr ne ↦ ready_to s t top low (through_stops s top (zero_known taken) (omega (arith, low, ne)))
    ] in
    ap (map message_of) same ∙ sym (wholes_are s t)
