-- There is a free session ID for each word.
use Rattle.std.proofs.Common.{◌≡◌, ℕ, zero, suc, ◌+◌, ◌%◌, ◌^◌, ◌<◌, ◌≤◌, ◌==◌, List, [], ◌∷◌, ◌++◌, length, Bool, true, false, not, ◌&&◌, ◌||◌, if◌then◌else◌, inl, inr, refl, sym, ap, ◌∙◌, arith, length-append}
use Rattle.std.specs.List.{list_any}
use Rattle.std.specs.Ordering.{nat_cmp, eq_by_cmp}
use Rattle.std.specs.FinMap.{FinMap, contains_key, keys, len, entries, len-entries, contains_key-keys}
use Rattle.std.proofs.lemmas.Bool.{cases_Bool}
use Rattle.std.proofs.lemmas.List.{length-map}
use Rattle.std.proofs.lemmas.List.Folds.{list_any-append}
use Rattle.rtmfp_base.proofs.Maps.{same_or_not}
use Rattle.endpoint_model.specs.State.{State, uses, is_free, next_id, free_among, free_from}
use Rattle.endpoint_model.proofs.Members.{has, without, tested, has_others, less}

-- ---- the first number that passes, of so many from one on

module _ (f : ℕ → Bool) where
  first : ℕ → ℕ → ℕ
  first zero id = id
  first (suc tries) id = if f id then id else first tries (next_id id)

  pick : (b : Bool) (x y : ℕ) → (b ≡ true → f x ≡ true) → (b ≡ false → f y ≡ true) → f (if b then x else y) ≡ true
  pick true x y p q = p refl
  pick false x y p q = q refl

  -- numbers that fail are in a list that isn't longer than the tries
  abbrev AreListed : ℕ → ℕ → List ℕ → Type 0
  AreListed tries id ks = (j : ℕ) → j ≤ tries → f ((id + j) % 2 ^ 32) ≡ false → has ((id + j) % 2 ^ 32) ks ≡ true

  itself : (id : ℕ) → id < 2 ^ 32 → (id + 0) % 2 ^ 32 ≡ id
  itself id small = omega arith

  moved : (id j : ℕ) → id < 2 ^ 32 → (next_id id + j) % 2 ^ 32 ≡ (id + suc j) % 2 ^ 32
  moved id j small = omega arith

  away : (id j : ℕ) → id < 2 ^ 32 → suc j < 2 ^ 32 → (id + suc j) % 2 ^ 32 ≡ id → ⊥
  away id j small few e = omega arith

  small_next : (id : ℕ) → next_id id < 2 ^ 32
  small_next id = omega arith

  listed_here : (tries id : ℕ) (ks : List ℕ) → id < 2 ^ 32 → AreListed tries id ks → f id ≡ false → has id ks ≡ true
  listed_here tries id ks small all e =
      ap (λ q. has q ks) (sym (itself id small)) ∙ all 0 (omega arith) (ap f (itself id small) ∙ e)

  listed_later : (tries id : ℕ) (ks : List ℕ) → id < 2 ^ 32 → suc tries < 2 ^ 32 → AreListed (suc tries) id ks → AreListed tries (next_id id) (without id ks)
  listed_later tries id ks small few all j most e =
      let at : (next_id id + j) % 2 ^ 32 ≡ (id + suc j) % 2 ^ 32 = moved id j small in
      ap (λ q. has q (without id ks)) at
      ∙ has_others ((id + suc j) % 2 ^ 32) id ks (away id j small (omega arith))
      ∙ all (suc j) (omega arith) (ap f (sym at) ∙ e)

  first_passes : (tries id : ℕ) (ks : List ℕ) → id < 2 ^ 32 → tries < 2 ^ 32 → length ks ≤ tries → AreListed tries id ks → f (first tries id) ≡ true
  unfolding first
  first_passes zero id ks small few short all = elim (cases_Bool (f id)) [
    | inl t ↦ t
    | inr e ↦ absurd (omega (arith, short, less id ks (listed_here zero id ks small all e)))
  ]
  first_passes (suc tries) id ks small few short all =
      pick (f id) id (first tries (next_id id)) (λ t. t)
      (λ e. first_passes tries (next_id id) (without id ks) (small_next id) (omega arith)
      (omega (arith, short, less id ks (listed_here (suc tries) id ks small all e))) (listed_later tries id ks small few all))

free_is_first : (tries : ℕ) (s : State) (id : ℕ) → free_among tries s id ≡ first (is_free s) tries id
unfolding first
free_is_first zero s id = refl
free_is_first (suc tries) s id = ap (λ x. if is_free s id then id else x) (free_is_first tries s (next_id id))

-- ---- what isn't free is 0 or a key

any_alike : (p r : ℕ → Bool) (ks : List ℕ) → ((k : ℕ) → p k ≡ r k) → list_any p ks ≡ list_any r ks
any_alike p r [] alike = refl
any_alike p r (k ∷ ks) alike = ap (λ b. b || list_any p ks) (alike k) ∙ ap (λ b. r k || b) (any_alike p r ks alike)

key_alike : (q k : ℕ) → eq_by_cmp nat_cmp q k ≡ (k == q)
key_alike q k = elim (same_or_not q k) [
  | inl is ↦ is.1 ∙ elim (tested k q) [ inl same ↦ sym same.1 | inr other ↦ absurd (other.0 (sym is.0)) ]
  | inr is ↦ is.1 ∙ elim (tested k q) [ inl same ↦ absurd (is.0 (sym same.0)) | inr other ↦ sym other.1 ]
]

pub has_keys : {A : Type 0} (m : FinMap nat_cmp A) (q : ℕ) → contains_key m q ≡ has q (keys m)
has_keys m q = contains_key-keys m q ∙ any_alike (eq_by_cmp nat_cmp q) (λ k. k == q) (keys m) (key_alike q)

pub count_keys : {A : Type 0} (m : FinMap nat_cmp A) → length (keys m) ≡ len m
count_keys m = length-map (entries m) (λ e. e.0) ∙ sym (len-entries m)

blocked : (z a b : Bool) → (not z && not (a || b)) ≡ false → (z || (a || b)) ≡ true
blocked true a b e = refl
blocked false true b e = refl
blocked false false true e = refl
blocked false false false e = absurd (cc)

-- 0, and the session IDs of attempts and sessions
taken : State → List ℕ
taken s = 0 ∷ (keys s.startup.attempts ++ keys s.sessions)

length_taken : (s : State) → length (taken s) ≡ uses s + 1
unfolding taken
length_taken s = omega (arith, length-append (keys s.startup.attempts) (keys s.sessions), count_keys s.startup.attempts, count_keys s.sessions)

zero_alike : (q : ℕ) → (q == 0) ≡ (0 == q)
zero_alike q = elim (tested q 0) [
  | inl is ↦ is.1 ∙ elim (tested 0 q) [ inl same ↦ sym same.1 | inr other ↦ absurd (other.0 (sym is.0)) ]
  | inr is ↦ is.1 ∙ elim (tested 0 q) [ inl same ↦ absurd (is.0 (sym same.0)) | inr other ↦ sym other.1 ]
]

not_free_taken : (s : State) (q : ℕ) → is_free s q ≡ false → has q (taken s) ≡ true
unfolding taken
not_free_taken s q e =
    ap (λ b. b || has q (keys s.startup.attempts ++ keys s.sessions)) (sym (zero_alike q))
    ∙ ap (λ b. (q == 0) || b) (
    list_any-append (λ k. k == q) (keys s.startup.attempts) (keys s.sessions)
    ∙ ap (λ b. b || has q (keys s.sessions)) (sym (has_keys s.startup.attempts q))
    ∙ ap (λ b. contains_key s.startup.attempts q || b) (sym (has_keys s.sessions q))
    )
    ∙ blocked (q == 0) (contains_key s.startup.attempts q) (contains_key s.sessions q) e

pub free_from_is_free : (s : State) (word : ℕ) → uses s ≤ 65536 → word < 2 ^ 32 → is_free s (free_from s word) ≡ true
unfolding free_from
free_from_is_free s word few small =
    ap (is_free s) (free_is_first (uses s + 1) s word)
    ∙ first_passes (is_free s) (uses s + 1) word (taken s) small (omega arith) (omega (arith, length_taken s)) (λ j most e. not_free_taken s ((word + j) % 2 ^ 32) e)
