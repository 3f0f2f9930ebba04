-- What a call does to the mapping at its place.
use Rattle.std.proofs.Common.{◌≡◌, ◌<◌, ◌≤◌, ℕ, suc, Bool, true, false, if◌then◌else◌, List, [], ◌∷◌, ◌++◌, length, slice_index_or, slice_set, refl, ap, arith}
use Rattle.translators.specs.declared.rule.Rule.{Rule}
use Rattle.translators.proofs.Choices.{clash}
use Rattle.translators.specs.Mappings.{Mapped, Call, is_of, new_for, used_by, with_use, place_of}

pub has_it : (b : Bool) (h : List ℕ) (hs : List (List ℕ)) → b ≡ true → (if b then hs else hs ++ h ∷ []) ≡ hs
has_it true h hs e = refl
has_it false h hs e = absurd (clash e)

pub nothing_below : (p : ℕ) → p < 0 → ⊥
nothing_below p below = omega (arith, below)

used_step : (b : Bool) (p : ℕ) (k m : Mapped) (ms ns : List Mapped) (call : Call)
    → (p < length ms → m ≡ slice_index_or ms p m → slice_set ms p (used_by m call) ≡ ns)
    → (if b then 0 else suc p) < suc (length ms)
    → m ≡ slice_index_or (k ∷ ms) (if b then 0 else suc p) m
    → slice_set (k ∷ ms) (if b then 0 else suc p) (used_by m call) ≡ (if b then used_by k call ∷ ms else k ∷ ns)
used_step true p k m ms ns call later below is = ap (λ (x : Mapped). used_by x call ∷ ms) is
used_step false p k m ms ns call later below is = ap (λ (xs : List Mapped). k ∷ xs) (later (omega (arith, below)) is)

-- the mapping there is used
pub used : (rule : Rule) (ms : List Mapped) (call : Call) (m : Mapped) → place_of rule ms call < length ms
    → m ≡ slice_index_or ms (place_of rule ms call) m → slice_set ms (place_of rule ms call) (used_by m call) ≡ with_use rule ms call
used rule [] call m below is = absurd (nothing_below _ below)
used rule (k ∷ ms) call m below is =
    used_step (is_of rule k call) (place_of rule ms call) k m ms (with_use rule ms call) call (used rule ms call m) below is

made_step : (b : Bool) (p : ℕ) (k : Mapped) (ms ns : List Mapped) (call : Call)
    → ((p < length ms → ⊥) → ms ++ new_for call ∷ [] ≡ ns)
    → ((if b then 0 else suc p) < suc (length ms) → ⊥)
    → k ∷ (ms ++ new_for call ∷ []) ≡ (if b then used_by k call ∷ ms else k ∷ ns)
made_step true p k ms ns call later none = absurd (none (omega arith))
made_step false p k ms ns call later none = ap (λ (xs : List Mapped). k ∷ xs) (later (λ below. none (omega (arith, below))))

-- where none is there, one is made
pub made : (rule : Rule) (ms : List Mapped) (call : Call) → (place_of rule ms call < length ms → ⊥) → ms ++ new_for call ∷ [] ≡ with_use rule ms call
made rule [] call none = refl
made rule (k ∷ ms) call none =
    made_step (is_of rule k call) (place_of rule ms call) k ms (with_use rule ms call) call (made rule ms call) none

-- how many there are then

len_step : (b : Bool) (p : ℕ) (k : Mapped) (ms ns : List Mapped) (call : Call)
    → (p < length ms → length ns ≡ length ms)
    → (if b then 0 else suc p) < suc (length ms)
    → length (if b then used_by k call ∷ ms else k ∷ ns) ≡ suc (length ms)
len_step true p k ms ns call later below = refl
len_step false p k ms ns call later below = ap suc (later (omega (arith, below)))

pub len_used : (rule : Rule) (ms : List Mapped) (call : Call) → place_of rule ms call < length ms → length (with_use rule ms call) ≡ length ms
len_used rule [] call below = absurd (nothing_below _ below)
len_used rule (k ∷ ms) call below =
    len_step (is_of rule k call) (place_of rule ms call) k ms (with_use rule ms call) call (len_used rule ms call) below

more_step : (b : Bool) (k : Mapped) (ms ns : List Mapped) (call : Call)
    → length ns ≤ suc (length ms) → length (if b then used_by k call ∷ ms else k ∷ ns) ≤ suc (suc (length ms))
more_step true k ms ns call later = omega arith
more_step false k ms ns call later = omega (arith, later)

pub len_most : (rule : Rule) (ms : List Mapped) (call : Call) → length (with_use rule ms call) ≤ suc (length ms)
len_most rule [] call = omega arith
len_most rule (k ∷ ms) call = more_step (is_of rule k call) k ms (with_use rule ms call) call (len_most rule ms call)

least_step : (b : Bool) (k : Mapped) (ms ns : List Mapped) (call : Call)
    → length ms ≤ length ns → suc (length ms) ≤ length (if b then used_by k call ∷ ms else k ∷ ns)
least_step true k ms ns call later = omega arith
least_step false k ms ns call later = omega (arith, later)

pub len_least : (rule : Rule) (ms : List Mapped) (call : Call) → length ms ≤ length (with_use rule ms call)
len_least rule [] call = omega arith
len_least rule (k ∷ ms) call = least_step (is_of rule k call) k ms (with_use rule ms call) call (len_least rule ms call)

own_step : (b : Bool) (p : ℕ) (k : Mapped) (ms ns : List Mapped) (call : Call)
    → p < length ns → (if b then 0 else suc p) < length (if b then used_by k call ∷ ms else k ∷ ns)
own_step true p k ms ns call later = omega arith
own_step false p k ms ns call later = omega (arith, later)

-- the mapping of a call is there then
pub own_below : (rule : Rule) (ms : List Mapped) (call : Call) → place_of rule ms call < length (with_use rule ms call)
own_below rule [] call = omega arith
own_below rule (k ∷ ms) call = own_step (is_of rule k call) (place_of rule ms call) k ms (with_use rule ms call) call (own_below rule ms call)
