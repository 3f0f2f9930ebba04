-- Where an ack is owed and a packet has room for its head, fewer are owed afterwards.
use Prim.Native.Nat.{zero, suc}
use Rattle.std.proofs.Common.{◌≡◌, ℕ, ◌+◌, ◌<◌, ◌≤◌, ◌||◌, Bool, true, false, cond, List, [], ◌∷◌, Some, length, take, get_or, refl, sym, ap, ◌∙◌, subst, arith}
use Rattle.std.specs.Prelude.{slice_get, slice_set}
use Rattle.std.specs.List.{filter, list_any}
use Rattle.std.proofs.lemmas.List.Folds.{list_any_more}
use Rattle.std.proofs.lemmas.List.{get_or_default}
use Rattle.std.proofs.lemmas.Option.{slice_get_read}
use Rattle.session_flows.specs.declared.taking.TakingFlow.{TakingFlow}
use Rattle.session_flows.specs.Owing.{is_owed, owed_in, paid}

-- As far as a list was gone through, fewer are owed than before; or none of these flows is owed,
-- and nothing has changed.
pub data IsFewer (count : ℕ) (now before : List TakingFlow) (new old : List ℕ) : Type 0 where
  Fewer : owed_in now < owed_in before → IsFewer count now before new old
  Same : now ≡ before → new ≡ old → list_any is_owed (take count before) ≡ false → IsFewer count now before new old

-- one that is owed, and isn't any more

owed_by : (t : TakingFlow) (later : List TakingFlow) (b : Bool) → b ≡ true → length (cond b (t ∷ filter is_owed later) (filter is_owed later)) ≡ owed_in later + 1
owed_by t later true e = omega arith
owed_by t later false e = absurd cc

other_by : (t : TakingFlow) (xs ys : List TakingFlow) (b : Bool) → length xs + 1 ≡ length ys → length (cond b (t ∷ xs) xs) + 1 ≡ length (cond b (t ∷ ys) ys)
other_by t xs ys true e = omega (arith, e)
other_by t xs ys false e = e

owed_set : (ts : List TakingFlow) (at : ℕ) (t : TakingFlow) → slice_get ts at ≡ Some t → t.owed ≡ true → owed_in (slice_set ts at (paid t)) + 1 ≡ owed_in ts
owed_set [] at t there owed = absurd cc
owed_set (x ∷ later) zero t there owed =
    let is : x.owed ≡ true = cc in
    let k : owed_in (x ∷ later) ≡ owed_in later + 1 = owed_by x later x.owed is in
    omega (arith, k)
owed_set (x ∷ later) (suc at) t there owed = other_by x (filter is_owed (slice_set later at (paid t))) (filter is_owed later) x.owed (owed_set later at t there owed)

-- ---- a flow more

at_read : (ts : List TakingFlow) (count : ℕ) (d : TakingFlow) → count < length ts → slice_get ts count ≡ Some (get_or ts count d)
at_read ts count d within = slice_get_read ts (length ts) count (get_or ts count d) refl within (get_or_default ts count d (get_or ts count d) within)

-- an ack was put
pub fewer_put : (count : ℕ) (now before : List TakingFlow) (new old later : List ℕ) (d : TakingFlow) → count < length now → (get_or now count d).owed ≡ true → IsFewer count now before new old →
    IsFewer (count + 1) (slice_set now count (paid (get_or now count d))) before later old
fewer_put count now before new old later d within owed (Fewer less) =
    Fewer (omega (arith, less, owed_set now count (get_or now count d) (at_read now count d within) owed))
fewer_put count now before new old later d within owed (Same same out none) =
    Fewer (omega (arith, owed_set now count (get_or now count d) (at_read now count d within) owed, ap owed_in same))

any_next : (ts : List TakingFlow) (count : ℕ) (d : TakingFlow) → count < length ts → (get_or ts count d).owed ≡ false → list_any is_owed (take count ts) ≡ false → list_any is_owed (take (count + 1) ts) ≡ false
any_next ts count d within owed none =
    list_any_more is_owed ts count d within ∙ ap (λ (b : Bool). b || (get_or ts count d).owed) none ∙ owed

-- it isn't owed
pub fewer_kept : (count : ℕ) (now before : List TakingFlow) (new old : List ℕ) (d : TakingFlow) → count < length now → (get_or now count d).owed ≡ false → IsFewer count now before new old →
    IsFewer (count + 1) now before new old
fewer_kept count now before new old d within owed (Fewer less) = Fewer less
fewer_kept count now before new old d within owed (Same same out none) =
    Same same out (any_next before count d (subst (λ (ts : List TakingFlow). count < length ts) same within) (ap (λ (ts : List TakingFlow). (get_or ts count d).owed) (sym same) ∙ owed) none)

-- ---- no more are owed than there are flows

none_if : (t : TakingFlow) (later : List TakingFlow) (b : Bool) → (owed_in later ≤ 0 → list_any is_owed later ≡ false) → length (cond b (t ∷ filter is_owed later) (filter is_owed later)) ≤ 0 → (b || list_any is_owed later) ≡ false
none_if t later true ih few = absurd (omega (arith, few))
none_if t later false ih few = ih few

-- where their count is 0, none is owed
pub none_owed : (ts : List TakingFlow) → owed_in ts ≤ 0 → list_any is_owed ts ≡ false
none_owed [] few = refl
none_owed (t ∷ later) few = none_if t later t.owed (none_owed later) few
