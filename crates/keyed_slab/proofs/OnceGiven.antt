-- Why each key is given once, and names nothing once its thing is gone.
use Rattle.std.proofs.Common.{ℕ, ◌≡◌, ◌≢◌, ◌<◌, ◌≤◌, ◌+◌, ◌==◌, List, [], ◌∷◌, Bool, true, false, cond, Option, Some, None, IsSome, refl, sym, ap, subst, ◌∙◌, arith, ⊎_elim}
use Rattle.std.proofs.lemmas.Bool.{cases_eq}
use Rattle.std.proofs.lemmas.Bool.Decides.{nat_tests}
use Rattle.std.proofs.lemmas.Option.{none-some}
use Rattle.keyed_slab.specs.declared.keys.Key.{Key}
use Rattle.keyed_slab.specs.KeyedSlab.{Seats, thing_in, thing_at, generation_at, named, IsChangedAt}
use Rattle.keyed_slab.specs.Calls.{HasPut, Call, Puts, Removes, Reserves, Writes, IsCall, AreCalls, keys_given, IsNoneOf, EachKeyIsGivenOnce, RemovedIsNamedNoMore}
use Rattle.keyed_slab.proofs.Seated.{set_at}

stood_there : {A : Type 0} (o : Option A) → IsSome o → (x : A) × (o ≡ Some x)
stood_there None some = absurd cc
stood_there (Some x) some = (x, refl)

beyond : (n m : ℕ) → m < n → (n == m) ≡ false
beyond n m l = grind (arith, nat_tests)

at_most : (n m : ℕ) → (n == m) ≡ true → m ≤ n
at_most n m e = grind (arith, nat_tests)

module _ {T : Type 0} where
  -- ---- a slot's generation never falls

  pub never_falls : (call : Call T) (old new : Seats T) (slot : ℕ) → IsCall call old new → generation_at old slot ≤ generation_at new slot
  never_falls (Puts thing key) old new slot is = let same = is.generations slot in omega (arith, same)
  never_falls (Removes gone) old new slot is = ⊎_elim
      (λ e. let risen = ap (generation_at new) e ∙ is.risen ∙ sym (ap (λ k. generation_at old k + 1) e) in omega (arith, risen))
      (λ n. let same = is.generations slot n in omega (arith, same))
      (cases_eq slot gone)
  never_falls Reserves old new slot is = let same = is.generations slot in omega (arith, same)
  never_falls (Writes at thing) old new slot is = let same : generation_at new slot ≡ generation_at old slot = ap (λ (s : Seats T). generation_at s slot) is.written in omega (arith, same)

  -- ---- a key that was given

  -- Its slot has a thing under this generation, or has a later generation.
  record IsGiven (key : Key) (s : Seats T) : Type 0 where
    reached : key.generation ≤ generation_at s key.slot
    passed : thing_at s key.slot ≡ None → key.generation < generation_at s key.slot

  given_by_put : (old new : Seats T) (thing : T) (key : Key) → HasPut old new thing key → IsGiven key new
  given_by_put old new thing key put =
      let same = put.generations key.slot in
      let own = put.generation in
      record {
        reached = omega (arith, same, own);
        passed = λ none. absurd (none-some thing (sym none ∙ put.things.changed));
      }

  -- where the slot has no other generation, and has nothing only where it had nothing before
  stays_so : (key : Key) (old new : Seats T) → IsGiven key old → generation_at new key.slot ≡ generation_at old key.slot → (thing_at new key.slot ≡ None → thing_at old key.slot ≡ None) → IsGiven key new
  stays_so key old new given same none =
      let reached = given.reached in
      record {
        reached = omega (arith, reached, same);
        passed = λ now. let passed = given.passed (none now) in omega (arith, passed, same);
      }

  -- something stands in a slot where something comes or is written
  not_emptied : (old new : Seats T) (slot : ℕ) (thing : T) → IsChangedAt old.things new.things slot (Some thing) → (k : ℕ) → thing_at new k ≡ None → thing_at old k ≡ None
  not_emptied old new slot thing change k none = ⊎_elim
      (λ e. absurd (none-some thing (sym none ∙ ap (thing_at new) e ∙ change.changed)))
      (λ n. sym (change.others k n) ∙ none)
      (cases_eq k slot)

  stays_given : (call : Call T) (old new : Seats T) (key : Key) → IsCall call old new → IsGiven key old → IsGiven key new
  stays_given (Puts thing other) old new key is given = stays_so key old new given (is.generations key.slot) (not_emptied old new other.slot thing is.things key.slot)
  stays_given (Removes gone) old new key is given = ⊎_elim
      (λ e.
      let reached = given.reached in
      let risen = ap (generation_at new) e ∙ is.risen ∙ sym (ap (λ k. generation_at old k + 1) e) in
      record { reached = omega (arith, reached, risen); passed = λ none. omega (arith, reached, risen) })
      (λ n. stays_so key old new given (is.generations key.slot n) (λ none. sym (is.things.others key.slot n) ∙ none))
      (cases_eq key.slot gone)
  stays_given Reserves old new key is given = stays_so key old new given (is.generations key.slot) (λ none. sym (ap (λ (things : List (Option T)). thing_in things key.slot) is.things) ∙ none)
  stays_given (Writes at thing) old new key is given =
      let stood = stood_there (thing_at old at) is.stood in
      let change = subst (λ (s : Seats T). IsChangedAt old.things s.things at (Some thing)) (sym is.written) (set_at old.things at stood.0 thing stood.1) in
      stays_so key old new given (ap (λ (s : Seats T). generation_at s key.slot) is.written) (not_emptied old new at thing change key.slot)

  -- it isn't given again
  not_again : (old new : Seats T) (thing : T) (key other : Key) → HasPut old new thing other → IsGiven key old → other ≢ key
  not_again old new thing key other put given e =
      let same = ap (λ (k : Key). k.slot) e in
      let passed = given.passed (ap (thing_at old) (sym same) ∙ put.vacant) in
      let own = sym (ap (λ (k : Key). k.generation) e) ∙ put.generation ∙ ap (generation_at old) same in
      omega (arith, passed, own)

  none_again : (calls : List (Call T)) (old new : Seats T) (key : Key) → AreCalls calls old new → IsGiven key old → IsNoneOf key (keys_given calls)
  none_again [] old new key are given = tt
  none_again (Puts thing other ∷ later) old new key are given =
      (not_again old are.0 thing key other are.1 given, none_again later are.0 new key are.2 (stays_given (Puts thing other) old are.0 key are.1 given))
  none_again (Removes slot ∷ later) old new key are given = none_again later are.0 new key are.2 (stays_given (Removes slot) old are.0 key are.1 given)
  none_again (Reserves ∷ later) old new key are given = none_again later are.0 new key are.2 (stays_given Reserves old are.0 key are.1 given)
  none_again (Writes slot thing ∷ later) old new key are given = none_again later are.0 new key are.2 (stays_given (Writes slot thing) old are.0 key are.1 given)

  pub each_is_given_once : EachKeyIsGivenOnce T
  each_is_given_once [] old new are = tt
  each_is_given_once (Puts thing key ∷ later) old new are =
      (none_again later are.0 new key are.2 (given_by_put old are.0 thing key are.1), each_is_given_once later are.0 new are.2)
  each_is_given_once (Removes slot ∷ later) old new are = each_is_given_once later are.0 new are.2
  each_is_given_once (Reserves ∷ later) old new are = each_is_given_once later are.0 new are.2
  each_is_given_once (Writes slot thing ∷ later) old new are = each_is_given_once later are.0 new are.2

  -- ---- a key whose thing is gone

  never_fall : (calls : List (Call T)) (old new : Seats T) (slot : ℕ) → AreCalls calls old new → generation_at old slot ≤ generation_at new slot
  never_fall [] old new slot are = let same : generation_at new slot ≡ generation_at old slot = ap (λ (s : Seats T). generation_at s slot) are in omega (arith, same)
  never_fall (call ∷ later) old new slot are =
      let first = never_falls call old are.0 slot are.1 in
      let rest = never_fall later are.0 new slot are.2 in
      omega (arith, first, rest)

  named_under : (s : Seats T) (key : Key) → IsSome (named s key) → key.generation ≤ generation_at s key.slot
  named_under s key = go (generation_at s key.slot == key.generation) refl
    where
      go : (b : Bool) → (generation_at s key.slot == key.generation) ≡ b → IsSome (cond b (thing_at s key.slot) None) → key.generation ≤ generation_at s key.slot
      go true e some = at_most (generation_at s key.slot) key.generation e
      go false e some = absurd cc

  pub named_no_more : RemovedIsNamedNoMore T
  named_no_more key old between new later some removed are =
      let under = named_under old key some in
      let risen = removed.risen in
      let rest = never_fall later between new key.slot are in
      ap (λ b. cond b (thing_at new key.slot) None) (beyond (generation_at new key.slot) key.generation (omega (arith, under, risen, rest)))
