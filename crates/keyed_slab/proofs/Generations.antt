-- The generations of slots, once some of them have something else.
use Rattle.std.proofs.Common.{ℕ, zero, suc, ◌≡◌, ◌≢◌, ◌<◌, ◌≤◌, List, [], ◌∷◌, length, Option, Some, None, IsSome, refl, sym, ap, ◌∙◌, arith, ⊎_elim}
use Rattle.std.proofs.lemmas.Bool.{cases_eq, cases_lt}
use Rattle.std.proofs.lemmas.List.{ext_get_or, get_or_past}
use Rattle.keyed_slab.specs.declared.keyed_slab.Place.{Place}
use Rattle.keyed_slab.specs.declared.keyed_slab.Place.TheVariants.{Spent, Taken}
use Rattle.keyed_slab.specs.KeyedSlab.{generation_in}
use Rattle.keyed_slab.specs.Inside.{IsSound, place_in, thing_of, generation_of, generations_of}

module _ {T : Type 0} where
  pub as_long : (slots : List (Option (Place T))) (generations : List ℕ) → length (generations_of slots generations) ≡ length generations
  as_long slots [] = refl
  as_long [] (g ∷ later) = refl
  as_long (place ∷ slots) (g ∷ later) = ap suc (as_long slots later)

  pub seen_at : (slots : List (Option (Place T))) (generations : List ℕ) (k : ℕ) → k < length generations →
      generation_in (generations_of slots generations) k ≡ generation_of (place_in slots k) (generation_in generations k)
  seen_at slots [] k l = absurd (omega (arith, l))
  seen_at [] (g ∷ later) k l = refl
  seen_at (place ∷ slots) (g ∷ later) zero l = refl
  seen_at (place ∷ slots) (g ∷ later) (suc k) l = seen_at slots later k (omega (arith, l))

  -- a slot that has no generation has the first one
  pub seen_past : (slots : List (Option (Place T))) (generations : List ℕ) (k : ℕ) → length generations ≤ k → generation_in (generations_of slots generations) k ≡ 0
  seen_past slots generations k past = get_or_past (generations_of slots generations) k 0 (omega (arith, past, as_long slots generations))

  -- what stands in a slot is seen with its generation
  pub seen_in : (slots : List (Option (Place T))) (generations : List ℕ) → IsSound slots generations → (k : ℕ) →
      generation_in (generations_of slots generations) k ≡ generation_of (place_in slots k) (generation_in generations k)
  seen_in slots generations sound k = ⊎_elim (seen_at slots generations k) (λ past. beyond past (place_in slots k) refl) (cases_lt k (length generations))
    where
      beyond : length generations ≤ k → (o : Option (Place T)) → place_in slots k ≡ o → generation_in (generations_of slots generations) k ≡ generation_of (place_in slots k) (generation_in generations k)
      beyond past None e =
          seen_past slots generations k past ∙ sym (get_or_past generations k 0 past) ∙ sym (ap (λ (o : Option (Place T)). generation_of o (generation_in generations k)) e)
      beyond past (Some place) e = let inside = sound.covers k place e in absurd (omega (arith, past, inside))

  -- a slot that isn't spent is seen with the generation that is kept
  pub kept_in : (slots : List (Option (Place T))) (generations : List ℕ) (k : ℕ) → IsSound slots generations → ((g : ℕ) → generation_of (place_in slots k) g ≡ g) →
      generation_in (generations_of slots generations) k ≡ generation_in generations k
  kept_in slots generations k sound unspent = seen_in slots generations sound k ∙ unspent (generation_in generations k)

  pub stands_unspent : (o : Option (Place T)) (g : ℕ) → IsSome (thing_of o) → generation_of o g ≡ g
  stands_unspent None g some = absurd cc
  stands_unspent (Some Spent) g some = absurd cc
  stands_unspent (Some (Taken thing)) g some = refl

  -- neither the place nor the generation of a slot changes
  pub seen_same : (slots now : List (Option (Place T))) (generations later : List ℕ) (k : ℕ) → IsSound slots generations → length generations ≤ length later → place_in now k ≡ place_in slots k →
      generation_in later k ≡ generation_in generations k → generation_in (generations_of now later) k ≡ generation_in (generations_of slots generations) k
  seen_same slots now generations later k sound longer place generation = ⊎_elim
      (λ l. seen_at now later k l ∙ (λ i. generation_of (place i) (generation i)) ∙ sym (seen_in slots generations sound k))
      (λ past. seen_past now later k past ∙ sym (seen_past slots generations k (omega (arith, past, longer))))
      (cases_lt k (length later))

  -- a slot comes to have something, or has another thing
  pub unspent : (slots now : List (Option (Place T))) (generations : List ℕ) (slot : ℕ) (thing : T) → ((g : ℕ) → generation_of (place_in slots slot) g ≡ g) →
      place_in now slot ≡ Some (Taken thing) → ((k : ℕ) → k ≢ slot → place_in now k ≡ place_in slots k) → generations_of now generations ≡ generations_of slots generations
  unspent slots now generations slot thing before here others =
      ext_get_or 0 (generations_of now generations) (generations_of slots generations) (as_long now generations ∙ sym (as_long slots generations)) (λ k l.
      let inside : k < length generations = omega (arith, l, as_long now generations) in
      seen_at now generations k inside ∙ same k (generation_in generations k) ∙ sym (seen_at slots generations k inside))
    where
      same : (k g : ℕ) → generation_of (place_in now k) g ≡ generation_of (place_in slots k) g
      same k g = ⊎_elim
          (λ e. ap (λ j. generation_of (place_in now j) g) e ∙ ap (λ (o : Option (Place T)). generation_of o g) here ∙ sym (before g) ∙ sym (ap (λ j. generation_of (place_in slots j) g) e))
          (λ n. ap (λ (o : Option (Place T)). generation_of o g) (others k n))
          (cases_eq k slot)
