-- What stands in the slots once one of them has something else.
use Rattle.std.proofs.Common.{ℕ, ◌≡◌, ◌≢◌, ◌<◌, ◌≤◌, ◌+◌, ◌-◌, List, map, length, get_or, set, cond, count_by, is_some, nat_le, if◌then◌else◌, Option, Some, None, IsSome, refl, sym, subst, ap, ◌∙◌, arith, ⊎_elim}
use Rattle.std.proofs.lemmas.Bool.{cases_eq, cases_lt}
use Rattle.std.proofs.lemmas.List.{get_or_past, get_or-set_same, get_or-set_other, map-set}
use Rattle.std.proofs.lemmas.List.Sums.{sum_by-set}
use Rattle.std.proofs.lemmas.Option.{none-some}
use Rattle.std.proofs.Math.ListN.{get_or-map}
use Rattle.slab.specs.Slab.{Slab, with_value}
use Rattle.keyed_slab.specs.declared.keyed_slab.Place.{Place}
use Rattle.keyed_slab.specs.declared.keyed_slab.Place.TheVariants.{Taken}
use Rattle.keyed_slab.specs.declared.keys.Key.{Key}
use Rattle.keyed_slab.specs.KeyedSlab.{Seats, IsChangedAt, thing_in, thing_at, generation_in, generation_at, with_thing}
use Rattle.keyed_slab.specs.Calls.{HasPut, HasRemoved, HasReserved}
use Rattle.keyed_slab.specs.Inside.{IsSound, place_in, taken_by, thing_of, generation_of, generations_of, seats_of}
use Rattle.keyed_slab.proofs.Generations.{kept_in, seen_at, seen_same, stands_unspent, unspent}

-- where something stands there is a slot
pub within : {A : Type 0} (xs : List (Option A)) (k : ℕ) (x : A) → get_or xs k None ≡ Some x → k < length xs
within xs k x is = ⊎_elim (λ l. l) (λ past. absurd (none-some x (sym (get_or_past xs k None past) ∙ is))) (cases_lt k (length xs))

empty_or_not : {A : Type 0} (o : Option A) → o ≡ None → IsSome o → ⊥
empty_or_not None e some = absurd cc
empty_or_not (Some x) e some = absurd cc

module _ {T : Type 0} where
  pub thing_is : (slots : List (Option (Place T))) (slot : ℕ) → thing_in (map thing_of slots) slot ≡ thing_of (place_in slots slot)
  thing_is slots slot = get_or-map thing_of slots slot None

  pub changed_of : (old new : List (Option (Place T))) (slot : ℕ) (place : Option (Place T)) → place_in new slot ≡ place → ((other : ℕ) → other ≢ slot → place_in new other ≡ place_in old other) →
      IsChangedAt (map thing_of old) (map thing_of new) slot (thing_of place)
  changed_of old new slot place is others = record {
    changed = thing_is new slot ∙ ap thing_of is;
    others = λ other n. thing_is new other ∙ ap thing_of (others other n) ∙ sym (thing_is old other);
  }

  -- another thing stands in a slot that had one
  pub sound_with : (slots : List (Option (Place T))) (generations : List ℕ) (slot : ℕ) (place : Place T) (thing : T) → IsSound slots generations → place_in slots slot ≡ Some place →
      IsSound (set slots slot (Some (Taken thing))) generations
  sound_with slots generations slot place thing sound is = record {
    covers = λ k p at. ⊎_elim
        (λ same. sound.covers k place (ap (place_in slots) same ∙ is))
        (λ n. sound.covers k p (sym (beside k n) ∙ at)) (cases_eq k slot);
  }
    where
      beside : (k : ℕ) → k ≢ slot → place_in (set slots slot (Some (Taken thing))) k ≡ place_in slots k
      beside k n = get_or-set_other slots slot k (Some (Taken thing)) None n

  abbrev weight : Option (Place T) → ℕ
  weight o = cond (is_some o) 1 0

  pub as_many : (slots : List (Option (Place T))) (slot : ℕ) (old new : Place T) → place_in slots slot ≡ Some old → count_by is_some (set slots slot (Some new)) ≡ count_by is_some slots
  as_many slots slot old new is =
      let counts = sum_by-set weight slots slot (Some new) None (within slots slot old is) in
      let one = ap (λ (o : Option (Place T)). weight o) is in
      omega (arith, counts, one)

  -- the same of all that contracts see
  pub seats_with : (places : Slab (Place T)) (generations : List ℕ) (slot : ℕ) (old : Place T) (thing : T) → place_in places.slots slot ≡ Some old → IsSome (taken_by old) →
      seats_of (with_value places slot (Taken thing)) generations ≡ with_thing (seats_of places generations) slot thing
  seats_with places generations slot old thing is some = λ i. record {
    things = map-set thing_of places.slots slot (Some (Taken thing)) i;
    generations = same i;
    room = places.capacity;
    free = if nat_le places.capacity (length generations) then places.capacity - as_many places.slots slot old (Taken thing) is i else 0;
  }
    where
      same : generations_of (set places.slots slot (Some (Taken thing))) generations ≡ generations_of places.slots generations
      same = unspent places.slots (set places.slots slot (Some (Taken thing))) generations slot thing (λ g. ap (λ (o : Option (Place T)). generation_of o g) is ∙ stands_unspent (Some old) g some)
          (get_or-set_same places.slots slot (Some (Taken thing)) None (within places.slots slot old is)) (λ k n. get_or-set_other places.slots slot k (Some (Taken thing)) None n)

  -- a slot in which something stands has a generation, and is seen with it
  module _ (places : Slab (Place T)) (generations : List ℕ) (old : Seats T) (slot : ℕ) (sound : IsSound places.slots generations) (view : seats_of places generations ≡ old) (stood : IsSome (thing_at old slot)) where
    there : IsSome (thing_of (place_in places.slots slot))
    there = subst (λ (o : Option T). IsSome o) (thing_is places.slots slot) (subst (λ (s : Seats T). IsSome (thing_at s slot)) (sym view) stood)

    pub covered : slot < length generations
    covered = go (place_in places.slots slot) refl
      where
        go : (o : Option (Place T)) → place_in places.slots slot ≡ o → slot < length generations
        go None e = absurd (empty_or_not (thing_of (place_in places.slots slot)) (ap thing_of e) there)
        go (Some place) e = sound.covers slot place e

    pub standing : generation_in generations slot ≡ generation_at old slot
    standing = sym (kept_in places.slots generations slot sound (λ g. stands_unspent (place_in places.slots slot) g there)) ∙ ap (λ (s : Seats T). generation_at s slot) view

  -- ---- what calls do to all that contracts see

  module _ (places now : Slab (Place T)) (generations : List ℕ) (old : Seats T) (sound : IsSound places.slots generations) (view : seats_of places generations ≡ old) where
    pub is_put : (thing : T) (key : Key) → place_in places.slots key.slot ≡ None → place_in now.slots key.slot ≡ Some (Taken thing) → ((k : ℕ) → k ≢ key.slot → place_in now.slots k ≡ place_in places.slots k) →
        key.generation ≡ generation_in generations key.slot → HasPut old (seats_of now generations) thing key
    is_put thing key vacant here others generation = subst (λ (s : Seats T). HasPut s (seats_of now generations) thing key) view (record {
      vacant = thing_is places.slots key.slot ∙ ap thing_of vacant;
      things = changed_of places.slots now.slots key.slot (Some (Taken thing)) here others;
      generation = generation ∙ sym (kept_in places.slots generations key.slot sound (λ g. ap (λ (o : Option (Place T)). generation_of o g) vacant));
      generations = λ k. ap (λ (l : List ℕ). generation_in l k) (unspent places.slots now.slots generations key.slot thing (λ g. ap (λ (o : Option (Place T)). generation_of o g) vacant) here others);
    })

    pub is_reserved : (later : List ℕ) → now.slots ≡ places.slots → length generations ≤ length later → ((k : ℕ) → generation_in later k ≡ generation_in generations k) → HasReserved old (seats_of now later)
    is_reserved later same longer kept = subst (λ (s : Seats T). HasReserved s (seats_of now later)) view (record {
      things = ap (map thing_of) same;
      generations = λ k. seen_same places.slots now.slots generations later k sound longer (ap (λ (slots : List (Option (Place T))). place_in slots k) same) (kept k);
    })

    pub is_removed : (later : List ℕ) (slot : ℕ) (place : Option (Place T)) → IsSome (thing_at old slot) → place_in now.slots slot ≡ place → thing_of place ≡ None → ((k : ℕ) → k ≢ slot → place_in now.slots k ≡ place_in places.slots k) →
        generation_of place (generation_in later slot) ≡ generation_in generations slot + 1 → length later ≡ length generations → ((k : ℕ) → k ≢ slot → generation_in later k ≡ generation_in generations k) →
        HasRemoved old (seats_of now later) slot
    is_removed later slot place stood here gone others risen long kept = record {
      stood = stood;
      things = subst (λ (s : Seats T). IsChangedAt s.things (map thing_of now.slots) slot None) view
          (subst (λ (o : Option T). IsChangedAt (map thing_of places.slots) (map thing_of now.slots) slot o) gone (changed_of places.slots now.slots slot place here others));
      risen = seen_at now.slots later slot (subst (λ n. slot < n) (sym long) (covered places generations old slot sound view stood))
          ∙ ap (λ (o : Option (Place T)). generation_of o (generation_in later slot)) here ∙ risen ∙ ap (λ g. g + 1) (standing places generations old slot sound view stood);
      generations = λ k n. seen_same places.slots now.slots generations later k sound (omega (arith, long)) (others k n) (kept k n) ∙ ap (λ (s : Seats T). generation_at s k) view;
    }
