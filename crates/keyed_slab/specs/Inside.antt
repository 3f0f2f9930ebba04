-- How things stand in slots. Callers see nothing of it.
use Rattle.std.specs.Prelude.{ℕ, ◌≡◌, ◌<◌, ◌-◌, ◌^◌, nat_le, if◌then◌else◌, List, [], ◌∷◌, map, length, slice_index_or, Option, Some, None}
use Rattle.slab.specs.Slab.{Slab, slab_len}
use Rattle.keyed_slab.specs.KeyedSlab.{Seats}
use Rattle.keyed_slab.specs.declared.keyed_slab.Place.{Place}
use Rattle.keyed_slab.specs.declared.keyed_slab.Place.TheVariants.{Spent, Taken}

module _ {T : Type 0} where
  abbrev pub taken_by : Place T → Option T
  taken_by Spent = None
  taken_by (Taken thing) = Some thing

  -- a slot whose generations are spent has nothing
  abbrev pub thing_of : Option (Place T) → Option T
  thing_of None = None
  thing_of (Some place) = taken_by place

  abbrev pub place_in : List (Option (Place T)) → ℕ → Option (Place T)
  place_in slots slot = slice_index_or slots slot None

  -- The generation of a slot whose generations are spent is past the last one, so that no key has
  -- it. Any other slot's is the one that is kept.
  abbrev pub generation_of : Option (Place T) → ℕ → ℕ
  generation_of None generation = generation
  generation_of (Some Spent) generation = 2 ^ 64
  generation_of (Some (Taken thing)) generation = generation

  abbrev pub generations_of : List (Option (Place T)) → List ℕ → List ℕ
  generations_of slots [] = []
  generations_of [] (generation ∷ later) = generation ∷ later
  generations_of (place ∷ slots) (generation ∷ later) =
      generation_of place generation ∷ generations_of slots later

  -- Each slot that is taken has a generation.
  pub record IsSound (slots : List (Option (Place T))) (generations : List ℕ) : Type 0 where
    pub covers : (slot : ℕ) (place : Place T) → place_in slots slot ≡ Some place →
        slot < length generations

  -- a thing needs a place in the slab, and its slot a generation
  abbrev pub free_in : Slab (Place T) → List ℕ → ℕ
  free_in places generations =
      if nat_le places.capacity (length generations) then places.capacity - slab_len places else 0

  abbrev pub seats_of : Slab (Place T) → List ℕ → Seats T
  seats_of places generations = record {
    things = map thing_of places.slots;
    generations = generations_of places.slots generations;
    room = places.capacity;
    free = free_in places generations;
  }
