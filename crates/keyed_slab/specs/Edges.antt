-- What the rows at the last generations speak of.
use Rattle.std.specs.Prelude.{ℕ, [], ◌∷◌, Option}
use Rattle.keyed_slab.specs.declared.keys.Key.{Key}
use Rattle.keyed_slab.specs.KeyedSlab.{Seats}

-- one slot with what stands there, at this generation
abbrev pub seat : Option ℕ → ℕ → Seats ℕ
seat thing generation = record {
  things = thing ∷ [];
  generations = generation ∷ [];
  room = 1;
  free = 0;
}

-- a key of that slot
abbrev pub key_of : ℕ → Key
key_of generation = record { slot = 0; generation = generation }
