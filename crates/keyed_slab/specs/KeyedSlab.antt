-- What contracts see of things in slots.
use Rattle.std.specs.Prelude.{ℕ, ◌≡◌, ◌≢◌, ◌==◌, if◌then◌else◌, List, slice_index_or, slice_set, Option, Some, None, refl}
use Rattle.std.specs.Coded.{Coded, code_by, coded×, coded_ℕ, coded_list, coded_option}
use Rattle.keyed_slab.specs.declared.keys.Key.{Key}

-- For each slot the thing there, where there is one, and its generation; below which number all
-- slots stand; and for how many more things there is room.
pub record Seats (T : Type 0) : Type 0 where
  pub things : List (Option T)
  pub generations : List ℕ
  pub room : ℕ
  pub free : ℕ

abbrev pub seats_code : {T : Type 0} → Coded T → Coded (Seats T)
seats_code {T} code =
    code_by
    (List (Option T) × (List ℕ × (ℕ × ℕ)))
    (coded× (coded_list (coded_option code)) (coded× (coded_list coded_ℕ) (coded× coded_ℕ coded_ℕ)))
    (λ s. (s.things, (s.generations, (s.room, s.free))))
    (λ p. record { things = p.0; generations = p.1.0; room = p.1.1.0; free = p.1.1.1 })
    (λ _. refl)

abbrev pub generation_in : List ℕ → ℕ → ℕ
generation_in generations slot = slice_index_or generations slot 0

module _ {T : Type 0} where
  abbrev pub thing_in : List (Option T) → ℕ → Option T
  thing_in things slot = slice_index_or things slot None

  abbrev pub thing_at : Seats T → ℕ → Option T
  thing_at s slot = thing_in s.things slot

  abbrev pub generation_at : Seats T → ℕ → ℕ
  generation_at s slot = generation_in s.generations slot

  -- A key names what stands in its slot under exactly its generation.
  abbrev pub named : Seats T → Key → Option T
  named s key = if generation_at s key.slot == key.generation then thing_at s key.slot else None

  -- the same with another thing in a slot
  abbrev pub with_thing : Seats T → ℕ → T → Seats T
  with_thing s slot thing = record s { things = slice_set s.things slot (Some thing) }

  -- This stands in the slot now, and in each other slot what stood there.
  pub record IsChangedAt (old new : List (Option T)) (slot : ℕ) (thing : Option T) : Type 0 where
    pub changed : thing_in new slot ≡ thing
    pub others : (other : ℕ) → other ≢ slot → thing_in new other ≡ thing_in old other
