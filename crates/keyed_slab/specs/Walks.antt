-- What is found, and what is done, where the slots of a set are gone through.
use Rattle.std.specs.Prelude.{ℕ, ◌≡◌, ◌<◌, ◌≤◌, ◌⊎◌, Bool, true, false, nat_le, if◌then◌else◌, List, Option, Some, None}
use Rattle.std.specs.Option.{option_map}
use Rattle.deadlines.specs.Deadlines.{Deadline, Slots, entry_of}
use Rattle.keyed_slab.specs.KeyedSlab.{thing_in}
use Rattle.keyed_slab.specs.SlotSet.{slot_at}

-- the slot is among the first ones, so many
abbrev pub IsWithin : List ℕ → ℕ → ℕ → Type 0
IsWithin slots count slot = (place : ℕ) × (place < count) × (slot_at slots place ≡ slot)

-- its deadline has come
abbrev pub IsDueAt : Slots → ℕ → ℕ → Type 0
IsDueAt deadlines moment slot =
    (d : Deadline) × (entry_of deadlines slot ≡ Some d) × (d.at ≤ moment)

abbrev pub IsLookedAt : Slots → ℕ → List ℕ → ℕ → ℕ → Type 0
IsLookedAt deadlines moment slots count slot =
    IsDueAt deadlines moment slot ⊎ IsWithin slots count slot

module _ {T : Type 0} (near_of : T → ℕ) (test : T → Bool) (things : List (Option T)) where
  abbrev pub near_or : Option T → ℕ
  near_or None = 0
  near_or (Some thing) = near_of thing

  -- ---- the first that passes a test, by near ids

  abbrev pub NonePasses : Type 0
  NonePasses = (slot : ℕ) (thing : T) → thing_in things slot ≡ Some thing → test thing ≡ false

  pub record IsFirst (slot : ℕ) : Type 0 where
    pub thing : T
    pub stands : thing_in things slot ≡ Some thing
    pub passes : test thing ≡ true
    pub lowest : (other : ℕ) (w : T) → thing_in things other ≡ Some w → test w ≡ true →
        near_of thing ≤ near_of w

  -- ---- the same of those that were looked at

  abbrev pub NoneOf : (ℕ → Type 0) → Type 0
  NoneOf Seen = (slot : ℕ) (thing : T) → thing_in things slot ≡ Some thing → Seen slot →
      test thing ≡ false

  pub record IsFirstOf (Seen : ℕ → Type 0) (slot : ℕ) : Type 0 where
    pub thing : T
    pub stands : thing_in things slot ≡ Some thing
    pub passes : test thing ≡ true
    pub lowest : (other : ℕ) (w : T) → thing_in things other ≡ Some w → Seen other →
        test w ≡ true → near_of thing ≤ near_of w

  abbrev pub IsBestOf : (ℕ → Type 0) → Option ℕ → Type 0
  IsBestOf Seen None = NoneOf Seen
  IsBestOf Seen (Some slot) = IsFirstOf Seen slot

  -- the best once another slot was looked at
  abbrev pub lower_of : Option ℕ → ℕ → ℕ → Option ℕ
  lower_of None slot near = Some slot
  lower_of (Some best) slot near =
      if nat_le (near_or (thing_in things best)) near then Some best else Some slot

  abbrev pub better_with : Option ℕ → ℕ → Option T → Option ℕ
  better_with best slot None = best
  better_with best slot (Some thing) =
      if test thing then lower_of best slot (near_of thing) else best

  abbrev pub better_of : Option ℕ → ℕ → Option ℕ
  better_of best slot = better_with best slot (thing_in things slot)

-- ---- what stands in the slots is changed

-- In the first ones, so many, it is changed so, and in no other one.
pub record AreChanged {T : Type 0} (change : T → T) (old new : List (Option T)) (slots : List ℕ)
    (count : ℕ) : Type 0 where
  pub done : (place : ℕ) → place < count →
      thing_in new (slot_at slots place) ≡ option_map change (thing_in old (slot_at slots place))
  pub rest : (slot : ℕ) → (IsWithin slots count slot → ⊥) → thing_in new slot ≡ thing_in old slot
