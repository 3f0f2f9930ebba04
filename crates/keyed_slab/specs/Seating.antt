-- Things in slots by their near ids, each with its deadline, and a set of the slots of those that
-- are busy.
use Rattle.std.specs.Prelude.{ℕ, ◌≡◌, ◌≢◌, ◌<◌, Bool, false, List, filter_map, map, length, Option, Some, None}
use Rattle.std.specs.Option.{option_map}
use Rattle.std.specs.Ordering.{nat_cmp}
use Rattle.std.specs.FinMap.{FinMap, from_entries, get}
use Rattle.deadlines.specs.Deadlines.{Deadline, Slots, entry_of}
use Rattle.keyed_slab.specs.declared.keys.Key.{Key}
use Rattle.keyed_slab.specs.Keys.{KeyTable}
use Rattle.keyed_slab.specs.KeyedSlab.{generation_in, thing_in}
use Rattle.keyed_slab.specs.SlotSet.{Flags, flag_of}

-- what stands in the slots, without the empty ones
abbrev pub present : {T : Type 0} → List (Option T) → List T
present things = filter_map (λ thing. thing) things

-- what stands in the slot of a key
abbrev pub keyed_by : {T : Type 0} → List (Option T) → Option Key → Option T
keyed_by things None = None
keyed_by things (Some key) = thing_in things key.slot

abbrev pub key_to : List ℕ → ℕ → Key
key_to generations slot = record { slot = slot; generation = generation_in generations slot }

module _ {T : Type 0} (near_of : T → ℕ) where
  -- the things by their near ids
  abbrev pub table_in : List (Option T) → FinMap nat_cmp T
  table_in things = from_entries (map (λ thing. (near_of thing, thing)) (present things))

  -- The key of a near id names the thing with that near id.
  pub record IsSeat (things : List (Option T)) (generations : List ℕ) (near : ℕ) (key : Key) :
      Type 0 where
    pub thing : T
    pub stands : thing_in things key.slot ≡ Some thing
    pub near_is : near_of thing ≡ near
    pub generation : generation_in generations key.slot ≡ key.generation

  -- Each near id names a thing, and each thing is named by its near id.
  pub record IsNamed (things : List (Option T)) (generations : List ℕ) (keys : KeyTable) :
      Type 0 where
    pub seated : (near : ℕ) (key : Key) → get keys near ≡ Some key →
        IsSeat things generations near key
    pub keyed : (slot : ℕ) (thing : T) → thing_in things slot ≡ Some thing →
        get keys (near_of thing) ≡ Some (key_to generations slot)

  module _ (at_of : T → ℕ) where
    abbrev pub deadline_in : T → Deadline
    deadline_in thing = record { at = at_of thing; near = near_of thing }

    -- Each slot has the deadline of what stands there.
    abbrev pub IsTimedAt : List (Option T) → Slots → ℕ → Type 0
    IsTimedAt things deadlines slot =
        entry_of deadlines slot ≡ option_map deadline_in (thing_in things slot)

    module _ (is_busy : T → Bool) where
      abbrev pub busy_in : Option T → Bool
      busy_in None = false
      busy_in (Some thing) = is_busy thing

      -- A slot is in the set where what stands there is busy.
      abbrev pub IsMarkedAt : List (Option T) → Flags → ℕ → Type 0
      IsMarkedAt things flags slot = flag_of flags slot ≡ busy_in (thing_in things slot)

      -- Keys, deadlines and set name the same things, and each thing's slot has room.
      pub record IsKept (things : List (Option T)) (generations : List ℕ) (keys : KeyTable)
          (deadlines : Slots) (flags : Flags) : Type 0 where
        pub names : IsNamed things generations keys
        pub timed : (slot : ℕ) → IsTimedAt things deadlines slot
        pub marked : (slot : ℕ) → IsMarkedAt things flags slot
        pub room : (slot : ℕ) (thing : T) → thing_in things slot ≡ Some thing →
            slot < length flags

      -- the same, but for what stands in one slot
      pub record IsLoose (things : List (Option T)) (generations : List ℕ) (keys : KeyTable)
          (deadlines : Slots) (flags : Flags) (but : ℕ) : Type 0 where
        pub names : IsNamed things generations keys
        pub timed : (slot : ℕ) → slot ≢ but → IsTimedAt things deadlines slot
        pub marked : (slot : ℕ) → slot ≢ but → IsMarkedAt things flags slot
        pub room : (slot : ℕ) (thing : T) → thing_in things slot ≡ Some thing →
            slot < length flags
        pub stands : (thing : T) × (thing_in things but ≡ Some thing)
        pub timer : but < length deadlines
