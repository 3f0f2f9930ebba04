-- What contracts see of a set of slots: for each slot that has room whether it is in the set.
use Rattle.std.specs.Prelude.{ℕ, ◌≡◌, ◌<◌, Bool, true, false, ltb, List, map, length, slice_index_or}

abbrev pub Flags : Type 0
Flags = List Bool

abbrev pub flag_of : Flags → ℕ → Bool
flag_of flags slot = slice_index_or flags slot false

abbrev pub slot_at : List ℕ → ℕ → ℕ
slot_at slots place = slice_index_or slots place 0

-- Each slot stands there once.
abbrev pub AreApart : List ℕ → Type 0
AreApart slots = (i j : ℕ) → i < length slots → j < length slots →
    slot_at slots i ≡ slot_at slots j → i ≡ j

-- These are the slots in the set, each once.
pub record AreListed (flags : Flags) (slots : List ℕ) : Type 0 where
  pub marked : (place : ℕ) → place < length slots → flag_of flags (slot_at slots place) ≡ true
  pub all : (slot : ℕ) → flag_of flags slot ≡ true →
      (place : ℕ) × (place < length slots) × (slot_at slots place ≡ slot)
  pub apart : AreApart slots

-- ---- how it is kept

-- Each slot stands at the place that it keeps, and each place has a slot that keeps it.
pub record IsTied (slots places : List ℕ) : Type 0 where
  pub long : length slots ≡ length places
  pub inside : (slot : ℕ) → slot < length places → slot_at places slot < length places
  pub stands : (slot : ℕ) → slot < length places → slot_at slots (slot_at places slot) ≡ slot
  pub named : (place : ℕ) → place < length places → slot_at slots place < length places
  pub keeps : (place : ℕ) → place < length places → slot_at places (slot_at slots place) ≡ place

-- the first places, so many, are in the set
abbrev pub flags_of : List ℕ → ℕ → Flags
flags_of places count = map (λ place. ltb place count) places
