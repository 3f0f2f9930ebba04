-- How the deadlines are kept: two heaps, in each of which the first places are the entries, and for
-- each slot its place.
use Rattle.std.specs.Prelude.{ℕ, ◌≡◌, ◌≢◌, ◌≤◌, ◌<◌, ◌-◌, ◌/◌, zero, suc, ltb, List, map, length, slice_index_or, Option, Some, None, if◌then◌else◌}
use Rattle.deadlines.specs.Deadlines.{Deadline, Slots}
use Rattle.deadlines.specs.declared.entry.Entry.{Entry}
use Rattle.deadlines.specs.declared.entry.Order.{Order}
use Rattle.deadlines.specs.declared.entry.Order.TheVariants.{ByDeadline, ByNearId}

abbrev pub blank : Entry
blank = record { slot = 0; at = 0; near = 0 }

abbrev pub entry_at : List Entry → ℕ → Entry
entry_at entries place = slice_index_or entries place blank

abbrev pub at_of : List Entry → ℕ → ℕ
at_of entries place = (entry_at entries place).at

abbrev pub near_of : List Entry → ℕ → ℕ
near_of entries place = (entry_at entries place).near

-- the number by which an entry stands in an order
abbrev pub key_of : Order → Entry → ℕ
key_of ByDeadline e = e.at
key_of ByNearId e = e.near

abbrev pub keys_of : Order → List Entry → ℕ → ℕ
keys_of by entries place = key_of by (entry_at entries place)

abbrev pub place_of : List ℕ → ℕ → ℕ
place_of places slot = slice_index_or places slot 0

-- Each slot stands at the place that it keeps, and each place has a slot that keeps it.
pub record IsTied (entries : List Entry) (places : List ℕ) : Type 0 where
  pub long : length entries ≡ length places
  pub inside : (slot : ℕ) → slot < length places → place_of places slot < length places
  pub stands : (slot : ℕ) → slot < length places → (entry_at entries (place_of places slot)).slot ≡ slot
  pub named : (place : ℕ) → place < length places → (entry_at entries place).slot < length places
  pub keeps : (place : ℕ) → place < length places → place_of places (entry_at entries place).slot ≡ place

unfoldable pub deadline_of : Entry → Deadline
deadline_of e = record { at = e.at; near = e.near }

-- the first places, so many, are the entries
abbrev pub kept_at : List Entry → ℕ → ℕ → Option Deadline
kept_at entries count place = if ltb place count then Some (deadline_of (entry_at entries place)) else None

abbrev pub slots_of : List Entry → List ℕ → ℕ → Slots
slots_of entries places count = map (kept_at entries count) places

-- the place above a place of a heap
abbrev pub parent : ℕ → ℕ
parent place = (place - 1) / 2

-- no entry comes before the one above it
abbrev pub IsHeap : (ℕ → ℕ) → ℕ → Type 0
IsHeap at count = (j : ℕ) → 0 < j → j < count → at (parent j) ≤ at j

-- what stands below the hole doesn't come before what stands above it
abbrev pub IsOver : (ℕ → ℕ) → ℕ → ℕ → Type 0
IsOver at count hole = (j : ℕ) → 0 < j → j < count → parent j ≡ hole → 0 < hole → at (parent hole) ≤ at j

-- a heap, but that what stands at the hole may come too early or too late for its place
pub record IsHeapBut (at : ℕ → ℕ) (count hole : ℕ) : Type 0 where
  pub edges : (j : ℕ) → 0 < j → j < count → j ≢ hole → parent j ≢ hole → at (parent j) ≤ at j
  pub over : IsOver at count hole

-- a heap, but that what stands at the hole may be too late for its place
pub record IsHeapAbove (at : ℕ → ℕ) (count hole : ℕ) : Type 0 where
  pub edges : (j : ℕ) → 0 < j → j < count → parent j ≢ hole → at (parent j) ≤ at j
  pub over : IsOver at count hole

-- the place so many steps above a place
unfoldable pub above : ℕ → ℕ → ℕ
above zero place = place
above (suc steps) place = parent (above steps place)

-- a place at or below another one
abbrev pub IsBelow : ℕ → ℕ → Type 0
IsBelow top place = (steps : ℕ) × (above steps place ≡ top)

-- Among the entries at or below a place, none is due.
abbrev pub NoneBelow : List Entry → ℕ → ℕ → ℕ → Type 0
NoneBelow entries count moment top = (place : ℕ) → place < count → IsBelow top place → moment < at_of entries place

-- An entry that is due.
pub record IsDuePlace (entries : List Entry) (count moment place : ℕ) : Type 0 where
  pub inside : place < count
  pub is_due : at_of entries place ≤ moment

-- Among the entries at or below a place, that with the lowest near id of those that are due.
pub record IsLowestBelow (entries : List Entry) (count moment top place : ℕ) : Type 0 where
  pub inside : place < count
  pub is_due : at_of entries place ≤ moment
  pub lowest : (other : ℕ) → other < count → IsBelow top other → at_of entries other ≤ moment → near_of entries place ≤ near_of entries other

pub record IsKept (by : Order) (entries : List Entry) (places : List ℕ) (count : ℕ) : Type 0 where
  pub tied : IsTied entries places
  pub fits : count ≤ length places
  pub heap : IsHeap (keys_of by entries) count
