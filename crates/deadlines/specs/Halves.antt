-- The two heaps as one list of slots: what is due later, and what came due.
use Rattle.std.specs.Prelude.{ℕ, ◌≡◌, ◌≤◌, ◌<◌, ◌+◌, [], ◌∷◌, length, Option, Some, None}
use Rattle.deadlines.specs.Deadlines.{Deadline, Slots, IsNamedApart, NoneIsDue, entry_of}
use Rattle.deadlines.specs.Inside.{deadline_of}
use Rattle.deadlines.specs.declared.entry.Entry.{Entry}

abbrev pub or_else : Option Deadline → Option Deadline → Option Deadline
or_else None other = other
or_else (Some d) other = Some d

-- each slot that both have, with its entry in either
abbrev pub merged : Slots → Slots → Slots
merged [] ready = []
merged (x ∷ later) [] = []
merged (x ∷ later) (y ∷ ready) = or_else x y ∷ merged later ready

-- Each slot has its entry in one of the two at most, and those that came due have the room of all.
pub record IsSplit (later ready : Slots) : Type 0 where
  pub fits : length ready ≤ length later
  pub inside : (slot : ℕ) (d : Deadline) → entry_of later slot ≡ Some d → slot < length ready
  pub alone : (slot : ℕ) (c d : Deadline) → entry_of later slot ≡ Some c → entry_of ready slot ≡ Some d → ⊥
  pub apart : IsNamedApart (merged later ready)

-- each entry is due
abbrev pub AllAreDue : Slots → ℕ → Type 0
AllAreDue slots moment = (slot : ℕ) (d : Deadline) → entry_of slots slot ≡ Some d → d.at ≤ moment

-- One has what is due after the floor, the other what is due at it.
pub record IsParted (later ready : Slots) (floor : ℕ) : Type 0 where
  pub split : IsSplit later ready
  pub late : NoneIsDue later floor
  pub due : AllAreDue ready floor

-- how many entries there are
abbrev pub entries_in : Slots → ℕ
entries_in [] = 0
entries_in (None ∷ slots) = entries_in slots
entries_in (Some d ∷ slots) = entries_in slots + 1

-- an entry that is a slot's
abbrev pub Stands : Slots → Entry → Type 0
Stands slots e = entry_of slots e.slot ≡ Some (deadline_of e)

-- An entry that is due.
pub record IsDueIn (slots : Slots) (moment : ℕ) (e : Entry) : Type 0 where
  pub stands : Stands slots e
  pub is_due : e.at ≤ moment

-- An entry that is due, and none that is due has a lower near id.
pub record IsLowDue (slots : Slots) (moment : ℕ) (e : Entry) : Type 0 where
  pub stands : Stands slots e
  pub is_due : e.at ≤ moment
  pub lowest : (other : ℕ) (d : Deadline) → entry_of slots other ≡ Some d → d.at ≤ moment → e.near ≤ d.near
