-- How a table keeps its rows. Callers see nothing of it.
use Rattle.std.specs.Prelude.{ℕ, ◌≡◌, ◌≢◌, ◌<◌, ◌≤◌, ◌⊎◌, Bool, true, false, List, length}
use Rattle.std.specs.Prelude.{Option, Some}
use Rattle.std.specs.Option.{option_map}
use Rattle.std.specs.FinMap.{get}
use Rattle.deadlines.specs.Deadlines.{Slots}
use Rattle.keyed_slab.specs.declared.keys.Key.{Key}
use Rattle.keyed_slab.specs.Keys.{KeyTable}
use Rattle.keyed_slab.specs.KeyedSlab.{Seats, thing_in}
use Rattle.keyed_slab.specs.SlotSet.{Flags, slot_at}
use Rattle.keyed_slab.specs.Seating.{present}
use Rattle.keyed_slab.specs.Seating as seating
use Rattle.keyed_slab.specs.Walks as walks
use Rattle.endpoint_model.specs.declared.row.Row.{Row}
use Rattle.endpoint_model.specs.State.{Sessions}
use Rattle.endpoint_model.specs.FlowTimes.{is_row_due}
use Rattle.session_core.specs.Deadline.{deadline}
use Rattle.session_flows.specs.Keeping.{may_be_due}
use Rattle.session_table.specs.Table.{near_of, table_of}
use Rattle.session_table.specs.declared.round.Round.{Round}

-- the rows by their session IDs
abbrev pub rows_in : Seats Row → Sessions
rows_in rows = table_of (present rows.things)

-- the slot of the session with this session ID
abbrev pub slot_of : KeyTable → ℕ → Option ℕ
slot_of keys near = option_map (λ (key : Key). key.slot) (get keys near)

-- when something of its session's own is due first
abbrev pub due_from : Row → ℕ
due_from row = deadline row.session

abbrev pub may_be_due_of : Row → Bool
may_be_due_of row = may_be_due row.flows

-- ---- a round

-- The session ID is among those that the round still comes to.
pub record IsLeft (nears : List ℕ) (next near : ℕ) : Type 0 where
  pub place : ℕ
  pub begins : next ≤ place
  pub below : place < length nears
  pub is : slot_at nears place ≡ near

-- They ascend.
abbrev pub IsRising : List ℕ → ℕ → Type 0
IsRising nears next = (a b : ℕ) → next ≤ a → a ≤ b → b < length nears →
    slot_at nears a ≤ slot_at nears b

-- Where something is due of the row at the round's moment, its own deadline has come, or the round
-- still comes to it.
abbrev pub IsAwaited : Round → Row → Type 0
IsAwaited round row = (moment : ℕ) → round.moment ≡ Some moment → is_row_due moment row ≡ true →
    (due_from row ≤ moment) ⊎ IsLeft round.nears.items round.next (near_of row)

abbrev pub IsAwaitedAt : List (Option Row) → Round → ℕ → Type 0
IsAwaitedAt things round slot = (row : Row) → thing_in things slot ≡ Some row → IsAwaited round row

-- ---- what finds the rows

-- Each session ID has the key of its row and each row's session ID has one, each slot has its row's
-- deadline, just the slots of the rows with a flow that isn't idle are in the set, and the round
-- comes to each row that it should.
pub record IsKept (rows : Seats Row) (keys : KeyTable) (deadlines : Slots) (busy : Flags)
    (round : Round) : Type 0 where
  pub seats : seating.IsKept near_of due_from may_be_due_of rows.things rows.generations keys
      deadlines busy
  pub rises : IsRising round.nears.items round.next
  pub awaits : (slot : ℕ) → IsAwaitedAt rows.things round slot

-- the same, but for what the row in a slot has become
pub record IsLoose (rows : Seats Row) (keys : KeyTable) (deadlines : Slots) (busy : Flags)
    (round : Round) (slot : ℕ) : Type 0 where
  pub seats : seating.IsLoose near_of due_from may_be_due_of rows.things rows.generations keys
      deadlines busy slot
  pub rises : IsRising round.nears.items round.next
  pub awaits : (other : ℕ) → other ≢ slot → IsAwaitedAt rows.things round other

-- ---- rows that pass a test

abbrev pub NonePasses : (Row → Bool) → Seats Row → Type 0
NonePasses test rows = walks.NonePasses near_of test rows.things

-- the first that does, by session IDs, stands in the slot
abbrev pub IsFirst : (Row → Bool) → Seats Row → ℕ → Type 0
IsFirst test rows slot = walks.IsFirst near_of test rows.things slot

abbrev pub better_of : (Row → Bool) → Seats Row → Option ℕ → ℕ → Option ℕ
better_of test rows best slot = walks.better_of near_of test rows.things best slot

-- ---- what a round finds

-- Of this session ID's row something is due at the moment.
pub record IsDueUnder (moment near : ℕ) (things : List (Option Row)) (slot : ℕ) : Type 0 where
  pub row : Row
  pub stands : thing_in things slot ≡ Some row
  pub near_is : near_of row ≡ near
  pub due : is_row_due moment row ≡ true

-- Nothing is.
abbrev pub NoneIsDueUnder : ℕ → ℕ → List (Option Row) → Type 0
NoneIsDueUnder moment near things = (slot : ℕ) (row : Row) → thing_in things slot ≡ Some row →
    near_of row ≡ near → is_row_due moment row ≡ false

-- Whatever is due of a row, its own deadline has come.
abbrev pub AllAreOwn : ℕ → List (Option Row) → Type 0
AllAreOwn moment things = (slot : ℕ) (row : Row) → thing_in things slot ≡ Some row →
    is_row_due moment row ≡ true → due_from row ≤ moment

-- the first of which something is due, but for those whose own deadline has come
pub record IsFirstBeside (moment : ℕ) (things : List (Option Row)) (slot : ℕ) : Type 0 where
  pub row : Row
  pub stands : thing_in things slot ≡ Some row
  pub due : is_row_due moment row ≡ true
  pub lowest : (other : ℕ) (w : Row) → thing_in things other ≡ Some w →
      is_row_due moment w ≡ true → (due_from w ≤ moment) ⊎ (near_of row ≤ near_of w)
