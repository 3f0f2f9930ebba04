-- How the attempts are kept: in slots under keys, with the keys by near ids and a deadline for each
-- slot.
use Rattle.std.specs.Prelude.{ℕ, ◌+◌, ◌&&◌, Bool, false, nat_le, nat_lt, min, map, length, Option, Some, None, refl}
use Rattle.std.specs.Coded.{Coded, code_by, coded×, coded_ℕ, coded_bool}
use Rattle.std.specs.FinMap.{from_entries, get, insert, code}
use Rattle.deadlines.specs.Deadlines.{Deadline, Slots}
use Rattle.keyed_slab.specs.Keys.{KeyMap, KeyTable}
use Rattle.keyed_slab.specs.KeyedSlab.{Seats}
use Rattle.keyed_slab.specs.SlotSet.{Flags}
use Rattle.keyed_slab.specs.Seating.{present}
use Rattle.keyed_slab.specs.Seating as seating
use Rattle.keyed_slab.specs.Walks as walks
use Rattle.startup.specs.declared.attempt.Row.{Row}
use Rattle.startup.specs.State.{AttemptState, Attempts}
use Rattle.startup.specs.Due.{gap_of, lifetime}

-- what contracts see: the attempts by their near ids, and whether there is room for one more
pub record Table : Type 0 where
  pub attempts : Attempts
  pub ready : Bool

-- ---- the change of one attempt

abbrev pub with_changed : (AttemptState → AttemptState) → Attempts → ℕ → Option AttemptState →
    Attempts
with_changed change attempts near None = attempts
with_changed change attempts near (Some a) = insert attempts near (change a)

-- The attempt under this near id is changed so, where there is one.
abbrev pub in_attempt : (AttemptState → AttemptState) → Attempts → ℕ → Attempts
in_attempt change attempts near = with_changed change attempts near (get attempts near)

-- ---- rows

abbrev pub near_of : Row → ℕ
near_of row = row.near

abbrev pub attempt_of : Row → AttemptState
attempt_of row = row.attempt

-- the moment from which on something is due of an attempt: its repeat, or its end
abbrev pub due_from : AttemptState → ℕ
due_from a = min (a.start + lifetime) (a.last + gap_of a.gap)

abbrev pub row_due_from : Row → ℕ
row_due_from row = due_from row.attempt

abbrev pub changed_row : (AttemptState → AttemptState) → Row → Row
changed_row change row = record { near = row.near; attempt = change row.attempt }

abbrev pub row_passes : (AttemptState → Bool) → Row → Bool
row_passes test row = test row.attempt

-- ---- the attempts by near ids

abbrev pub row_entry : Row → ℕ × AttemptState
row_entry row = (row.near, row.attempt)

abbrev pub attempts_in : Seats Row → Attempts
attempts_in rows = from_entries (map row_entry (present rows.things))

-- ---- what holds of them

-- Beside the attempts stands no set of slots, so no slot is in it.
abbrev pub is_in : Row → Bool
is_in row = false

abbrev pub unflagged : Option Deadline → Bool
unflagged entry = false

abbrev pub no_flags : Slots → Flags
no_flags deadlines = map unflagged deadlines

-- Each near id has the key of its attempt and each attempt's near id has one, and each slot has its
-- attempt's own deadline.
abbrev pub IsKept : Seats Row → KeyTable → Slots → Type 0
IsKept rows keys deadlines =
    seating.IsKept near_of row_due_from is_in rows.things rows.generations keys deadlines
    (no_flags deadlines)

-- the same, but for what the attempt in a slot has become
abbrev pub IsLoose : Seats Row → KeyTable → Slots → ℕ → Type 0
IsLoose rows keys deadlines slot =
    seating.IsLoose near_of row_due_from is_in rows.things rows.generations keys deadlines
    (no_flags deadlines) slot

-- whether one more attempt takes no memory
abbrev pub is_ready : Seats Row → KeyMap → Slots → Bool
is_ready rows keys deadlines =
    nat_lt 0 keys.spare && (nat_lt 0 rows.free && nat_le rows.room (length deadlines))

-- ---- attempts that pass a test

abbrev pub NonePasses : (AttemptState → Bool) → Seats Row → Type 0
NonePasses test rows = walks.NonePasses near_of (row_passes test) rows.things

-- the first that does, by near ids, stands in the slot
abbrev pub IsFirst : (AttemptState → Bool) → Seats Row → ℕ → Type 0
IsFirst test rows slot = walks.IsFirst near_of (row_passes test) rows.things slot

abbrev pub better_of : (AttemptState → Bool) → Seats Row → Option ℕ → ℕ → Option ℕ
better_of test rows best slot = walks.better_of near_of (row_passes test) rows.things best slot

-- ---- how a table is stored: as the pair of its fields

abbrev pub table_code : Coded AttemptState → Coded Table
table_code attempt =
    code_by (Attempts × Bool) (coded× (code coded_ℕ attempt) coded_bool)
    (λ t. (t.attempts, t.ready)) (λ p. record { attempts = p.0; ready = p.1 }) (λ _. refl)
