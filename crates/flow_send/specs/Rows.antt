-- The numbers of a sending flow above its forward number, each with its fragment and what became of
-- it.
use Prim.Native.Nat.{zero, suc}
use Rattle.std.specs.Prelude.{ℕ, ◌+◌, if◌then◌else◌, max, Bool, true, false, ◌||◌, List, [], ◌∷◌}
use Rattle.std.specs.Prelude.{Option, Some, None, length, slice_index_or}
use Rattle.std.specs.List.{sum_by, list_any}
use Rattle.rtmfp_data_chunks.specs.declared.user_data.Part.TheVariants.{Whole}
use Rattle.rtmfp_data_chunks.specs.Fragments.{Fragment}
use Rattle.flow_send.specs.declared.state.State.{State}
use Rattle.flow_send.specs.declared.state.State.TheVariants.{Unsent, Flying, Lost, Acknowledged}
use Rattle.flow_send.specs.declared.state.State.TheVariants.{Abandoned}
use Rattle.flow_send.specs.declared.totals.Totals.{Totals}

-- A number. ends: it is the number of finish, which has no message. moment, ordinal: of its last
-- sending, the ordinal being its position in the order of all sendings of the flow. resends: how
-- often it was sent again. acks: those counted against it since its last sending. A number that is
-- acknowledged or abandoned holds no bytes any more.
pub record Row : Type 0 where
  pub ends : Bool
  pub fragment : Fragment
  pub state : State
  pub moment : ℕ
  pub ordinal : ℕ
  pub resends : ℕ
  pub acks : ℕ

abbrev pub is_unsent : State → Bool
is_unsent Unsent = true
is_unsent Flying = false
is_unsent Lost = false
is_unsent Acknowledged = false
is_unsent Abandoned = false

abbrev pub is_flying : State → Bool
is_flying Unsent = false
is_flying Flying = true
is_flying Lost = false
is_flying Acknowledged = false
is_flying Abandoned = false

abbrev pub is_lost : State → Bool
is_lost Unsent = false
is_lost Flying = false
is_lost Lost = true
is_lost Acknowledged = false
is_lost Abandoned = false

abbrev pub is_acknowledged : State → Bool
is_acknowledged Unsent = false
is_acknowledged Flying = false
is_acknowledged Lost = false
is_acknowledged Acknowledged = true
is_acknowledged Abandoned = false

abbrev pub is_abandoned : State → Bool
is_abandoned Unsent = false
is_abandoned Flying = false
is_abandoned Lost = false
is_abandoned Acknowledged = false
is_abandoned Abandoned = true

-- it needs no sending any more
abbrev pub is_settled : State → Bool
is_settled state = is_acknowledged state || is_abandoned state

-- it is settled, and its bytes are let go
abbrev pub let_go : State → Row → Row
let_go state r =
    record r { state = state; fragment = record { part = r.fragment.part; bytes = [] } }

-- the number of finish
abbrev pub end_row : Row
end_row = record {
  ends = true;
  fragment = record { part = Whole; bytes = [] };
  state = Unsent;
  moment = 0;
  ordinal = 0;
  resends = 0;
  acks = 0;
}

-- each row changed by its number, the first row having number n
abbrev pub map_rows : (ℕ → Row → Row) → ℕ → List Row → List Row
map_rows f n [] = []
map_rows f n (r ∷ rows) = f n r ∷ map_rows f (n + 1) rows

-- whether a row passes a test by its number
abbrev pub any_row : (ℕ → Row → Bool) → ℕ → List Row → Bool
any_row test n [] = false
any_row test n (r ∷ rows) = test n r || any_row test (n + 1) rows

-- the sum of what each row gives by its number
abbrev pub sum_rows : (ℕ → Row → ℕ) → ℕ → List Row → ℕ
sum_rows f n [] = 0
sum_rows f n (r ∷ rows) = f n r + sum_rows f (n + 1) rows

-- the greatest of what each row gives by its number
abbrev pub most_rows : (ℕ → Row → ℕ) → ℕ → List Row → ℕ
most_rows f n [] = 0
most_rows f n (r ∷ rows) = max (f n r) (most_rows f (n + 1) rows)

-- the bytes in flight
abbrev pub flight_of : Row → ℕ
flight_of r = if is_flying r.state then length r.fragment.bytes else 0

abbrev pub in_flight : List Row → ℕ
in_flight rows = sum_by flight_of rows

-- a number is in flight
abbrev pub any_flying : List Row → Bool
any_flying rows = list_any (λ r. is_flying r.state) rows

-- the bytes held by the rows, and how many of them are in flight and lost
abbrev pub stored_of : Row → ℕ
stored_of r = length r.fragment.bytes

abbrev pub flying_of : Row → ℕ
flying_of r = if is_flying r.state then 1 else 0

abbrev pub lost_of : Row → ℕ
lost_of r = if is_lost r.state then 1 else 0

abbrev pub totals_of : List Row → Totals
totals_of rows = record {
  flight = sum_by flight_of rows;
  flying = sum_by flying_of rows;
  stored = sum_by stored_of rows;
  lost = sum_by lost_of rows;
}

abbrev pub row_totals : Row → Totals
row_totals r = record {
  flight = flight_of r;
  flying = flying_of r;
  stored = stored_of r;
  lost = lost_of r;
}

-- how many rows at the front are settled
abbrev pub settled_front : List Row → ℕ
settled_front [] = 0
settled_front (r ∷ rows) = if is_settled r.state then settled_front rows + 1 else 0

-- the row at an index
abbrev pub row_at : List Row → ℕ → Row
row_at rows at = slice_index_or rows at end_row

-- the rows from one index to before another, changed
abbrev pub between : (Row → Row) → ℕ → ℕ → List Row → List Row
between f lo hi [] = []
between f zero zero (r ∷ rows) = r ∷ rows
between f zero (suc hi) (r ∷ rows) = f r ∷ between f zero hi rows
between f (suc lo) zero (r ∷ rows) = r ∷ rows
between f (suc lo) (suc hi) (r ∷ rows) = r ∷ between f lo hi rows

-- whether one of them passes a test
abbrev pub any_between : (Row → Bool) → ℕ → ℕ → List Row → Bool
any_between test lo hi [] = false
any_between test zero zero (r ∷ rows) = false
any_between test zero (suc hi) (r ∷ rows) = test r || any_between test zero hi rows
any_between test (suc lo) zero (r ∷ rows) = false
any_between test (suc lo) (suc hi) (r ∷ rows) = any_between test lo hi rows

-- the greatest of what each of them gives
abbrev pub most_between : (Row → ℕ) → ℕ → ℕ → List Row → ℕ
most_between f lo hi [] = 0
most_between f zero zero (r ∷ rows) = 0
most_between f zero (suc hi) (r ∷ rows) = max (f r) (most_between f zero hi rows)
most_between f (suc lo) zero (r ∷ rows) = 0
most_between f (suc lo) (suc hi) (r ∷ rows) = most_between f lo hi rows

-- the first index, from n on, of a row whose state passes a test
abbrev pub first_index : (State → Bool) → ℕ → List Row → Option ℕ
first_index test n [] = None
first_index test n (r ∷ rows) = if test r.state then Some n else first_index test (n + 1) rows

abbrev pub front_settled : List Row → Bool
front_settled [] = false
front_settled (r ∷ rows) = is_settled r.state

-- rows, and for how many more there is room
pub record Roomy : Type 0 where
  pub rows : List Row
  pub room : ℕ

abbrev pub roomy : List Row → ℕ → Roomy
roomy rows room = record { rows = rows; room = room }
