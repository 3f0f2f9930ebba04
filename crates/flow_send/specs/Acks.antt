-- What an ack tells a sending flow.
use Rattle.std.specs.Prelude.{ℕ, ◌+◌, if◌then◌else◌, nat_le, nat_lt, max, map, not, Bool, ◌&&◌}
use Rattle.std.specs.Prelude.{◌||◌, List, [], ◌∷◌, Option, Some, None, length}
use Rattle.std.specs.List.{filter, list_any}
use Rattle.flow_send.specs.declared.state.State.TheVariants.{Lost, Acknowledged}
use Rattle.flow_send.specs.declared.waiting.Waiting.{Waiting}
use Rattle.flow_send.specs.Rows.{Row, is_flying, is_acknowledged, is_abandoned, is_settled, let_go}
use Rattle.flow_send.specs.Rows.{map_rows, any_row, sum_rows, most_rows}
use Rattle.flow_send.specs.Sender.{Sender, has_number, with_rows}

-- the blocks told, all at or below a number, and spans above it from their first to their last
-- number
pub record Told : Type 0 where
  pub blocks : ℕ
  pub upto : ℕ
  pub spans : List (ℕ × ℕ)

abbrev pub told : ℕ → ℕ → List (ℕ × ℕ) → Told
told blocks upto spans = record { blocks = blocks; upto = upto; spans = spans }

-- the ack acknowledges number n
abbrev pub in_span : ℕ → ℕ × ℕ → Bool
in_span n p = nat_le p.0 n && nat_le n p.1

abbrev pub tells : Told → ℕ → Bool
tells a n = nat_le n a.upto || list_any (in_span n) a.spans

-- the greatest number that it acknowledges
abbrev pub greatest : ℕ → List (ℕ × ℕ) → ℕ
greatest upto [] = upto
greatest upto (p ∷ later) = greatest (max upto p.1) later

abbrev pub beyond : Sender → Told → Option ℕ
beyond s a = if nat_lt s.sent (greatest a.upto a.spans) then Some (greatest a.upto a.spans)
    else None

-- it newly acknowledges a number above the forward number
abbrev pub is_new : Told → ℕ → Row → Bool
is_new a n r = tells a n && not (is_acknowledged r.state)

-- the bytes of the numbers, but the abandoned ones, that it newly acknowledges
abbrev pub new_bytes : Told → ℕ → List Row → ℕ
new_bytes a n rows = sum_rows (λ k r. if is_new a k r && not (is_abandoned r.state) then
    length r.fragment.bytes else 0) n rows

-- the last of their ordinals
abbrev pub new_ordinal : Row → ℕ
new_ordinal r = if is_acknowledged r.state then 0 else r.ordinal

abbrev pub last_ordinal : Told → ℕ → List Row → ℕ
last_ordinal a n rows = most_rows (λ k r. if tells a k then new_ordinal r else 0) n rows

abbrev pub acknowledge_row : Row → Row
acknowledge_row r = if is_acknowledged r.state then r else let_go Acknowledged r

abbrev pub acknowledge : Told → ℕ → Row → Row
acknowledge a n r = if tells a n then acknowledge_row r else r

-- a number in flight is lost by the third ack that newly acknowledges a number sent after it
abbrev pub is_third : ℕ → Row → Bool
is_third ordinal r = is_flying r.state && nat_lt r.ordinal ordinal && nat_le 2 r.acks

abbrev pub count_ack : ℕ → Row → Row
count_ack ordinal r =
    if is_third ordinal r then record r { state = Lost }
    else if is_flying r.state && nat_lt r.ordinal ordinal then record r { acks = r.acks + 1 } else r

abbrev pub rows_acknowledged : Told → Sender → List Row
rows_acknowledged a s = map_rows (acknowledge a) (s.forward + 1) s.rows

abbrev pub rows_told : Told → Sender → List Row
rows_told a s = map (count_ack (last_ordinal a (s.forward + 1) s.rows)) (rows_acknowledged a s)

abbrev pub makes_lost : Told → Sender → Bool
makes_lost a s = list_any (is_third (last_ordinal a (s.forward + 1) s.rows)) (rows_acknowledged a s)

-- a message waits until all its numbers are settled
abbrev pub still_waits : ℕ → List Row → Waiting → Bool
still_waits n rows w = any_row (λ k r. has_number w k && not (is_settled r.state)) n rows

abbrev pub told_by : Told → Sender → Sender
told_by a s =
    let t = with_rows (rows_told a s) (filter (still_waits (s.forward + 1) (rows_told a s))
    s.waiting) s in
    record t { upto = a.upto; told = Some a.blocks }
