-- The sendings of a flow in their order, among which are those of all numbers in flight.
use Rattle.std.specs.Prelude.{ℕ, ◌≡◌, ◌+◌, ◌<◌, ◌≤◌, ◌==◌, nat_lt, if◌then◌else◌, Bool, true, ◌&&◌, List}
use Rattle.std.specs.Prelude.{[], ◌∷◌, ◌++◌, ◌⊎◌}
use Rattle.rtmfp_data_chunks.specs.HandsOver.{IsIn}
use Rattle.flow_send.specs.Rows.{Row, is_flying}
use Rattle.flow_send.specs.Sender.{is_late, lost_if_late}
use Rattle.flow_send.specs.Acks.{count_ack}

-- each with its ordinal, its number and its moment. whole: none that is asked for is left out. room:
-- for so many more
pub record Ordered : Type 0 where
  pub whole : Bool
  pub queue : List (ℕ × ℕ × ℕ)
  pub room : ℕ

abbrev pub ordered : Bool → List (ℕ × ℕ × ℕ) → ℕ → Ordered
ordered whole queue room = record { whole = whole; queue = queue; room = room }

-- the ordinals rise
abbrev pub Rising : List (ℕ × ℕ × ℕ) → Type 0
Rising [] = Unit {0}
Rising (e ∷ later) = ((x : ℕ × ℕ × ℕ) → IsIn x later → e.0 < x.0) × Rising later

-- the moments don't fall
abbrev pub NonFalling : List (ℕ × ℕ × ℕ) → Type 0
NonFalling [] = Unit {0}
NonFalling (e ∷ later) = ((x : ℕ × ℕ × ℕ) → IsIn x later → e.2 ≤ x.2) × NonFalling later

-- the last one was at a moment or before it
abbrev pub EndsBy : ℕ → List (ℕ × ℕ × ℕ) → Type 0
EndsBy moment [] = Unit {0}
EndsBy moment (e ∷ []) = e.2 ≤ moment
EndsBy moment (e ∷ f ∷ later) = EndsBy moment (f ∷ later)

-- the last one is before an ordinal
abbrev pub EndsBefore : ℕ → List (ℕ × ℕ × ℕ) → Type 0
EndsBefore ordinal [] = Unit {0}
EndsBefore ordinal (e ∷ []) = e.0 < ordinal
EndsBefore ordinal (e ∷ f ∷ later) = EndsBefore ordinal (f ∷ later)

-- the last sending of each number in flight is there
abbrev pub AllThere : List (ℕ × ℕ × ℕ) → ℕ → List Row → Type 0
AllThere queue n [] = Unit {0}
AllThere queue n (r ∷ rows) = (is_flying r.state ≡ true → IsIn (r.ordinal, n, r.moment) queue) ×
    AllThere queue (n + 1) rows

-- no number is in flight since this sending
abbrev pub AllOther : ℕ × ℕ × ℕ → ℕ → List Row → Type 0
AllOther e n [] = Unit {0}
AllOther e n (r ∷ rows) = (is_flying r.state ≡ true → (r.ordinal, n, r.moment) ≡ e → ⊥) ×
    AllOther e (n + 1) rows

-- a number is in flight since the sending with this ordinal
abbrev pub IsLast : ℕ → ℕ → ℕ → List Row → Type 0
IsLast sent number n [] = ⊥
IsLast sent number n (r ∷ rows) = (number ≡ n) × (is_flying r.state ≡ true) × (r.ordinal ≡ sent)
    ⊎ IsLast sent number (n + 1) rows

-- the oldest sending, if there is one, is such a sending of its number
abbrev pub IsPruned : List (ℕ × ℕ × ℕ) → ℕ → List Row → Type 0
IsPruned [] n rows = Unit {0}
IsPruned (e ∷ later) n rows = IsLast e.0 e.1 n rows

pub record IsComplete (queue : List (ℕ × ℕ × ℕ)) (n : ℕ) (rows : List Row) : Type 0 where
  pub rising : Rising queue
  pub moments : NonFalling queue
  pub there : AllThere queue n rows

abbrev pub Follows : Ordered → ℕ → List Row → Type 0
Follows o n rows = o.whole ≡ true → IsComplete o.queue n rows

-- one more sending, where it is kept
abbrev pub IsAdded : ℕ → ℕ → ℕ → Ordered → Ordered → Type 0
IsAdded ordinal number moment old new = new.whole ≡ true →
    (old.whole ≡ true) × EndsBefore ordinal old.queue × EndsBy moment old.queue
    × (new.queue ≡ old.queue ++ (ordinal, number, moment) ∷ [])

-- a number is lost where it is late
abbrev pub lose_one : ℕ → ℕ → ℕ → ℕ → Row → Row
lose_one moment resend number k r = if k == number then lost_if_late moment resend r else r

abbrev pub is_late_one : ℕ → ℕ → ℕ → ℕ → Row → Bool
is_late_one moment resend number k r = k == number && is_late moment resend r

-- an ack counts against a row whose last sending is this one
abbrev pub count_sent : ℕ → ℕ → Row → Row
count_sent ordinal sent r = if r.ordinal == sent then count_ack ordinal r else r

-- against number n below an end
abbrev pub count_one : ℕ → ℕ → ℕ → ℕ → ℕ → Row → Row
count_one end ordinal sent n k r = if k == n && nat_lt k end then count_sent ordinal sent r else r

-- against those that were sent before
abbrev pub count_before : ℕ → ℕ → ℕ → ℕ → Row → Row
count_before end ordinal before k r = if nat_lt k end && nat_lt r.ordinal before then
    count_ack ordinal r else r
