-- What is so of every sender.
use Rattle.std.specs.Prelude.{ℕ, ◌≡◌, ◌+◌, ◌^◌, ◌<◌, ◌≤◌, Bool, true, false, ◌||◌, List, [], ◌∷◌}
use Rattle.std.specs.Prelude.{Option, Some, None, length}
use Rattle.flow_send.specs.declared.state.State.{State}
use Rattle.flow_send.specs.declared.waiting.Waiting.{Waiting}
use Rattle.flow_send.specs.Rows.{Row, is_unsent, is_abandoned, front_settled}
use Rattle.flow_send.specs.Sender.{Sender, next_of, bytes_held, fragments_held}
use Rattle.flow_send.specs.Acks.{still_waits}

-- it was never sent
abbrev pub is_fresh : State → Bool
is_fresh state = is_unsent state || is_abandoned state

-- A number up to the highest one sent was sent or is abandoned, and one above was never sent. What
-- is abandoned holds no bytes, and no fragment has more than 1,000.
pub record RowOk (sent n : ℕ) (r : Row) : Type 0 where
  pub old : n ≤ sent → is_unsent r.state ≡ false
  pub fresh : sent < n → is_fresh r.state ≡ true
  pub empty : is_abandoned r.state ≡ true → length r.fragment.bytes ≡ 0
  pub short : length r.fragment.bytes ≤ 1000

abbrev pub AllOk : ℕ → ℕ → List Row → Type 0
AllOk sent n [] = Unit {0}
AllOk sent n (r ∷ rows) = RowOk sent n r × AllOk sent (n + 1) rows

-- messages lie one after another from one number to before another, and each has fragments
abbrev pub Line : ℕ → ℕ → List Waiting → Type 0
Line low high [] = low ≤ high
Line low high (w ∷ later) = (low ≤ w.number) × (0 < w.count) × Line (w.number + w.count) high later

-- each message that waits has a number that isn't settled
abbrev pub AllWait : ℕ → List Row → List Waiting → Type 0
AllWait n rows [] = Unit {0}
AllWait n rows (w ∷ later) = (still_waits n rows w ≡ true) × AllWait n rows later

-- the number after those of messages
abbrev pub line_end : Option ℕ → ℕ → ℕ
line_end None next = next
line_end (Some n) next = n

abbrev pub end_of : Sender → ℕ
end_of s = line_end s.finish (next_of s)

-- the number of finish is the last one
abbrev pub IsLast : Option ℕ → ℕ → Type 0
IsLast None next = Unit {0}
IsLast (Some n) next = next ≡ n + 1

-- the forward number is the greatest one at or below which all is settled: the number after it
-- isn't, or isn't given yet
abbrev pub IsGreatest : Sender → Type 0
IsGreatest s = front_settled s.rows ≡ false

-- it holds at most 2,097,152 bytes and 65,536 fragments of messages that wait
pub record Steady (s : Sender) : Type 0 where
  pub bytes : bytes_held s ≤ 2097152
  pub fragments : fragments_held s ≤ 65536
  pub numbers : end_of s < 2 ^ 64
  pub last : IsLast s.finish (next_of s)
  pub below : s.sent < next_of s
  pub rows : AllOk s.sent (s.forward + 1) s.rows
  pub front : IsGreatest s
  pub line : Line 0 (end_of s) s.waiting
  pub waits : AllWait (s.forward + 1) s.rows s.waiting

-- no fragment has more than 1,000 bytes
abbrev pub AllShort : List Row → Type 0
AllShort [] = Unit {0}
AllShort (r ∷ rows) = (length r.fragment.bytes ≤ 1000) × AllShort rows

-- what is held of the messages that wait, and each fragment
pub record IsBounded (s : Sender) : Type 0 where
  pub bytes : bytes_held s ≤ 2097152
  pub fragments : fragments_held s ≤ 65536
  pub each : AllShort s.rows
