-- Which messages wait, which acks count against a number, and which numbers are lost, told by what
-- was done.
use Prim.Native.Nat.{zero, suc}
use Rattle.std.specs.Prelude.{ℕ, ◌≡◌, ◌+◌, ◌==◌, nat_le, not, if◌then◌else◌, Bool, true, false}
use Rattle.std.specs.Prelude.{◌&&◌, ◌||◌, List, [], ◌∷◌, ◌++◌, Option, Some, None, length}
use Rattle.std.specs.List.{filter}
use Rattle.rtmfp_data_chunks.specs.Fragments.{Message, fragment_count}
use Rattle.flow_send.specs.declared.waiting.MessageOptions.{MessageOptions}
use Rattle.flow_send.specs.declared.waiting.Waiting.{Waiting}
use Rattle.flow_send.specs.Rows.{Row, is_flying, is_lost}
use Rattle.flow_send.specs.Acks.{Told, tells}
use Rattle.flow_send.specs.Calls.{Done, Queued, Abandoned, Sent, Looked, Heard, last_sending}
use Rattle.flow_send.specs.Calls.{is_told, is_over, is_out}

-- ---- messages

-- a message as it waits: its number, its fragments, its bytes and its options
abbrev pub as_queued : Message → MessageOptions → Waiting
as_queued m options = record {
  number = m.number;
  count = fragment_count m;
  size = length m.bytes;
  options = options;
}

-- the messages that were queued, in their order
abbrev pub all_queued : List Done → List Waiting
all_queued [] = []
all_queued (Queued m options ∷ earlier) = all_queued earlier ++ as_queued m options ∷ []
all_queued (_ ∷ earlier) = all_queued earlier

-- the message that begins at number n was abandoned
abbrev pub was_abandoned : List Done → ℕ → Bool
was_abandoned [] n = false
was_abandoned (Abandoned w ∷ earlier) n = w.number == n || was_abandoned earlier n
was_abandoned (_ ∷ earlier) n = was_abandoned earlier n

-- heard acks tell each of so many numbers from n on
abbrev pub all_told : List Done → ℕ → ℕ → Bool
all_told done n zero = true
all_told done n (suc count) = is_told done n && all_told done (n + 1) count

-- a message is neither abandoned nor wholly acknowledged
abbrev pub is_open : List Done → Waiting → Bool
is_open done w = not (was_abandoned done w.number) && not (all_told done w.number w.count)

abbrev pub all_open : List Done → List Waiting
all_open done = filter (is_open done) (all_queued done)

-- ---- acks that count

-- the forward number has passed number n: all at or below it is over
abbrev pub is_passed : ℕ → List Done → ℕ → Bool
is_passed first done zero = is_over first done 0
is_passed first done (suc n) = is_over first done (suc n) && is_passed first done n

-- an ack that is heard after these doings newly tells number n, above the forward number
abbrev pub newly_tells : ℕ → List Done → Told → ℕ → Bool
newly_tells first earlier a n = tells a n && (not (is_told earlier n)
    && not (is_passed first earlier n))

-- it newly tells a number that was sent after the last sending of number n, which is looked for
-- from the newest doing on
abbrev pub tells_later : ℕ → List Done → Told → List Done → ℕ → Bool
tells_later first earlier a [] n = false
tells_later first earlier a (Sent k moment ∷ left) n = if k == n then false
    else newly_tells first earlier a k || tells_later first earlier a left n
tells_later first earlier a (_ ∷ left) n = tells_later first earlier a left n

-- how many of the acks heard since the last sending of number n newly told a number sent after it
abbrev pub acks_since : ℕ → List Done → ℕ → ℕ
acks_since first [] n = 0
acks_since first (Sent k moment ∷ earlier) n = if k == n then 0 else acks_since first earlier n
acks_since first (Heard a ∷ earlier) n = if tells_later first earlier a earlier n then
    acks_since first earlier n + 1 else acks_since first earlier n
acks_since first (_ ∷ earlier) n = acks_since first earlier n

-- ---- looks

-- a sending was so long before a moment
abbrev pub is_long_before : Option (ℕ × ℕ) → ℕ → ℕ → Bool
is_long_before None resend moment = false
is_long_before (Some s) resend moment = nat_le (s.0 + resend) moment

-- a look since the last sending of number n found it so long ago
abbrev pub was_late : List Done → ℕ → Bool
was_late [] n = false
was_late (Sent k moment ∷ earlier) n = if k == n then false else was_late earlier n
was_late (Looked moment resend ∷ earlier) n =
    is_long_before (last_sending earlier n) resend moment || was_late earlier n
was_late (_ ∷ earlier) n = was_late earlier n

-- ---- the sender against it

-- Of a number that was sent and isn't settled: in flight its acks are those that count, and it is
-- lost exactly where three count or a look found it late
pub record CountsAs (first : ℕ) (done : List Done) (n : ℕ) (r : Row) : Type 0 where
  pub acks : is_flying r.state ≡ true → r.acks ≡ acks_since first done n
  pub lost : is_out r.state ≡ true →
      is_lost r.state ≡ (nat_le 3 (acks_since first done n) || was_late done n)

abbrev pub AllCount : ℕ → List Done → ℕ → List Row → Type 0
AllCount first done n [] = Unit {0}
AllCount first done n (r ∷ rows) = CountsAs first done n r × AllCount first done (n + 1) rows
