-- The messages that wait, by the number that each begins with.
use Rattle.std.specs.Prelude.{ℕ, ◌≡◌, ◌+◌, ◌<◌, ◌≤◌, nat_lt, nat_le, ◌&&◌, ◌||◌, not, Bool, true}
use Rattle.std.specs.Prelude.{false, List, [], ◌∷◌, Option, Some, None, IsSome}
use Rattle.std.specs.List.{list_any}
use Rattle.rtmfp_data_chunks.specs.HandsOver.{IsIn}
use Rattle.flow_send.specs.declared.waiting.Waiting.{Waiting}
use Rattle.flow_send.specs.Rows.{Row}
use Rattle.flow_send.specs.Sender.{message_at}
use Rattle.flow_send.specs.Acks.{still_waits}

-- the first of those that begin at a number or above it
abbrev pub IsFirstFrom : ℕ → List Waiting → Option ℕ → Type 0
IsFirstFrom n ws None = (q : ℕ) → n ≤ q → message_at q ws ≡ None
IsFirstFrom n ws (Some g) = (n ≤ g) × IsSome (message_at g ws) ×
    ((q : ℕ) → n ≤ q → IsSome (message_at q ws) → g ≤ q)

-- the messages go upward, and no two have a number
abbrev pub InLine : ℕ → List Waiting → Type 0
InLine low [] = Unit {0}
InLine low (y ∷ later) = (low ≤ y.number) × (0 < y.count) × InLine (y.number + y.count) later

-- it has one of the numbers between two
abbrev pub touches : ℕ → ℕ → Waiting → Bool
touches low high y = nat_le y.number high && nat_lt low (y.number + y.count)

-- it has none of them, or still waits
abbrev pub keeps : ℕ → List Row → ℕ → ℕ → Waiting → Bool
keeps n rows low high y = not (touches low high y) || still_waits n rows y

abbrev pub keeps_at : ℕ → List Row → ℕ → ℕ → Option Waiting → Bool
keeps_at n rows low high None = true
keeps_at n rows low high (Some y) = keeps n rows low high y

-- a walk goes on at a number
abbrev pub is_left : Option ℕ → Waiting → Bool
is_left None y = false
is_left (Some f) y = nat_le f y.number

-- a walk that begins so passes no message that has a number above one
abbrev pub Reaches : ℕ → List Waiting → Option ℕ → Type 0
Reaches low ws next = (y : Waiting) → IsIn y ws → is_left next y ≡ false → y.number + y.count ≤ low

-- it has a number of one of the spans
abbrev pub touched : List (ℕ × ℕ) → Waiting → Bool
touched spans y = list_any (λ p. touches p.0 p.1 y) spans

-- each that has none of the numbers that an ack tells still waits
abbrev pub OthersWait : ℕ → List (ℕ × ℕ) → ℕ → List Row → List Waiting → Type 0
OthersWait upto spans n rows ws = (y : Waiting) → IsIn y ws →
    touched ((0, upto) ∷ spans) y ≡ false → still_waits n rows y ≡ true
