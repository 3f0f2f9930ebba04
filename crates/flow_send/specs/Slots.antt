-- The messages of a flow in a line, and among them some that wait no more.
use Prim.Native.Nat.{zero, suc}
use Rattle.std.specs.Prelude.{ℕ, ◌≡◌, ◌+◌, ◌<◌, ◌≤◌, ◌==◌, if◌then◌else◌, List, [], ◌∷◌, Option}
use Rattle.std.specs.Prelude.{Some, None, ◌-◌, ◌⊎◌, slice_get}
use Rattle.std.specs.Option.{IsSomeAnd}
use Rattle.flow_send.specs.declared.waiting.Waiting.{Waiting}
use Rattle.flow_send.specs.declared.slots.Slot.{Slot}

-- gone: how many from this one on are known to wait no more; a message that waits tells none
abbrev pub slot_of : Waiting → Slot
slot_of w = record { message = w; gone = 0 }

abbrev pub gone_of : Waiting → ℕ → Slot
gone_of w count = record { message = w; gone = count }

-- those that wait
abbrev pub waiting_in : List Slot → List Waiting
waiting_in [] = []
waiting_in (s ∷ later) = if s.gone == 0 then s.message ∷ waiting_in later else waiting_in later

-- all of them go upward, and no two have a number
abbrev pub InSlots : ℕ → List Slot → Type 0
InSlots low [] = Unit {0}
InSlots low (s ∷ later) = (low ≤ s.message.number) × (0 < s.message.count) ×
    InSlots (s.message.number + s.message.count) later

-- of the first so many, as far as they are there, none waits
abbrev pub GoneFor : ℕ → List Slot → Type 0
GoneFor zero slots = Unit {0}
GoneFor (suc k) [] = Unit {0}
GoneFor (suc k) (s ∷ later) = (0 < s.gone) × GoneFor k later

-- what each tells is so
abbrev pub AllGone : List Slot → Type 0
AllGone [] = Unit {0}
AllGone (s ∷ later) = GoneFor s.gone (s ∷ later) × AllGone later

pub record IsLine (slots : List Slot) : Type 0 where
  pub line : InSlots 0 slots
  pub gone : AllGone slots

-- the last one waits
abbrev pub LastWaits : List Slot → Type 0
LastWaits [] = Unit {0}
LastWaits (s ∷ []) = s.gone ≡ 0
LastWaits (s ∷ t ∷ later) = LastWaits (t ∷ later)

-- the first so many are there and begin below a number
abbrev pub AreBelow : ℕ → ℕ → List Slot → Type 0
AreBelow n zero slots = Unit {0}
AreBelow n (suc i) [] = ⊥
AreBelow n (suc i) (s ∷ later) = (s.message.number < n) × AreBelow n i later

-- from an index on each begins at a number or above it
abbrev pub AreFrom : ℕ → ℕ → List Slot → Type 0
AreFrom n i [] = Unit {0}
AreFrom n zero (s ∷ later) = (n ≤ s.message.number) × AreFrom n zero later
AreFrom n (suc i) (s ∷ later) = AreFrom n i later

-- the index of the first one that does
pub record IsPlace (n i : ℕ) (slots : List Slot) : Type 0 where
  pub below : AreBelow n i slots
  pub from : AreFrom n i slots

abbrev pub number_of : Option Waiting → Option ℕ
number_of None = None
number_of (Some w) = Some w.number

-- the place of a number, where the one before it has none above it, else the index before
abbrev pub IsStart : ℕ → ℕ → ℕ → List Slot → Type 0
IsStart low place at slots = (at ≡ place - 1) ⊎ ((at ≡ place) × (1 ≤ place) ×
    IsSomeAnd (slice_get slots (place - 1)) (λ s. s.message.number + s.message.count ≤ low))
