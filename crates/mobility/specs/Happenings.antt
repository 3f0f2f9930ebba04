-- The datagrams and replies of a session in their order, and what is said of all of them.
use Rattle.std.specs.Prelude.{◌≡◌, ℕ, List, [], ◌∷◌, true, Contains, Option, Some, None}
use Rattle.rtmfp_forms.specs.Address.{AddressParts, SamePlace}
use Rattle.mobility.specs.declared.pending.Test.{Test}
use Rattle.mobility.specs.Tests.{asks, after_seen, after_reply, address_for}

pub data Happening : Type 0 where
  Seen : (current from : AddressParts) → (token : List ℕ) → (moment : ℕ) → Happening
  Replied : (from : AddressParts) → (bytes : List ℕ) → Happening

-- the pending test after these, the newest of which stands first
abbrev pub pending_after : List Happening → Option Test
pending_after [] = None
pending_after (Seen current from token moment ∷ before) =
    after_seen (pending_after before) current from token moment
pending_after (Replied from bytes ∷ before) = after_reply (pending_after before) from bytes

-- A datagram came from this place while the session's address was another one, and these bytes were
-- the token.
pub record WasPinged (happened : List Happening) (place : AddressParts) (bytes : List ℕ)
    : Type 0 where
  pub current : AddressParts
  pub from : AddressParts
  pub moment : ℕ
  pub happened_then : Contains happened (Seen current from bytes moment)
  pub is_there : SamePlace from place
  pub is_new : SamePlace current from → ⊥

-- A reply gives no address but that of a place that was pinged with these bytes.
abbrev pub MovesOnReplyAlone : Type 0
MovesOnReplyAlone = (happened : List Happening) (from address : AddressParts) (bytes : List ℕ)
    → address_for (pending_after happened) from bytes ≡ Some address
    → (address ≡ from) × WasPinged happened from bytes

-- A place that is pinged gives the session's new address where its reply has the token, until
-- another place is pinged.
abbrev pub MovesOnItsReply : Type 0
MovesOnItsReply = (pending : Option Test) (current from place : AddressParts) (token : List ℕ)
    (moment : ℕ)
    → asks pending current from moment ≡ true → SamePlace from place
    → address_for (after_seen pending current from token moment) place token ≡ Some place

-- No reply gives an address twice.
abbrev pub IsOverWithItsReply : Type 0
IsOverWithItsReply = (pending : Option Test) (from address : AddressParts) (bytes : List ℕ)
    → address_for pending from bytes ≡ Some address
    → (place : AddressParts) (again : List ℕ)
    → address_for (after_reply pending from bytes) place again ≡ None
