-- The pending test of a session's address, what a datagram from elsewhere asks for, and what a
-- reply gives.
use Rattle.std.specs.Prelude.{ℕ, ◌+◌, ◌&&◌, nat_lt, not, Bool, false, if◌then◌else◌, List, Option, Some, None}
use Rattle.std.specs.Str.{bytes_eq}
use Rattle.rtmfp_forms.specs.Address.{AddressParts, is_same_place}
use Rattle.mobility.specs.declared.pending.Test.{Test}

-- ---- what a datagram asks for

-- a test of this place is pending that was begun less than 1,000 ms before
abbrev pub is_young : Option Test → AddressParts → ℕ → Bool
is_young None from moment = false
is_young (Some test) from moment = is_same_place test.address from
    && nat_lt moment (test.moment + 1000)

-- the datagram came from another place than the session's, of which no young test is pending
abbrev pub asks : Option Test → AddressParts → AddressParts → ℕ → Bool
asks pending current from moment = not (is_same_place current from)
    && not (is_young pending from moment)

-- the token to ping that place with
abbrev pub token_for : Option Test → AddressParts → AddressParts → List ℕ → ℕ → Option (List ℕ)
token_for pending current from token moment =
    if asks pending current from moment then Some token else None

-- the pending test after that: a later one replaces an earlier one
abbrev pub after_seen : Option Test → AddressParts → AddressParts → List ℕ → ℕ → Option Test
after_seen pending current from token moment =
    if asks pending current from moment
    then Some (record { address = from; token = token; moment = moment })
    else pending

-- ---- what a reply gives

-- the reply came from the place of the pending test, with its token
abbrev pub is_answered : Option Test → AddressParts → List ℕ → Bool
is_answered None from bytes = false
is_answered (Some test) from bytes = is_same_place test.address from && bytes_eq test.token bytes

-- the session's new address
abbrev pub address_for : Option Test → AddressParts → List ℕ → Option AddressParts
address_for pending from bytes = if is_answered pending from bytes then Some from else None

-- the pending test after that: it is over with its reply
abbrev pub after_reply : Option Test → AddressParts → List ℕ → Option Test
after_reply pending from bytes = if is_answered pending from bytes then None else pending
