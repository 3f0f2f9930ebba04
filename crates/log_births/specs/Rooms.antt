-- Whether a session is born by what is held with its peer and what is kept of its end.
use Rattle.std.specs.Prelude.{ℕ, List, nat_lt, Bool, true, false, ◌&&◌, ◌||◌, Option, Some, None, is_some}
use Rattle.std.specs.FinMap.{contains_key, len}
use Rattle.std.specs.Str.{bytes_eq}
use Rattle.identity.specs.Order.{is_above}
use Rattle.glare_core.specs.declared.facts.Held.{Held}
use Rattle.glare_core.specs.declared.facts.Held.TheVariants.{Opening, HalfOpen, KeptAsResponder, KeptAsInitiator}
use Rattle.glare_core.specs.Ledger.{row_in}
use Rattle.log_digest.specs.Kept.{Digested}
use Rattle.log_births.specs.declared.party.Party.{Party}
use Rattle.log_births.specs.declared.party.Way.{Way}

-- whether what is held with a peer lets a session be born at an end with this fingerprint
abbrev pub yields : List ℕ → List ℕ → Option Held → Bool
yields peer own None = true
yields peer own (Some (Opening n near ni)) = is_above peer own
yields peer own (Some (HalfOpen j)) = true
yields peer own (Some (KeptAsResponder j)) = true
yields peer own (Some (KeptAsInitiator j)) = true

-- whether there is room for one of which there are so many, and at most so many
abbrev pub has_room : Bool → ℕ → ℕ → Bool
has_room there count most = there || nat_lt count most

-- whether a number of an attempt is above the greatest one seen of its peer
abbrev pub is_new : ℕ → ℕ → Bool
is_new seen n = nat_lt seen n

-- whether the peer is known, or there is room for one more
abbrev pub has_row : Party → Digested → List ℕ → Bool
has_row p d peer = has_room (contains_key d.roll.rows peer) (len d.roll.rows) p.max_peers

-- whether one is born with this peer where this is held with it, and so many session IDs are in use
abbrev pub takes : Party → List ℕ → Option Held → ℕ → Bool
takes p peer thing uses =
    yields peer p.own.now thing && has_room (is_some thing) uses p.max_sessions

-- the same before the end that made way, where one with this peer did
abbrev pub takes_after : Party → List ℕ → Option Way → Bool
takes_after p peer None = false
takes_after p peer (Some way) =
    bytes_eq way.peer peer && takes p peer (Some way.thing) way.uses

-- whether one is born of the attempt with this number
abbrev pub may_bear : Party → Digested → Option Way → List ℕ → ℕ → Bool
may_bear p d way peer n = is_new (row_in d.roll.rows peer).floor n && (has_row p d peer &&
    (takes p peer (row_in d.roll.rows peer).held (len d.spots) || takes_after p peer way))
