-- What an end keeps of a session, and what a call changes of it.
use Rattle.std.specs.Prelude.{◌≡◌, ℕ, List, [], Bool, true, false, not, Option, None, Some}
use Rattle.rtmfp_forms.specs.Address.{AddressParts}
use Rattle.rtmfp_packet.specs.declared.head.PacketHead.{PacketHead}
use Rattle.rtmfp_packet.specs.declared.head.Mode.{Mode}
use Rattle.rtmfp_packet.specs.declared.head.Mode.TheVariants.{Initiator as FromInitiator, Responder as FromResponder}
use Rattle.crypto_profile.specs.declared.keys.Context.{Context}
use Rattle.crypto_profile.specs.declared.keys.Context.TheVariants.{Session as SessionContext}
use Rattle.crypto_profile.specs.Keys.{Keys, keys_of}
use Rattle.crypto_profile.specs.Window.{WindowState, window_of}
use Rattle.glare_core.specs.declared.facts.Joined.{Joined}
use Rattle.session_core.specs.declared.stage.Role.{Role}
use Rattle.session_core.specs.declared.stage.Role.TheVariants.{Initiator, Responder}
use Rattle.session_core.specs.declared.stage.Stage.{Stage}
use Rattle.session_core.specs.declared.stage.Stage.TheVariants.{Opening, Open, NearClose, FarLinger, Closed}
use Rattle.session_core.specs.declared.stamps.Stamp.{Stamp}
use Rattle.session_core.specs.declared.trips.RoundTrip.{RoundTrip}
use Rattle.session_core.specs.declared.congestion.Congestion.{Congestion}
use Rattle.session_core.specs.Congestion.{first_congestion}
use Rattle.session_core.specs.Trips.{trip_after}
use Rattle.session_core.specs.Stamps.{tick_of, echo_of, stamp_after}

pub record SessionState : Type 0 where
  pub joined : Joined
  -- the own fingerprint
  pub own : List ℕ
  pub role : Role
  -- the generation of the group secret that it was begun under
  pub generation : ℕ
  -- the keys of packets towards this end, and of those away from it
  pub inward : Keys
  pub outward : Keys
  -- where datagrams of the session are sent
  pub address : AddressParts
  pub stage : Stage
  -- the moment of the birth or opening, and once it is closing that of its closing or lingering
  pub since : ℕ
  -- the window of the numbers taken
  pub window : WindowState
  -- how many packets were sealed
  pub sealed : ℕ
  -- the last timestamp of the peer
  pub stamp : Option Stamp
  -- the moment of the last datagram taken
  pub taken : ℕ
  -- the moments of the last keepalive and of the last close, where one was sent
  pub keepalive : Option ℕ
  pub close_sent : Option ℕ
  -- the times of round trips, once there was a sample
  pub trip : Option RoundTrip
  pub congestion : Congestion

-- ---- the contexts

-- the context of packets of a generation, away from an end of this role or towards it: both ends
-- name the initiator's values first
abbrev pub context_between : ℕ → Joined → List ℕ → Role → Bool → Context
context_between generation j own Initiator outward =
    SessionContext generation j.ni j.nr own j.peer j.near j.far outward
context_between generation j own Responder outward =
    SessionContext generation j.ni j.nr j.peer own j.far j.near (not outward)

abbrev pub context_of : SessionState → Bool → Context
context_of s outward = context_between s.generation s.joined s.own s.role outward

-- the keys of both directions are those of this group secret in their contexts
pub record IsKeyed (secret : List ℕ) (s : SessionState) : Type 0 where
  pub towards : s.inward ≡ keys_of secret (context_of s false)
  pub away : s.outward ≡ keys_of secret (context_of s true)

-- ---- a new session

-- A session of the peer's attempt is half-open at first. That of the own attempt is open.
abbrev pub first_stage : Role → Stage
first_stage Initiator = Open
first_stage Responder = Opening

-- begun with the peer at an address, under the group's secret of a generation, of which it keeps
-- its keys alone
abbrev pub new_session : Joined → List ℕ → Role → AddressParts → ℕ → List ℕ → ℕ → SessionState
new_session joined own role address generation secret begun = record {
  joined = joined;
  own = own;
  role = role;
  generation = generation;
  inward = keys_of secret (context_between generation joined own role false);
  outward = keys_of secret (context_between generation joined own role true);
  address = address;
  stage = first_stage role;
  since = begun;
  window = window_of [];
  sealed = 0;
  stamp = None;
  taken = begun;
  keepalive = None;
  close_sent = None;
  trip = None;
  congestion = first_congestion;
}

-- ---- confirming

abbrev pub is_opening : Stage → Bool
is_opening Opening = true
is_opening Open = false
is_opening NearClose = false
is_opening FarLinger = false
is_opening Closed = false

abbrev pub confirmed_stage : Stage → Stage
confirmed_stage Opening = Open
confirmed_stage Open = Open
confirmed_stage NearClose = NearClose
confirmed_stage FarLinger = FarLinger
confirmed_stage Closed = Closed

-- a half-open session is open once it is confirmed
abbrev pub confirmed : SessionState → SessionState
confirmed s = record s { stage = confirmed_stage s.stage }

-- ---- heads and stamps

abbrev pub mode_of : Role → Mode
mode_of Initiator = FromInitiator
mode_of Responder = FromResponder

-- the head of a packet that is sent at a moment
abbrev pub head_at : SessionState → ℕ → PacketHead
head_at s moment = record {
  critical = false;
  reverse = false;
  stamp = Some (tick_of moment);
  echo = echo_of s.stamp moment;
  mode = mode_of s.role;
}

-- A datagram with this head was taken at a moment: its timestamp is kept, and its echo times a
-- round trip.
abbrev pub with_stamps : PacketHead → ℕ → SessionState → SessionState
with_stamps head moment s = record s {
  stamp = stamp_after s.stamp head.stamp moment;
  taken = moment;
  trip = trip_after s.trip head.echo moment;
}

-- ---- the address

abbrev pub moved_to : AddressParts → SessionState → SessionState
moved_to address s = record s { address = address }
