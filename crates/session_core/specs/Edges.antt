-- Short names for the values at which the rules' edges are stated.
use Rattle.std.specs.Prelude.{◌≡◌, ℕ, [], false, Option, Some, None}
use Rattle.rtmfp_packet.specs.declared.head.PacketHead.{PacketHead}
use Rattle.session_core.specs.declared.stage.Stage.{Stage}
use Rattle.session_core.specs.declared.stage.Stage.TheVariants.{Opening, Open, NearClose, FarLinger}
use Rattle.session_core.specs.declared.stamps.Stamp.{Stamp}
use Rattle.session_core.specs.declared.trips.RoundTrip.{RoundTrip}
use Rattle.session_core.specs.declared.congestion.Congestion.{Congestion}
use Rattle.crypto_profile.specs.Window.{window_of}
use Rattle.session_core.specs.Stamps.{tick_of, echo_of}
use Rattle.session_core.specs.Session.{SessionState, mode_of}

-- a timestamp of the peer, taken at a moment
abbrev pub stamp : ℕ → ℕ → Option Stamp
stamp value at = Some (record { value = value; at = at })

abbrev pub trip : ℕ → ℕ → RoundTrip
trip srtt var = record { srtt = srtt; var = var }

abbrev pub congestion : ℕ → ℕ → Congestion
congestion window threshold = record { window = window; threshold = threshold }

-- a session, but half-open, closing or lingering since this moment
abbrev pub opening : ℕ → SessionState → SessionState
opening since s = record s { stage = Opening; since = since }

abbrev pub closing : ℕ → ℕ → SessionState → SessionState
closing since close_sent s = record s {
  stage = NearClose;
  since = since;
  close_sent = Some close_sent;
}

abbrev pub lingering : ℕ → SessionState → SessionState
lingering since s = record s { stage = FarLinger; since = since }

-- a session, but open, with these moments of the last datagram and of the last keepalive
abbrev pub open_since : ℕ → Option ℕ → SessionState → SessionState
open_since taken keepalive s = record s { stage = Open; taken = taken; keepalive = keepalive }

abbrev pub at_stage : Stage → SessionState → SessionState
at_stage stage s = record s { stage = stage }

abbrev pub sealed_before : ℕ → SessionState → SessionState
sealed_before count s = record s { sealed = count }

-- a new session, before anything was sent or taken
pub record HasBegun (moment : ℕ) (s : SessionState) : Type 0 where
  pub since : s.since ≡ moment
  pub taken : s.taken ≡ moment
  pub sealed : s.sealed ≡ 0
  pub window : s.window ≡ window_of []
  pub stamp : s.stamp ≡ None
  pub keepalive : s.keepalive ≡ None
  pub close_sent : s.close_sent ≡ None
  pub trip : s.trip ≡ None
  pub congestion : s.congestion ≡ record { window = 4380; threshold = 1048576 }

pub record IsHeadOf (s : SessionState) (moment : ℕ) (head : PacketHead) : Type 0 where
  pub critical : head.critical ≡ false
  pub reverse : head.reverse ≡ false
  pub stamp : head.stamp ≡ Some (tick_of moment)
  pub echo : head.echo ≡ echo_of s.stamp moment
  pub mode : head.mode ≡ mode_of s.role
