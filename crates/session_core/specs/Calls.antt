-- Lists of calls on a session, and its values by such a list. Each list has the newest call first.
use Rattle.std.specs.Prelude.{◌≡◌, ℕ, ◌+◌, ◌&&◌, List, [], ◌∷◌, Bool, true, nat_le, if◌then◌else◌, Option, None, Some}
use Rattle.rtmfp_forms.specs.Address.{AddressParts}
use Rattle.rtmfp_packet.specs.declared.head.PacketHead.{PacketHead}
use Rattle.session_core.specs.declared.stage.Stage.{Stage}
use Rattle.session_core.specs.declared.stage.Stage.TheVariants.{Opening, Open, NearClose, FarLinger, Closed}
use Rattle.session_core.specs.declared.stamps.Stamp.{Stamp}
use Rattle.session_core.specs.declared.trips.RoundTrip.{RoundTrip}
use Rattle.session_core.specs.declared.congestion.Congestion.{Congestion}
use Rattle.session_core.specs.Trips.{sample_of, trip_by}
use Rattle.session_core.specs.Congestion.{grown, shrunk}
use Rattle.session_core.specs.Session.{SessionState, confirmed, with_stamps, moved_to}
use Rattle.session_core.specs.Sealed.{after_seal}
use Rattle.session_core.specs.Hearing.{after_heard, counted}
use Rattle.session_core.specs.Closing.{closed_near, asked_to_close, close_answered, first_due, after_due, kept_alive, with_acknowledged, with_loss}

-- a call on a session, of those that change it
pub data Call : Type 0 where
  Hear : (part : List ℕ) → Call
  TakeNumber : (part : List ℕ) → Call
  Seal : Call
  MoveTo : (address : AddressParts) → Call
  Confirm : Call
  TakeStamps : (head : PacketHead) → (moment : ℕ) → Call
  Close : (moment : ℕ) → Call
  TakeCloseRequest : (moment : ℕ) → Call
  TakeCloseAck : Call
  Due : (moment : ℕ) → Call
  Keepalive : (moment : ℕ) → Call
  Acknowledge : (bytes : ℕ) → Call
  Lose : (by_time : Bool) → Call

-- what a call leaves, by the clauses of the calls
abbrev pub after_call : SessionState → Call → SessionState
after_call s (Hear part) = after_heard s part
after_call s (TakeNumber part) = counted s part
after_call s Seal = after_seal s
after_call s (MoveTo address) = moved_to address s
after_call s Confirm = confirmed s
after_call s (TakeStamps head moment) = with_stamps head moment s
after_call s (Close moment) = closed_near moment s
after_call s (TakeCloseRequest moment) = asked_to_close moment s
after_call s TakeCloseAck = close_answered s
after_call s (Due moment) = after_due (first_due s moment) moment s
after_call s (Keepalive moment) = kept_alive moment s
after_call s (Acknowledge bytes) = with_acknowledged bytes s
after_call s (Lose by_time) = with_loss by_time s

abbrev pub after_calls : SessionState → List Call → SessionState
after_calls s [] = s
after_calls s (call ∷ earlier) = after_call (after_calls s earlier) call

-- ---- values that are folds over the list

abbrev pub folded : {A : Type 0} → (Call → A → A) → A → List Call → A
folded step first [] = first
folded step first (call ∷ earlier) = step call (folded step first earlier)

-- the moment of the last datagram taken: only a head that is taken changes it
abbrev pub taken_step : Call → ℕ → ℕ
taken_step (TakeStamps head moment) before = moment
taken_step call before = before

abbrev pub stamp_or : Option Stamp → Option ℕ → ℕ → Option Stamp
stamp_or before None moment = before
stamp_or before (Some value) moment = Some (record { value = value; at = moment })

-- the last timestamp, and its moment
abbrev pub stamp_step : Call → Option Stamp → Option Stamp
stamp_step (TakeStamps head moment) before = stamp_or before head.stamp moment
stamp_step call before = before

-- the round trip by the samples of the echoes taken, the window by what was acknowledged and lost
abbrev pub trip_step : Call → Option RoundTrip → Option RoundTrip
trip_step (TakeStamps head moment) before = trip_by before (sample_of head.echo moment)
trip_step call before = before

abbrev pub window_step : Call → Congestion → Congestion
window_step (Acknowledge bytes) before = grown bytes before
window_step (Lose by_time) before = shrunk by_time before
window_step call before = before

-- the address to which it moved last
abbrev pub address_step : Call → AddressParts → AddressParts
address_step (MoveTo address) before = address
address_step call before = before

-- ---- its course: the stage and the moments by which it changes

pub record Course : Type 0 where
  pub stage : Stage
  pub since : ℕ
  pub taken : ℕ
  pub close_sent : Option ℕ
  pub keepalive : Option ℕ

abbrev pub course_of : SessionState → Course
course_of s = record {
  stage = s.stage;
  since = s.since;
  taken = s.taken;
  close_sent = s.close_sent;
  keepalive = s.keepalive;
}

abbrev pub confirms : Stage → Course → Course
confirms Opening c = record c { stage = Open }
confirms Open c = c
confirms NearClose c = c
confirms FarLinger c = c
confirms Closed c = c

-- a close begins where the session is held
abbrev pub closes : Stage → ℕ → Course → Course
closes Opening moment c = record c { stage = NearClose; since = moment; close_sent = Some moment }
closes Open moment c = record c { stage = NearClose; since = moment; close_sent = Some moment }
closes NearClose moment c = c
closes FarLinger moment c = c
closes Closed moment c = c

-- the peer's close makes it linger, but for what lingers already or is over
abbrev pub lingers : Stage → ℕ → Course → Course
lingers Opening moment c = record c { stage = FarLinger; since = moment }
lingers Open moment c = record c { stage = FarLinger; since = moment }
lingers NearClose moment c = record c { stage = FarLinger; since = moment }
lingers FarLinger moment c = c
lingers Closed moment c = c

abbrev pub is_answered : Stage → Course → Course
is_answered Opening c = c
is_answered Open c = c
is_answered NearClose c = record c { stage = Closed }
is_answered FarLinger c = c
is_answered Closed c = c

-- a moment is at least so many milliseconds after the last of some sendings, or there was none
abbrev pub is_late : ℕ → Option ℕ → ℕ → Bool
is_late span None moment = true
is_late span (Some last) moment = nat_le (last + span) moment

-- What is due: the end of its stage, and of a closing one its close again.
abbrev pub goes_on : Stage → ℕ → Course → Course
goes_on Opening moment c = if nat_le (c.since + 20000) moment then record c { stage = Closed }
    else c
goes_on Open moment c = if nat_le (c.taken + 120000) moment then record c { stage = Closed } else c
goes_on NearClose moment c =
    if nat_le (c.since + 90000) moment then record c { stage = Closed }
    else if is_late 5000 c.close_sent moment then record c { close_sent = Some moment }
    else c
goes_on FarLinger moment c = if nat_le (c.since + 19000) moment then record c { stage = Closed }
    else c
goes_on Closed moment c = c

-- an open session sends a keepalive 10,000 ms after the last datagram taken and the last keepalive
abbrev pub keeps_alive : Stage → ℕ → Course → Course
keeps_alive Opening moment c = c
keeps_alive Open moment c = if nat_le (c.taken + 10000) moment
    && is_late 10000 c.keepalive moment then record c { keepalive = Some moment } else c
keeps_alive NearClose moment c = c
keeps_alive FarLinger moment c = c
keeps_alive Closed moment c = c

-- the table of all calls; those that it leaves out change nothing of the course
abbrev pub course_step : Call → Course → Course
course_step Confirm c = confirms c.stage c
course_step (TakeStamps head moment) c = record c { taken = moment }
course_step (Close moment) c = closes c.stage moment c
course_step (TakeCloseRequest moment) c = lingers c.stage moment c
course_step TakeCloseAck c = is_answered c.stage c
course_step (Due moment) c = goes_on c.stage moment c
course_step (Keepalive moment) c = keeps_alive c.stage moment c
course_step call c = c

-- ---- laws

abbrev pub TakenIsTheLast : Type 0
TakenIsTheLast = (s : SessionState) (calls : List Call) →
    (after_calls s calls).taken ≡ folded taken_step s.taken calls

abbrev pub StampIsTheLast : Type 0
StampIsTheLast = (s : SessionState) (calls : List Call) →
    (after_calls s calls).stamp ≡ folded stamp_step s.stamp calls

abbrev pub TripIsByTheSamples : Type 0
TripIsByTheSamples = (s : SessionState) (calls : List Call) →
    (after_calls s calls).trip ≡ folded trip_step s.trip calls

abbrev pub WindowIsByAcksAndLosses : Type 0
WindowIsByAcksAndLosses = (s : SessionState) (calls : List Call) →
    (after_calls s calls).congestion ≡ folded window_step s.congestion calls

abbrev pub AddressIsTheLast : Type 0
AddressIsTheLast = (s : SessionState) (calls : List Call) →
    (after_calls s calls).address ≡ folded address_step s.address calls

abbrev pub CourseIsByTheTable : Type 0
CourseIsByTheTable = (s : SessionState) (calls : List Call) →
    course_of (after_calls s calls) ≡ folded course_step (course_of s) calls

-- what no call changes: who the ends are, and the keys with the generation of their secret
abbrev pub EndsStay : Type 0
EndsStay = (s : SessionState) (calls : List Call)
    → ((after_calls s calls).joined ≡ s.joined) × ((after_calls s calls).own ≡ s.own) ×
    ((after_calls s calls).role ≡ s.role) × ((after_calls s calls).generation ≡ s.generation) ×
    ((after_calls s calls).inward ≡ s.inward) × ((after_calls s calls).outward ≡ s.outward)
