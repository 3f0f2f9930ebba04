-- The values that only some calls change.
use Rattle.std.proofs.Common.{◌≡◌, ℕ, ◌+◌, Bool, true, false, if◌then◌else◌, Option, Some, None, refl, ◌∙◌}
use Rattle.std.specs.Prelude.{◌||◌}
use Rattle.session_core.specs.declared.stage.Stage.{Stage}
use Rattle.session_core.specs.declared.stage.Stage.TheVariants.{NearClose, FarLinger, Closed}
use Rattle.crypto_profile.specs.Window.{WindowState, window_after}
use Rattle.session_core.specs.Session.{SessionState, confirmed_stage}
use Rattle.session_core.specs.Closing.{first_due, is_held, is_near_close, needs_keepalive}
use Rattle.session_core.specs.Hearing.{opens_in, count_of}
use Rattle.session_core.specs.Sealed.{is_spent}
use Rattle.session_core.specs.Calls.{TakenIsTheLast, StampIsTheLast, TripIsByTheSamples, WindowIsByAcksAndLosses, AddressIsTheLast, EndsStay, taken_step, stamp_step, trip_step, window_step, address_step, Call, Hear, TakeNumber, Seal, MoveTo, Confirm, TakeStamps, Close, TakeCloseRequest, TakeCloseAck, Due, Keepalive, Acknowledge, Lose, after_call}
use Rattle.session_core.specs.Stamps.{stamp_after}
use Rattle.session_core.specs.declared.stamps.Stamp.{Stamp}
use Rattle.session_core.specs.Calls.{stamp_or}
use Rattle.session_core.proofs.Courses.{by_calls, kept_by_calls, unchanged_if, unchanged_due}

-- the value sees neither the course nor the numbers
pub record IsBlind {A : Type 0} (value : SessionState → A) : Type 0 where
  pub stage : (s : SessionState) (stage : Stage) → value (record s { stage = stage }) ≡ value s
  pub since : (s : SessionState) (since : ℕ) → value (record s { since = since }) ≡ value s
  pub close_sent : (s : SessionState) (close_sent : Option ℕ) → value (record s { close_sent = close_sent }) ≡ value s
  pub keepalive : (s : SessionState) (keepalive : Option ℕ) → value (record s { keepalive = keepalive }) ≡ value s
  pub window : (s : SessionState) (window : WindowState) → value (record s { window = window }) ≡ value s
  pub sealed : (s : SessionState) (sealed : ℕ) → value (record s { sealed = sealed }) ≡ value s

-- what such a value owes of a call: nothing of one that may change it
abbrev pub Stays : {A : Type 0} → (SessionState → A) → SessionState → Call → Type 0
Stays value s (MoveTo address) = Unit {0}
Stays value s (TakeStamps head moment) = Unit {0}
Stays value s (Acknowledge bytes) = Unit {0}
Stays value s (Lose by_time) = Unit {0}
Stays value s call = value (after_call s call) ≡ value s

seal_stays : {A : Type 0} (value : SessionState → A) → IsBlind value → (spent : Bool) (s : SessionState) → value (if spent then s else record s { sealed = s.sealed + 1 }) ≡ value s
seal_stays value blind true s = refl
seal_stays value blind false s = blind.sealed s (s.sealed + 1)

pub stays : {A : Type 0} (value : SessionState → A) → IsBlind value → (s : SessionState) (call : Call) → Stays value s call
stays value blind s (Hear part) =
    unchanged_if value (opens_in s part) (record s { window = window_after s.window (count_of part) }) s (blind.window s (window_after s.window (count_of part)))
stays value blind s (TakeNumber part) = blind.window s (window_after s.window (count_of part))
stays value blind s Seal = seal_stays value blind (is_spent s) s
stays value blind s (MoveTo address) = tt
stays value blind s Confirm = blind.stage s (confirmed_stage s.stage)
stays value blind s (TakeStamps head moment) = tt
stays value blind s (Close moment) =
    unchanged_if value (is_held s.stage) (record s { stage = NearClose; since = moment; close_sent = Some moment }) s
    (blind.close_sent (record s { stage = NearClose; since = moment }) (Some moment) ∙ blind.since (record s { stage = NearClose }) moment ∙ blind.stage s NearClose)
stays value blind s (TakeCloseRequest moment) =
    unchanged_if value (is_held s.stage || is_near_close s.stage) (record s { stage = FarLinger; since = moment }) s
    (blind.since (record s { stage = FarLinger }) moment ∙ blind.stage s FarLinger)
stays value blind s TakeCloseAck = unchanged_if value (is_near_close s.stage) (record s { stage = Closed }) s (blind.stage s Closed)
stays value blind s (Due moment) = unchanged_due value s moment (blind.stage s Closed) (blind.close_sent s (Some moment)) (first_due s moment)
stays value blind s (Keepalive moment) = unchanged_if value (needs_keepalive s moment) (record s { keepalive = Some moment }) s (blind.keepalive s (Some moment))
stays value blind s (Acknowledge bytes) = tt
stays value blind s (Lose by_time) = tt

abbrev blind_taken : IsBlind (λ s. s.taken)
blind_taken = record { stage = λ s x. refl; since = λ s x. refl; close_sent = λ s x. refl; keepalive = λ s x. refl; window = λ s x. refl; sealed = λ s x. refl }

taken_once : (s : SessionState) (call : Call) → (after_call s call).taken ≡ taken_step call s.taken
taken_once s (TakeStamps head moment) = refl
taken_once s (MoveTo address) = refl
taken_once s (Acknowledge bytes) = refl
taken_once s (Lose by_time) = refl
taken_once s call = stays (λ (t : SessionState). t.taken) blind_taken s call

pub taken_is_the_last : TakenIsTheLast
taken_is_the_last = by_calls (λ s. s.taken) taken_step taken_once

abbrev blind_stamp : IsBlind (λ s. s.stamp)
blind_stamp = record { stage = λ s x. refl; since = λ s x. refl; close_sent = λ s x. refl; keepalive = λ s x. refl; window = λ s x. refl; sealed = λ s x. refl }

stamp_same : (before : Option Stamp) (value : Option ℕ) (moment : ℕ) → stamp_after before value moment ≡ stamp_or before value moment
stamp_same before None moment = refl
stamp_same before (Some value) moment = refl

stamp_once : (s : SessionState) (call : Call) → (after_call s call).stamp ≡ stamp_step call s.stamp
stamp_once s (TakeStamps head moment) = stamp_same s.stamp head.stamp moment
stamp_once s (MoveTo address) = refl
stamp_once s (Acknowledge bytes) = refl
stamp_once s (Lose by_time) = refl
stamp_once s call = stays (λ (t : SessionState). t.stamp) blind_stamp s call

pub stamp_is_the_last : StampIsTheLast
stamp_is_the_last = by_calls (λ s. s.stamp) stamp_step stamp_once

abbrev blind_trip : IsBlind (λ s. s.trip)
blind_trip = record { stage = λ s x. refl; since = λ s x. refl; close_sent = λ s x. refl; keepalive = λ s x. refl; window = λ s x. refl; sealed = λ s x. refl }

trip_once : (s : SessionState) (call : Call) → (after_call s call).trip ≡ trip_step call s.trip
trip_once s (TakeStamps head moment) = refl
trip_once s (MoveTo address) = refl
trip_once s (Acknowledge bytes) = refl
trip_once s (Lose by_time) = refl
trip_once s call = stays (λ (t : SessionState). t.trip) blind_trip s call

pub trip_is_by_the_samples : TripIsByTheSamples
trip_is_by_the_samples = by_calls (λ s. s.trip) trip_step trip_once

abbrev blind_window : IsBlind (λ s. s.congestion)
blind_window = record { stage = λ s x. refl; since = λ s x. refl; close_sent = λ s x. refl; keepalive = λ s x. refl; window = λ s x. refl; sealed = λ s x. refl }

window_once : (s : SessionState) (call : Call) → (after_call s call).congestion ≡ window_step call s.congestion
window_once s (TakeStamps head moment) = refl
window_once s (MoveTo address) = refl
window_once s (Acknowledge bytes) = refl
window_once s (Lose by_time) = refl
window_once s call = stays (λ (t : SessionState). t.congestion) blind_window s call

pub window_is_by_acks_and_losses : WindowIsByAcksAndLosses
window_is_by_acks_and_losses = by_calls (λ s. s.congestion) window_step window_once

abbrev blind_address : IsBlind (λ s. s.address)
blind_address = record { stage = λ s x. refl; since = λ s x. refl; close_sent = λ s x. refl; keepalive = λ s x. refl; window = λ s x. refl; sealed = λ s x. refl }

address_once : (s : SessionState) (call : Call) → (after_call s call).address ≡ address_step call s.address
address_once s (TakeStamps head moment) = refl
address_once s (MoveTo address) = refl
address_once s (Acknowledge bytes) = refl
address_once s (Lose by_time) = refl
address_once s call = stays (λ (t : SessionState). t.address) blind_address s call

pub address_is_the_last : AddressIsTheLast
address_is_the_last = by_calls (λ s. s.address) address_step address_once

-- ---- what no call changes

joined_once : (s : SessionState) (call : Call) → (after_call s call).joined ≡ s.joined
joined_once s (TakeStamps head moment) = refl
joined_once s (MoveTo address) = refl
joined_once s (Acknowledge bytes) = refl
joined_once s (Lose by_time) = refl
joined_once s call =
    stays (λ (t : SessionState). t.joined)
    (record { stage = λ s x. refl; since = λ s x. refl; close_sent = λ s x. refl; keepalive = λ s x. refl; window = λ s x. refl; sealed = λ s x. refl }) s call

own_once : (s : SessionState) (call : Call) → (after_call s call).own ≡ s.own
own_once s (TakeStamps head moment) = refl
own_once s (MoveTo address) = refl
own_once s (Acknowledge bytes) = refl
own_once s (Lose by_time) = refl
own_once s call =
    stays (λ (t : SessionState). t.own)
    (record { stage = λ s x. refl; since = λ s x. refl; close_sent = λ s x. refl; keepalive = λ s x. refl; window = λ s x. refl; sealed = λ s x. refl }) s call

role_once : (s : SessionState) (call : Call) → (after_call s call).role ≡ s.role
role_once s (TakeStamps head moment) = refl
role_once s (MoveTo address) = refl
role_once s (Acknowledge bytes) = refl
role_once s (Lose by_time) = refl
role_once s call =
    stays (λ (t : SessionState). t.role)
    (record { stage = λ s x. refl; since = λ s x. refl; close_sent = λ s x. refl; keepalive = λ s x. refl; window = λ s x. refl; sealed = λ s x. refl }) s call

generation_once : (s : SessionState) (call : Call) → (after_call s call).generation ≡ s.generation
generation_once s (TakeStamps head moment) = refl
generation_once s (MoveTo address) = refl
generation_once s (Acknowledge bytes) = refl
generation_once s (Lose by_time) = refl
generation_once s call =
    stays (λ (t : SessionState). t.generation)
    (record { stage = λ s x. refl; since = λ s x. refl; close_sent = λ s x. refl; keepalive = λ s x. refl; window = λ s x. refl; sealed = λ s x. refl }) s call

inward_once : (s : SessionState) (call : Call) → (after_call s call).inward ≡ s.inward
inward_once s (TakeStamps head moment) = refl
inward_once s (MoveTo address) = refl
inward_once s (Acknowledge bytes) = refl
inward_once s (Lose by_time) = refl
inward_once s call =
    stays (λ (t : SessionState). t.inward)
    (record { stage = λ s x. refl; since = λ s x. refl; close_sent = λ s x. refl; keepalive = λ s x. refl; window = λ s x. refl; sealed = λ s x. refl }) s call

outward_once : (s : SessionState) (call : Call) → (after_call s call).outward ≡ s.outward
outward_once s (TakeStamps head moment) = refl
outward_once s (MoveTo address) = refl
outward_once s (Acknowledge bytes) = refl
outward_once s (Lose by_time) = refl
outward_once s call =
    stays (λ (t : SessionState). t.outward)
    (record { stage = λ s x. refl; since = λ s x. refl; close_sent = λ s x. refl; keepalive = λ s x. refl; window = λ s x. refl; sealed = λ s x. refl }) s call

pub ends_stay : EndsStay
ends_stay s calls = (
  kept_by_calls (λ (t : SessionState). t.joined) joined_once s calls,
  kept_by_calls (λ (t : SessionState). t.own) own_once s calls,
  kept_by_calls (λ (t : SessionState). t.role) role_once s calls,
  kept_by_calls (λ (t : SessionState). t.generation) generation_once s calls,
  kept_by_calls (λ (t : SessionState). t.inward) inward_once s calls,
  kept_by_calls (λ (t : SessionState). t.outward) outward_once s calls,
)
