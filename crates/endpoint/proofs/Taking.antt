-- A datagram is taken or refused as its admission says.
use Rattle.std.proofs.Common.{ℕ, ◌≡◌, ◌<◌, List, drop, take, Bool, true, false, if◌then◌else◌, Option, None, Some, Result, Ok, Err, OnOk, IfErr, IsOk, refl, sym, ap, ◌∙◌, subst, arith}
use Rattle.std.specs.Int.{w64, from_be_bytes}
use Rattle.std.proofs.lemmas.List.{drop-take}
use Rattle.std.specs.FinMap.{get}
use Rattle.crypto_profile.specs.Window.{window_after}
use Rattle.crypto_profile.specs.Sealing.{number_of}
use Rattle.rtmfp_base.proofs.Maps.{get_inserted}
use Rattle.rtmfp_forms.specs.Address.{AddressParts}
use Rattle.rtmfp_packet.specs.declared.head.PacketFault.{PacketFault}
use Rattle.rtmfp_packet.specs.Whole.{Whole}
use Rattle.rtmfp_base.specs.declared.cause.Cause.{Cause}
use Rattle.rtmfp_base.specs.declared.cause.Cause.TheVariants.{Short as ShortCause, BadPacket, WrongPlace}
use Rattle.session_core.specs.Session.{SessionState}
use Rattle.session_core.specs.Hearing.{counted, count_of}
use Rattle.endpoint_model.specs.declared.row.Row.{Row}
use Rattle.endpoint_model.specs.declared.config.Draws.{Draws}
use Rattle.endpoint_model.specs.declared.answers.Stopped.{Stopped}
use Rattle.endpoint_model.specs.declared.place.Place.{Place}
use Rattle.endpoint_model.specs.declared.place.Place.TheVariants.{Startup, Attempt, Session}
use Rattle.endpoint_model.specs.Added.{Added}
use Rattle.endpoint_model.specs.State.{State, Done, nothing, with_session}
use Rattle.endpoint_model.specs.Admission.{Admission, Rejected, Admitted, admission, admitted, admitted_packet, opened_datagram, counted_at, counted_by, timed_at, taken_packet, mode_at, mode_by, has_mode, fault_number, packet_in}
use Rattle.endpoint_model.specs.Effects.{discarded}
use Rattle.endpoint_model.specs.Log.{IsTaken, StopsSo, not_taken}
use Rattle.end_loops.specs.Walks.{packet_at}

-- ---- one admission for another

taken_as : (s : State) (from : AddressParts) (draws : Draws) (a b : Admission) (r : Result (Unit {0}) Stopped) (new : State) (before after : Added) → a ≡ b →
    IsTaken s from draws a r new before after → IsTaken s from draws b r new before after
taken_as s from draws a b r new before after e taken = let P : Admission → Type 0 = λ x. IsTaken s from draws x r new before after in subst P e taken

-- the same of a datagram, in a state that is this one
taken_in : (s t : State) (from : AddressParts) (draws : Draws) (datagram : List ℕ) (r : Result (Unit {0}) Stopped) (new : State) (before after : Added) → t ≡ s →
    IsTaken t from draws (admission t datagram) r new before after → IsTaken s from draws (admission s datagram) r new before after
taken_in s t from draws datagram r new before after is taken =
    let P : State → Type 0 = λ x. IsTaken x from draws (admission x datagram) r new before after in subst P is taken

-- ---- a datagram that is refused

refused_so : (s t : State) (from : AddressParts) (draws : Draws) (cause : Cause) (r : Result (Unit {0}) Stopped) (new : State) (before after : Added) →
    OnOk r (Done (discarded t 0 cause) new before after) → IfErr r (λ stop. (stop ≡ not_taken) × Done (nothing s) new before after) → (0 < before.free → IsOk r) →
    IsTaken s from draws (Rejected t cause) r new before after
refused_so s t from draws cause (Ok done) new before after ok stop enough = record { ok = ok; stop = tt; enough = λ refused room. enough (omega (arith, room)) }
refused_so s t from draws cause (Err halt) new before after ok stop enough =
    let P : Stopped → Type 0 = λ x. StopsSo (λ d. Done d new before after) s from draws (Rejected t cause) x in
    record {
      ok = tt;
      stop = subst P (sym stop.0) (record { acks = 0; taken = λ clash. absurd (cc); not_taken = λ is. (tt, refl); left = stop.1 });
      enough = λ refused room. enough (omega (arith, room));
    }

-- ---- how a packet is taken

mode_still : (s : State) (near : ℕ) (part : List ℕ) (o : Option Row) → get s.sessions near ≡ o → mode_by (get (counted_by s near part o).sessions near) ≡ mode_by o
mode_still s near part None e = ap mode_by e
mode_still s near part (Some row) e = ap mode_by (get_inserted s.sessions near (record row { session = counted row.session part }))

-- counting a datagram doesn't change the mode of its place
mode_counted : (s : State) (place : Place) (part : List ℕ) → mode_at (counted_at s place part) place ≡ mode_at s place
mode_counted s (Startup generation) part = refl
mode_counted s (Attempt near generation) part = refl
mode_counted s (Session near) part = mode_still s near part (get s.sessions near) refl

-- a packet that is taken at its place
read_is : (s : State) (place : Place) (part : List ℕ) (packet : Whole) (read : Result Whole PacketFault) → packet_at s place read ≡ Ok packet →
    taken_packet s place part packet ≡ admitted_packet (counted_at s place part) place read
read_is s place part packet (Err fault) e = absurd (cc)
read_is s place part packet (Ok other) e = by (has_mode other.head (mode_at s place)) refl e
  where
    now : State
    now = counted_at s place part

    by : (b : Bool) → has_mode other.head (mode_at s place) ≡ b → (if b then Ok other else Err WrongPlace) ≡ Ok packet → taken_packet s place part packet ≡ admitted_packet now place (Ok other)
    by false mode is = absurd (cc)
    by true mode is =
        let same : other ≡ packet = cc in
        ap (λ (x : Whole). Admitted (timed_at now place x.head) place x) (sym same)
        ∙ ap (λ (x : Bool). if x then Admitted (timed_at now place other.head) place other else Rejected now WrongPlace) (sym (ap (has_mode other.head) (mode_counted s place part) ∙ mode))

-- and one that isn't
unread_is : (s : State) (place : Place) (part : List ℕ) (cause : Cause) (read : Result Whole PacketFault) → packet_at s place read ≡ Err cause →
    Rejected (counted_at s place part) cause ≡ admitted_packet (counted_at s place part) place read
unread_is s place part cause (Err fault) e = let same : BadPacket (fault_number fault) ≡ cause = cc in ap (Rejected (counted_at s place part)) (sym same)
unread_is s place part cause (Ok other) e = by (has_mode other.head (mode_at s place)) refl e
  where
    now : State
    now = counted_at s place part

    by : (b : Bool) → has_mode other.head (mode_at s place) ≡ b → (if b then Ok other else Err WrongPlace) ≡ Err cause → Rejected now cause ≡ admitted_packet now place (Ok other)
    by true mode is = absurd (cc)
    by false mode is =
        let same : WrongPlace ≡ cause = cc in
        ap (Rejected now) (sym same)
        ∙ ap (λ (x : Bool). if x then Admitted (timed_at now place other.head) place other else Rejected now WrongPlace) (sym (ap (has_mode other.head) (mode_counted s place part) ∙ mode))

-- ---- a whole datagram

opened_is : (s : State) (datagram plain : List ℕ) (place : Place) → opened_datagram s datagram ≡ Ok (place, plain) →
    admitted s datagram (Ok (place, plain)) ≡ admission s datagram
opened_is s datagram plain place e = ap (admitted s datagram) (sym e)

unopened_is : (s : State) (datagram : List ℕ) (cause : Cause) → opened_datagram s datagram ≡ Err cause → Rejected s cause ≡ admission s datagram
unopened_is s datagram cause e = ap (admitted s datagram) (sym e)

-- ---- only the front of a datagram tells its number

number_behind : (d : List ℕ) → number_of (drop 4 d) ≡ drop 16 (drop 4 (take 36 d))
number_behind d = sym (drop-take 16 16 (drop 4 d)) ∙ ap (drop 16) (sym (drop-take 4 32 d))

count_alike : (old new : List ℕ) → take 36 new ≡ take 36 old → count_of (drop 4 new) ≡ count_of (drop 4 old)
count_alike old new front =
    let numbers : number_of (drop 4 new) ≡ number_of (drop 4 old) = number_behind new ∙ ap (λ (xs : List ℕ). drop 16 (drop 4 xs)) front ∙ sym (number_behind old) in
    ap (λ (xs : List ℕ). from_be_bytes w64 (drop 8 xs)) numbers

counted_alike_by : (s : State) (near : ℕ) (a b : List ℕ) (o : Option Row) → count_of a ≡ count_of b → counted_by s near a o ≡ counted_by s near b o
counted_alike_by s near a b None e = refl
counted_alike_by s near a b (Some row) e = let session : SessionState = row.session in ap (λ n. with_session s near row (record session { window = window_after session.window n })) e

counted_alike : (s : State) (place : Place) (a b : List ℕ) → count_of a ≡ count_of b → counted_at s place a ≡ counted_at s place b
counted_alike s (Startup generation) a b e = refl
counted_alike s (Attempt near generation) a b e = refl
counted_alike s (Session near) a b e = counted_alike_by s near a b (get s.sessions near) e

-- ---- an opened datagram

long_by : (b : Bool) (x : Result (Place × List ℕ) Cause) (place : Place) (plain : List ℕ) → (if b then Err ShortCause else x) ≡ Ok (place, plain) → b ≡ false
long_by true x place plain e = cc
long_by false x place plain e = refl

datagram_taken : (s : State) (from : AddressParts) (draws : Draws) (old new : List ℕ) (place : Place) (r : Result (Unit {0}) Stopped) (t : State) (before after : Added) →
    opened_datagram s old ≡ Ok (place, drop 36 new) → take 36 new ≡ take 36 old →
    IsTaken s from draws (admitted_packet (counted_at s place (drop 4 new)) place (packet_in (drop 36 new))) r t before after → IsTaken s from draws (admission s old) r t before after
datagram_taken s from draws old new place r t before after is front taken =
    taken_as s from draws _ _ r t before after
    (ap (λ (u : State). admitted_packet u place (packet_in (drop 36 new))) (counted_alike s place (drop 4 new) (drop 4 old) (count_alike old new front)) ∙ opened_is s old (drop 36 new) place is)
    taken

-- ---- an opened datagram, by the packet in it

-- the part and the plain packet behind the front of a datagram that was opened
pub record IsOpened (s : State) (old new part plain : List ℕ) (place : Place) : Type 0 where
  pub is : opened_datagram s old ≡ Ok (place, drop 36 new)
  pub front : take 36 new ≡ take 36 old
  pub part_is : part ≡ drop 4 new
  pub plain_is : plain ≡ drop 36 new

opened_as : (s : State) (from : AddressParts) (draws : Draws) (old new part plain : List ℕ) (place : Place) (r : Result (Unit {0}) Stopped) (t : State) (before after : Added) → IsOpened s old new part plain place →
    IsTaken s from draws (admitted_packet (counted_at s place part) place (packet_in plain)) r t before after → IsTaken s from draws (admission s old) r t before after
opened_as s from draws old new part plain place r t before after opened taken =
    let P : List ℕ → List ℕ → Type 0 = λ x y. IsTaken s from draws (admitted_packet (counted_at s place x) place (packet_in y)) r t before after in
    datagram_taken s from draws old new place r t before after opened.is opened.front (subst (P (drop 4 new)) opened.plain_is (subst (λ (x : List ℕ). P x plain) opened.part_is taken))

-- in the state in which the moment is noted
module _ (now s : State) (from : AddressParts) (draws : Draws) (old new part plain : List ℕ) (place : Place) (same : s ≡ now) (opened : IsOpened s old new part plain place) where
  pub packet_taken : (packet : Whole) (r : Result (Unit {0}) Stopped) (t : State) (before after : Added) → packet_at s place (packet_in plain) ≡ Ok packet →
      IsTaken s from draws (taken_packet s place part packet) r t before after → IsTaken now from draws (admission now old) r t before after
  packet_taken packet r t before after read taken =
      taken_in now s from draws old r t before after same
      (opened_as s from draws old new part plain place r t before after opened
      (taken_as s from draws _ _ r t before after (read_is s place part packet (packet_in plain) read) taken))

  pub packet_refused : (cause : Cause) (r : Result (Unit {0}) Stopped) (t : State) (before after : Added) → packet_at s place (packet_in plain) ≡ Err cause →
      OnOk r (Done (discarded (counted_at s place part) 0 cause) t before after) → IfErr r (λ stop. (stop ≡ not_taken) × Done (nothing s) t before after) → (0 < before.free → IsOk r) →
      IsTaken now from draws (admission now old) r t before after
  packet_refused cause r t before after read ok stop enough =
      taken_in now s from draws old r t before after same
      (opened_as s from draws old new part plain place r t before after opened
      (taken_as s from draws _ _ r t before after (unread_is s place part cause (packet_in plain) read)
      (refused_so s (counted_at s place part) from draws cause r t before after ok stop enough)))

-- a datagram that wasn't opened
pub unopened_taken : (now s : State) (from : AddressParts) (draws : Draws) (datagram : List ℕ) (cause : Cause) (r : Result (Unit {0}) Stopped) (t : State) (before after : Added) → s ≡ now → opened_datagram s datagram ≡ Err cause →
    OnOk r (Done (discarded s 0 cause) t before after) → IfErr r (λ stop. (stop ≡ not_taken) × Done (nothing s) t before after) → (0 < before.free → IsOk r) →
    IsTaken now from draws (admission now datagram) r t before after
unopened_taken now s from draws datagram cause r t before after same is ok stop enough =
    taken_in now s from draws datagram r t before after same
    (taken_as s from draws _ _ r t before after (unopened_is s datagram cause is) (refused_so s s from draws cause r t before after ok stop enough))
