-- Where a datagram or a tick can stop that finds no memory.
use Rattle.std.proofs.Common.{◌≡◌, ℕ, ◌<◌, ◌≤◌, List, [], length, take, Option, IsSome, inl, inr, refl, subst, arith}
use Rattle.rtmfp_forms.specs.Address.{AddressParts}
use Rattle.rtmfp_packet.specs.Whole.{Whole}
use Rattle.endpoint_model.specs.declared.config.Draws.{Draws}
use Rattle.endpoint_model.specs.declared.place.Place.{Place}
use Rattle.endpoint_model.specs.declared.entry.Entry.{Entry}
use Rattle.endpoint_model.specs.State.{State, Does, nothing, then_do}
use Rattle.endpoint_model.specs.Admission.{Admission, Admitted, admission, confirming}
use Rattle.endpoint_model.specs.Effects.{Item, WalkStep, walk_of, walked_in_part}
use Rattle.endpoint_model.specs.Event.{Receive, Stopped}
use Rattle.endpoint_model.specs.Log.{Answers, StopsAt, StopsSo}
use Rattle.endpoint_checks.specs.Stops.{NoIdleTickStops, NoneStopsBefore, StopsAreInOrder, StopsTellTheirChunks, after, before}

no_acks_early : (place : Place) (from : AddressParts) (draws : Draws) (s : State) (xs : List WalkStep) (count acks : ℕ) → StopsAt place from draws s xs count acks → count < length xs → acks ≡ 0
no_acks_early place from draws s xs count acks stops less = elim stops [
  | inl early ↦ early.1
  | inr late ↦ absurd (omega (arith, late.0, less))
]

no_more_than_all : (place : Place) (from : AddressParts) (draws : Draws) (s : State) (xs : List WalkStep) (count acks : ℕ) → StopsAt place from draws s xs count acks → count ≤ length xs
no_more_than_all place from draws s xs count acks stops = elim stops [
  | inl early ↦ omega (arith, early.0)
  | inr late ↦ omega (arith, late.0)
]

pub stops_are_in_order : StopsAreInOrder
stops_are_in_order = record { no_acks = no_acks_early; no_more = no_more_than_all }

pub none_stops_before : NoneStopsBefore
none_stops_before s place packet quiet stop = absurd (cc (quiet, stop))

pub no_idle_tick_stops : NoIdleTickStops
no_idle_tick_stops s t draws entries none answers = let some = subst (λ (due : Option Item). IsSome due) none answers.1 in absurd (cc (some))

just_these : (s t u : State) (from : AddressParts) (datagram : List ℕ) (draws : Draws) (place : Place) (packet : Whole) (count : ℕ) (entries : List Entry) → admission s datagram ≡ Admitted u place packet →
    Answers s (Receive from datagram draws) (Stopped (after count)) entries t →
    (count ≤ length (walk_of place from draws (confirming u place).state packet)) × (acks : ℕ) × Does (then_do (confirming u place) (λ v. walked_in_part place from draws v (take count (walk_of place from draws v packet)) acks)) t [] entries
just_these s t u from datagram draws place packet count entries is answered =
    let stops : StopsSo (λ d. Does d t [] entries) s from draws (Admitted u place packet) (after count) =
    subst (λ (a : Admission). StopsSo (λ d. Does d t [] entries) s from draws a (after count)) is answered in
    (no_more_than_all place from draws (confirming u place).state (walk_of place from draws (confirming u place).state packet) count stops.acks (stops.taken refl), stops.acks, stops.left)

none_of_them : (s t : State) (from : AddressParts) (datagram : List ℕ) (draws : Draws) (count : ℕ) (entries : List Entry) → Answers s (Receive from datagram draws) (Stopped (before count)) entries t →
    (count ≡ 0) × Does (nothing s) t [] entries
none_of_them s t from datagram draws count entries stops = ((stops.not_taken refl).1, stops.left)

pub stops_tell_their_chunks : StopsTellTheirChunks
stops_tell_their_chunks = record { taken = just_these; not_taken = none_of_them }
