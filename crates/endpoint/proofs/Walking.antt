-- A datagram that was taken: what confirms its session, and then what the steps over its chunks do.
use Rattle.std.proofs.Common.{ℕ, ◌≡◌, List, take, Bool, true, false, if◌then◌else◌, Result, Ok, Err, OnOk, IfErr, sym, ◌∙◌, subst}
use Rattle.rtmfp_forms.specs.Address.{AddressParts}
use Rattle.rtmfp_packet.specs.Walk.{Placed}
use Rattle.rtmfp_packet.specs.Whole.{Whole}
use Rattle.endpoint_model.specs.declared.answers.Stopped.{Stopped}
use Rattle.endpoint_model.specs.declared.config.Draws.{Draws}
use Rattle.endpoint_model.specs.declared.place.Place.{Place}
use Rattle.endpoint_model.specs.Added.{Added}
use Rattle.endpoint_model.specs.State.{State, Done, nothing}
use Rattle.endpoint_model.specs.Admission.{confirming, counted_at, timed_at, taken_packet}
use Rattle.endpoint_model.specs.Keying.{chunks_of}
use Rattle.endpoint_model.specs.Effects.{outset, part_received, received, steps_of, walk_of, walked_and_tested, walked_in_part}
use Rattle.endpoint_model.specs.Log.{StopsAt, StopsSo}
use Rattle.endpoint_model.proofs.Steps.{joined}
use Rattle.end_loops.specs.Walks.{StopsIn}

module _ (s : State) (place : Place) (part : List ℕ) (from : AddressParts) (draws : Draws) (packet : Whole) where
  abbrev entered : State
  entered = timed_at (counted_at s place part) place packet.head

  pub stops_so : (t u : State) (stop : Stopped) (before between after : Added) → Done (confirming entered place) t before between → StopsIn place from draws t (walk_of place from draws t packet) u between after stop →
      StopsSo (λ d. Done d u before after) s from draws (taken_packet s place part packet) stop
  stops_so t u stop before between after enters stops = record {
    acks = stops.acks;
    taken = λ _. subst (λ (x : State). StopsAt place from draws x (walk_of place from draws x packet) stop.chunks stops.acks) enters.state stops.at;
    not_taken = λ clash. let both : true ≡ false = sym stops.taken ∙ clash in absurd (cc);
    left = subst (λ (b : Bool). Done (if b then part_received from draws (taken_packet s place part packet) stop.chunks stops.acks else nothing s) u before after) (sym stops.taken)
        (joined (confirming entered place) (λ x. walked_in_part place from draws x (take stop.chunks (walk_of place from draws x packet)) stops.acks) t u before between after enters stops.left);
  }

  pub received_ok : (r : Result (Unit {0}) Stopped) (cs : List Placed) (t u : State) (before between after : Added) → cs ≡ chunks_of packet → Done (confirming entered place) t before between →
      OnOk r (Done (walked_and_tested place from draws t (steps_of place from draws outset t cs)) u between after) → OnOk r (Done (received from draws (taken_packet s place part packet)) u before after)
  received_ok (Ok done) cs t u before between after are enters goes =
      joined (confirming entered place) (λ x. walked_and_tested place from draws x (walk_of place from draws x packet)) t u before between after enters
      (subst (λ (xs : List Placed). Done (walked_and_tested place from draws t (steps_of place from draws outset t xs)) u between after) are goes)
  received_ok (Err stop) cs t u before between after are enters goes = tt

  pub stops_if : (r : Result (Unit {0}) Stopped) (cs : List Placed) (t u : State) (before between after : Added) → cs ≡ chunks_of packet → Done (confirming entered place) t before between →
      IfErr r (StopsIn place from draws t (steps_of place from draws outset t cs) u between after) → IfErr r (StopsSo (λ d. Done d u before after) s from draws (taken_packet s place part packet))
  stops_if (Ok done) cs t u before between after are enters stops = tt
  stops_if (Err stop) cs t u before between after are enters stops =
      stops_so t u stop before between after enters (subst (λ (xs : List Placed). StopsIn place from draws t (steps_of place from draws outset t xs) u between after stop) are stops)
