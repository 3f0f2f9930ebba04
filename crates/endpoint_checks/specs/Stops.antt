-- Where a datagram or a tick can stop that finds no memory.
use Rattle.std.specs.Prelude.{ℕ, ◌≡◌, ◌<◌, ◌≤◌, true, false, List, [], length, take, None}
use Rattle.rtmfp_forms.specs.Address.{AddressParts}
use Rattle.rtmfp_packet.specs.Whole.{Whole}
use Rattle.endpoint_model.specs.declared.answers.Stopped.{Stopped as Stop}
use Rattle.endpoint_model.specs.declared.config.Draws.{Draws}
use Rattle.endpoint_model.specs.declared.place.Place.{Place}
use Rattle.endpoint_model.specs.declared.entry.Entry.{Entry}
use Rattle.endpoint_model.specs.State.{State, Does, nothing, then_do}
use Rattle.endpoint_model.specs.Admission.{Admitted, admission, confirming, confirms}
use Rattle.endpoint_model.specs.Effects.{first_due, walked_in_part, WalkStep, walk_of}
use Rattle.endpoint_model.specs.Event.{Receive, Tick, OutOfMemory, Stopped}
use Rattle.endpoint_model.specs.Log.{Answers, IsStopBefore, StopsAt}

-- Acks go out behind all chunks alone, so none did where a chunk found no memory; and no more
-- chunks were gone through than there are.
pub record StopsAreInOrder : Type 0 where
  pub no_acks : (place : Place) (from : AddressParts) (draws : Draws) (s : State)
      (xs : List WalkStep) (count acks : ℕ) → StopsAt place from draws s xs count acks
      → count < length xs → acks ≡ 0
  pub no_more : (place : Place) (from : AddressParts) (draws : Draws) (s : State)
      (xs : List WalkStep) (count acks : ℕ) → StopsAt place from draws s xs count acks
      → count ≤ length xs

-- A datagram that opens and confirms no session isn't stopped before it was taken.
abbrev pub NoneStopsBefore : Type 0
NoneStopsBefore = (s : State) (place : Place) (packet : Whole) → confirms s place ≡ false →
    IsStopBefore (Admitted s place packet) → ⊥

-- A tick that did all that was due found memory.
abbrev pub NoIdleTickStops : Type 0
NoIdleTickStops = (s t : State) (draws : Draws) (entries : List Entry) → first_due t ≡ None →
    Answers s (Tick draws) OutOfMemory entries t → ⊥

-- a stop of a datagram that was taken, and of one that wasn't, and of how many chunks it tells
abbrev pub after : ℕ → Stop
after count = record { taken = true; chunks = count }

abbrev pub before : ℕ → Stop
before count = record { taken = false; chunks = count }

-- An answer that tells of a stop tells how many chunks were gone through, of the datagram and of the
-- packets that its pieces completed: what the end did is what these do, with some packets of acks behind them. Where the datagram wasn't
-- taken they are none, and the end did nothing.
pub record StopsTellTheirChunks : Type 0 where
  pub taken : (s t u : State) (from : AddressParts) (datagram : List ℕ) (draws : Draws)
      (place : Place) (packet : Whole) (count : ℕ) (entries : List Entry)
      → admission s datagram ≡ Admitted u place packet
      → Answers s (Receive from datagram draws) (Stopped (after count)) entries t
      → (count ≤ length (walk_of place from draws (confirming u place).state packet))
      × (acks : ℕ) × Does (then_do (confirming u place)
      (λ v. walked_in_part place from draws v (take count (walk_of place from draws v packet)) acks))
      t [] entries
  pub not_taken : (s t : State) (from : AddressParts) (datagram : List ℕ) (draws : Draws)
      (count : ℕ) (entries : List Entry)
      → Answers s (Receive from datagram draws) (Stopped (before count)) entries t
      → (count ≡ 0) × Does (nothing s) t [] entries
