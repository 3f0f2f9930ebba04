-- The packet of a datagram, and how far its chunks are gone through.
use Rattle.std.specs.Prelude.{ℕ, ◌≡◌, ◌<◌, true, if◌then◌else◌, List, [], length, take, Result, Ok, Err}
use Rattle.rtmfp_forms.specs.Address.{AddressParts}
use Rattle.rtmfp_packet.specs.declared.head.PacketFault.{PacketFault}
use Rattle.rtmfp_packet.specs.Walk.{Placed}
use Rattle.rtmfp_packet.specs.Whole.{Whole}
use Rattle.rtmfp_base.specs.declared.cause.Cause.{Cause}
use Rattle.rtmfp_base.specs.declared.cause.Cause.TheVariants.{BadPacket, WrongPlace}
use Rattle.endpoint_model.specs.declared.config.Draws.{Draws}
use Rattle.endpoint_model.specs.declared.place.Place.{Place}
use Rattle.endpoint_model.specs.declared.answers.Stopped.{Stopped as Stop}
use Rattle.endpoint_model.specs.Added.{Added}
use Rattle.endpoint_model.specs.Admission.{fault_number, has_mode, mode_at}
use Rattle.endpoint_model.specs.Keying.{chunks_of}
use Rattle.endpoint_model.specs.State.{State, Done}
use Rattle.endpoint_model.specs.FlowChunks.{acked, owes_at}
use Rattle.endpoint_model.specs.Effects.{WalkStep, in_order, inset, steps_did, walked_in_part}
use Rattle.endpoint_model.specs.Log.{StopsAt}

-- a plain packet that came at a place, by how it reads, or why it is refused
abbrev pub packet_at : State → Place → Result Whole PacketFault → Result Whole Cause
packet_at s place (Err fault) = Err (BadPacket (fault_number fault))
packet_at s place (Ok packet) =
    if has_mode packet.head (mode_at s place) then Ok packet else Err WrongPlace

-- the chunks of a packet that isn't refused
abbrev pub taken_chunks : Result Whole Cause → List Placed
taken_chunks (Err cause) = []
taken_chunks (Ok packet) = chunks_of packet

-- those of a packet that was gathered at a place, by how it reads
abbrev pub gathered_steps : State → Place → Result Whole PacketFault → List WalkStep
gathered_steps s place read = in_order inset (taken_chunks (packet_at s place read))

-- ---- how many steps were taken

-- All of them were.
pub record TakesAll (place : Place) (from : AddressParts) (draws : Draws) (s : State)
    (xs : List WalkStep) (new : State) (before after : Added) (count : ℕ) : Type 0 where
  pub all : count ≡ length xs
  pub done : Done (steps_did place from draws s xs) new before after

-- So many were, and no memory was found for the next one.
pub record TakesSome (place : Place) (from : AddressParts) (draws : Draws) (s : State)
    (xs : List WalkStep) (new : State) (before after : Added) (count : ℕ) : Type 0 where
  pub some : count < length xs
  pub done : Done (steps_did place from draws s (take count xs)) new before after

-- ---- where a datagram stops

-- So many packets of acks were sent, and for the next one, which is owed, no memory was found.
pub record StopsOwing (place : Place) (s new : State) (before after : Added) : Type 0 where
  pub acks : ℕ
  pub done : Done (acked acks s place) new before after
  pub owes : owes_at new place ≡ true

-- what a call answers that found no memory behind so many chunks
abbrev pub taken_upto : ℕ → Stop
taken_upto chunks = record { taken = true; chunks = chunks }

-- A datagram with these steps stopped where it may, and what comes before was done.
pub record StopsIn (place : Place) (from : AddressParts) (draws : Draws) (s : State)
    (xs : List WalkStep) (new : State) (before after : Added) (stop : Stop) : Type 0 where
  pub acks : ℕ
  pub taken : stop.taken ≡ true
  pub at : StopsAt place from draws s xs stop.chunks acks
  pub left : Done (walked_in_part place from draws s (take stop.chunks xs) acks) new before after
