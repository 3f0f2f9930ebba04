-- Datagrams that come in a session, as the checks speak of them.
use Rattle.std.specs.Prelude.{ℕ, ◌≡◌, ◌≢◌, ◌+◌, ◌<◌, ◌≤◌, List, [], ◌∷◌, length, true, false}
use Rattle.crypto_profile.specs.declared.keys.Context.{Context}
use Rattle.packet_scramble.specs.Datagram.{sid_of}
use Rattle.rtmfp_forms.specs.Address.{AddressParts}
use Rattle.rtmfp_packet.specs.declared.head.Mode.TheVariants.{Initiator as FromInitiator}
use Rattle.rtmfp_packet.specs.Whole.{Whole}
use Rattle.rtmfp_packet.specs.Walk.{Placed}
use Rattle.rtmfp_chunks.specs.Chunk.{Chunk, Spells}
use Rattle.glare_core.specs.declared.facts.Joined.{Joined}
use Rattle.glare_core.specs.Tells.{as_responder}
use Rattle.endpoint_model.specs.declared.config.Draws.{Draws}
use Rattle.endpoint_model.specs.Event.{Setup, own_of, Receive, Answer, Done, Stopped, Event}
use Rattle.endpoint_model.specs.Keying.{IsAmong, chunks_of}
use Rattle.endpoint_laws.specs.Contexts.{Secrets, session_context, OpensUnder, ReadsUnder}
use Rattle.endpoint_laws.specs.Taken.{count_in}
use Rattle.endpoint_checks.specs.Logs.{doing}

-- the context in which an end takes datagrams in a session that was born there in this generation
abbrev pub context_here : Setup → ℕ → Joined → Context
context_here setup generation j = session_context generation (as_responder (own_of setup) j) true

-- The datagram is a packet of the session's initiator in that context, and its count isn't 0.
pub record ComesIn (secrets : Secrets) (setup : Setup) (generation : ℕ) (j : Joined)
    (sent : List ℕ) : Type 0 where
  pub packet : Whole
  pub reads : ReadsUnder secrets (context_here setup generation j) j.near sent packet
  pub mode : packet.head.mode ≡ FromInitiator
  pub counted : count_in sent ≢ 0

-- Among its chunks is this one.
pub record Brings (secrets : Secrets) (setup : Setup) (generation : ℕ) (j : Joined)
    (sent : List ℕ) (chunk : Chunk) : Type 0 where
  pub comes : ComesIn secrets setup generation j sent
  pub placed : Placed
  pub among : IsAmong placed (chunks_of comes.packet)
  pub spells : Spells chunk placed.kind placed.payload

-- What asks that the session takes the datagram of a call, and that it has this chunk, is refused
-- of each datagram for which that isn't so, where calls stood before this one, and it answered so:
-- the session was born in the first generation of its end.
pub record UntakenRefused (secrets : Secrets) (setup : Setup) (from : AddressParts) (sent : List ℕ)
    (draws : Draws) (j : Joined) (chunk : Chunk) (IsRefusedOf : List Event → Answer → Type 0)
    : Type 0 where
  -- it is too short to open, goes under another session ID, or doesn't open in the context
  pub short : length sent < 36 → IsRefusedOf [] Done
  pub under_another : sid_of sent ≢ j.near → IsRefusedOf [] Done
  pub unopened : ((plain : List ℕ) →
      OpensUnder secrets (context_here setup setup.generation j) j.near sent plain → ⊥) →
      IsRefusedOf [] Done
  -- it is a packet of another mode, or has no such chunk
  pub other_mode : (packet : Whole) →
      ReadsUnder secrets (context_here setup setup.generation j) j.near sent packet →
      packet.head.mode ≢ FromInitiator → IsRefusedOf [] Done
  pub no_chunk : (packet : Whole) →
      ReadsUnder secrets (context_here setup setup.generation j) j.near sent packet →
      ((placed : Placed) → IsAmong placed (chunks_of packet) →
      Spells chunk placed.kind placed.payload → ⊥) → IsRefusedOf [] Done
  -- its count is 0, that of a datagram that came before, or 1,024 below it
  pub zero : count_in sent ≡ 0 → IsRefusedOf [] Done
  pub again : (first plain : List ℕ) →
      OpensUnder secrets (context_here setup setup.generation j) j.near first plain →
      count_in first ≡ count_in sent → IsRefusedOf (doing 0 (Receive from first draws) [] ∷ []) Done
  pub old : (first plain : List ℕ) →
      OpensUnder secrets (context_here setup setup.generation j) j.near first plain →
      count_in sent + 1024 ≤ count_in first →
      IsRefusedOf (doing 0 (Receive from first draws) [] ∷ []) Done
  -- the call found no memory before it took it
  pub not_taken : (chunks : ℕ) →
      IsRefusedOf [] (Stopped (record { taken = false; chunks = chunks }))
