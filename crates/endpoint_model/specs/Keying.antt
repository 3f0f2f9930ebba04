-- The chunks that open a session, as the table of lawful logs speaks of them.
use Rattle.std.specs.Prelude.{◌<◌, ◌^◌, length, ℕ, ◌≡◌, ◌≢◌, ◌⊎◌, List, [], ◌∷◌, ◌++◌}
use Rattle.std.specs.List.{AllByRecursion}
use Rattle.std.specs.Int.{w64, to_be_bytes}
use Rattle.crypto_profile.specs.Hmac.{hmac}
use Rattle.crypto_profile.specs.Keys.{sign_key_of}
use Rattle.rtmfp_chunks.specs.Chunk.{IIKeying, RIKeying, Spells}
use Rattle.rtmfp_packet.specs.Walk.{Placed, all_placed_from, visible}
use Rattle.rtmfp_packet.specs.Whole.{Whole}

-- the chunks of a packet, with their places, but for those that are passed over
abbrev pub chunks_of : Whole → List Placed
chunks_of packet = visible (all_placed_from packet.start packet.chunks)

-- The places of the chunks, and how many there are, are numbers of 32 bits.
pub record AreNear (packet : Whole) : Type 0 where
  pub places : AllByRecursion (λ c. c.at < 2 ^ 32) (chunks_of packet)
  pub few : length (chunks_of packet) < 2 ^ 32

-- the initiator's component: its nonce, the number of its attempt, and the responder's fingerprint
abbrev pub initiator_part : List ℕ → ℕ → List ℕ → List ℕ
initiator_part ni n responder = ni ++ to_be_bytes w64 n ++ responder

-- the responder's component: its nonce, the count of its attempts, its fingerprint, and the
-- initiator's nonce
abbrev pub responder_part : List ℕ → ℕ → List ℕ → List ℕ → List ℕ
responder_part nr k responder ni = nr ++ to_be_bytes w64 k ++ responder ++ ni

-- The payload ends with this signature of what stands before it.
pub record IsSigned (secret payload sign : List ℕ) : Type 0 where
  pub before : List ℕ
  pub whole : payload ≡ before ++ sign
  pub signature : sign ≡ hmac (sign_key_of secret) before

-- The chunk is the first of its type.
abbrev pub IsFirst : Placed → List Placed → Type 0
IsFirst chunk [] = ⊥
IsFirst chunk (c ∷ cs) = (chunk ≡ c) ⊎ ((c.kind ≢ chunk.kind) × IsFirst chunk cs)

abbrev pub IsAmong : Placed → List Placed → Type 0
IsAmong chunk [] = ⊥
IsAmong chunk (c ∷ cs) = (chunk ≡ c) ⊎ IsAmong chunk cs

-- each chunk that is an initiator's keying, and that is a responder's, has this
pub record KeyingsAre (OfInitiator : (near : ℕ) → (cookie cert part sign : List ℕ) →
    Type 0) (OfResponder : (near : ℕ) → (part sign : List ℕ) →
    Type 0) (packet : Whole) : Type 0 where
  pub initiators : (c : Placed) (near : ℕ) (cookie cert part sign : List ℕ) →
      IsAmong c (chunks_of packet) → Spells (IIKeying near cookie cert part sign) c.kind c.payload →
      OfInitiator near cookie cert part sign
  pub responders : (c : Placed) (near : ℕ) (part sign : List ℕ) → IsAmong c (chunks_of packet) →
      Spells (RIKeying near part sign) c.kind c.payload → OfResponder near part sign
