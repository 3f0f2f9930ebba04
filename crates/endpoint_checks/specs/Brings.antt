-- Datagrams with keyings and hellos, as the checks speak of them.
use Rattle.std.specs.Prelude.{ℕ, ◌≡◌, List, [], ◌∷◌, ◌++◌}
use Rattle.crypto_profile.specs.declared.keys.Context.TheVariants.{Startup}
use Rattle.rtmfp_packet.specs.Whole.{Whole}
use Rattle.rtmfp_packet.specs.Walk.{Placed}
use Rattle.rtmfp_chunks.specs.Chunk.{RHello, IIKeying, RIKeying, Spells}
use Rattle.endpoint_laws.specs.Contexts.{Secrets, ReadsUnder}
use Rattle.endpoint_model.specs.Keying.{IsFirst, chunks_of}

-- what an initiator's keying says; the signature ends its payload
pub record Keying : Type 0 where
  pub near : ℕ
  pub cookie : List ℕ
  pub cert : List ℕ
  pub part : List ℕ
  pub before : List ℕ
  pub sign : List ℕ

-- The datagram opens in the startup context of this generation under session ID 0, and its first
-- initiator's keying says this.
pub record BringsKeying (secrets : Secrets) (generation : ℕ) (sent : List ℕ) (k : Keying)
    : Type 0 where
  pub packet : Whole
  pub reads : ReadsUnder secrets (Startup generation) 0 sent packet
  pub chunk : Placed
  pub first : IsFirst chunk (chunks_of packet)
  pub spells : Spells (IIKeying k.near k.cookie k.cert k.part k.sign) chunk.kind chunk.payload
  pub payload : chunk.payload ≡ k.before ++ k.sign

-- what a responder's keying says
pub record Answer : Type 0 where
  pub near : ℕ
  pub part : List ℕ
  pub before : List ℕ
  pub sign : List ℕ

-- The datagram opens in the startup context of this generation under this session ID, and a
-- responder's keying that says this is its only chunk.
pub record BringsAnswer (secrets : Secrets) (generation sid : ℕ) (sent : List ℕ) (a : Answer)
    : Type 0 where
  pub packet : Whole
  pub reads : ReadsUnder secrets (Startup generation) sid sent packet
  pub chunk : Placed
  pub only : chunks_of packet ≡ chunk ∷ []
  pub spells : Spells (RIKeying a.near a.part a.sign) chunk.kind chunk.payload
  pub payload : chunk.payload ≡ a.before ++ a.sign

-- what a responder's hello says
pub record Hello : Type 0 where
  pub tag : List ℕ
  pub cookie : List ℕ
  pub cert : List ℕ

-- The datagram opens in the startup context of this generation under session ID 0, and a
-- responder's hello that says this is its only chunk.
pub record BringsHello (secrets : Secrets) (generation : ℕ) (sent : List ℕ) (hello : Hello)
    : Type 0 where
  pub packet : Whole
  pub reads : ReadsUnder secrets (Startup generation) 0 sent packet
  pub chunk : Placed
  pub only : chunks_of packet ≡ chunk ∷ []
  pub spells : Spells (RHello hello.tag hello.cookie hello.cert) chunk.kind chunk.payload
