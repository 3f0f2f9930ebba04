-- The keying of which a session is born, judged by what was done before.
use Rattle.std.specs.Prelude.{ℕ, ◌≡◌, ◌≢◌, ◌<◌, ◌≤◌, ◌^◌, ◌⊎◌, List, length, Some, None, true}
use Rattle.std.specs.List.{list_any}
use Rattle.std.specs.Str.{bytes_eq}
use Rattle.sha2.specs.Sha256.{sha256}
use Rattle.crypto_profile.specs.declared.keys.Context.TheVariants.{Startup}
use Rattle.rtmfp_packet.specs.declared.head.Mode.TheVariants.{Startup as StartupMode}
use Rattle.rtmfp_packet.specs.Whole.{Whole}
use Rattle.rtmfp_packet.specs.Walk.{Placed}
use Rattle.rtmfp_chunks.specs.Chunk.{IIKeying, Spells}
use Rattle.rtmfp_forms.specs.Address.{AddressParts}
use Rattle.cookies.specs.Cookie.{IsAnswer}
use Rattle.cookies.specs.declared.CookieTest.TheVariants.{Current}
use Rattle.identity.specs.Certificates.{IsCertificate}
use Rattle.identity.specs.Order.{Prevails}
use Rattle.glare_core.specs.declared.facts.Held.{Held}
use Rattle.glare_core.specs.Standing.{held, seen, peers_in}
use Rattle.glare_core.specs.Things.{IsAttempt}
use Rattle.endpoint_model.specs.Event.{Setup, own_of}
use Rattle.endpoint_laws.specs.Past.{Past, facts_of, ids_in_use}
use Rattle.endpoint_laws.specs.Contexts.{Secrets, ReadsUnder, OpensFirst, startup_contexts}
use Rattle.endpoint_model.specs.Keying.{IsFirst, IsSigned, chunks_of, initiator_part}

-- what the keying says: its peer, the number and the nonce of the attempt, and the peer's session
-- ID
pub record Offer : Type 0 where
  pub peer : List ℕ
  pub n : ℕ
  pub ni : List ℕ
  pub far : ℕ

-- The datagram opens in a startup context under session ID 0 with the startup mode, its first
-- initiator's keying makes this offer, and what the end has done lets a session be born of it.
pub record Admissible (secrets : Secrets) (setup : Setup) (past : Past) (now : ℕ)
    (from : AddressParts) (datagram : List ℕ) (offer : Offer) : Type 0 where
  -- the chunk
  pub packet : Whole
  pub generation : ℕ
  pub reads : ReadsUnder secrets (Startup generation) 0 datagram packet
  pub opens : OpensFirst secrets (startup_contexts setup past) 0 datagram (Startup generation)
      reads.plain
  pub mode : packet.head.mode ≡ StartupMode
  pub chunk : Placed
  pub first : IsFirst chunk (chunks_of packet)
  pub cookie : List ℕ
  pub cert : List ℕ
  pub sign : List ℕ
  pub spells
      : Spells
      (IIKeying offer.far cookie cert (initiator_part offer.ni offer.n (own_of setup)) sign)
      chunk.kind chunk.payload
  -- the number is what these 8 bytes say
  pub number : offer.n < 2 ^ 64
  pub nonce_size : length offer.ni ≡ 16
  pub far : offer.far ≢ 0
  pub is_cert : IsCertificate cert
  pub peer : offer.peer ≡ sha256 cert
  pub signed : IsSigned reads.opens.secret chunk.payload sign
  pub narrow : length cookie ≤ 128
  pub current : IsAnswer setup.cookie_secret cookie from now Current
  pub other : cert ≢ setup.cert
  -- what the end has stated, and the session IDs in use
  pub above : seen offer.peer (facts_of past) < offer.n
  pub prevails : (thing : Held) → held offer.peer (facts_of past) ≡ Some thing → IsAttempt thing →
      Prevails offer.peer (own_of setup)
  pub row : (list_any (bytes_eq offer.peer) (peers_in (facts_of past)) ≡ true) ⊎
      (length (peers_in (facts_of past)) < setup.config.max_peers)
  pub place : held offer.peer (facts_of past) ≡ None →
      length (ids_in_use past) < setup.config.max_sessions
