-- What is asked of the chunks of a packet.
use Rattle.std.specs.Prelude.{ℕ, List, [], ◌∷◌, drop, length, ◌≡◌, ◌==◌, ◌≤◌, Bool, true, Option, Some, None, Result, Ok, if◌then◌else◌}
use Rattle.std.specs.List.{list_any}
use Rattle.sha2.specs.Sha256.{sha256}
use Rattle.identity.specs.Certificates.{IsCertificate}
use Rattle.glare_core.specs.declared.facts.Joined.{Joined}
use Rattle.rtmfp_packet.specs.Walk.{Placed}
use Rattle.log_packets.specs.declared.fields.Hello.{Hello}
use Rattle.log_packets.specs.declared.fields.InitiatorKeying.{InitiatorKeying}
use Rattle.log_packets.specs.declared.fields.ResponderKeying.{ResponderKeying}
use Rattle.rtmfp_chunks.specs.declared.reading.ChunkFault.{ChunkFault}
use Rattle.rtmfp_chunks.specs.Chunk.{Chunk, IIKeying, RIKeying, RHello, Spells}
use Rattle.endpoint_model.specs.Keying.{IsAmong, IsFirst, IsSigned, responder_part}

-- A question is answered with yes where it is so, and there alone.
pub record Tells (IsSo : Type 0) (it : Bool) : Type 0 where
  pub yes : it ≡ true → IsSo
  pub no : IsSo → it ≡ true

-- One of these chunks is so.
pub record SomeChunk (IsSo : Placed → Type 0) (chunks : List Placed) : Type 0 where
  pub chunk : Placed
  pub among : IsAmong chunk chunks
  pub is : IsSo chunk

-- the first chunk of this type
abbrev pub first_of : ℕ → List Placed → Option Placed
first_of kind [] = None
first_of kind (c ∷ cs) = if c.kind == kind then Some c else first_of kind cs

-- The chunk spells this.
abbrev pub IsChunk : Chunk → Placed → Type 0
IsChunk chunk c = Spells chunk c.kind c.payload

-- An attempt with this peer takes a hello with this cookie and this certificate: the cookie is short
-- enough, and the certificate is the peer's.
pub record IsFrom (peer cookie cert : List ℕ) : Type 0 where
  pub narrow : length cookie ≤ 128
  pub is_cert : IsCertificate cert
  pub peer_is : peer ≡ sha256 cert

-- It is a responder's hello with this tag that such an attempt takes.
pub record IsHelloFrom (tag peer : List ℕ) (c : Placed) : Type 0 where
  pub cookie : List ℕ
  pub cert : List ℕ
  pub spells : Spells (RHello tag cookie cert) c.kind c.payload
  pub from : IsFrom peer cookie cert

-- It is a certificate of this name and this peer.
pub record IsCertOf (name peer cert : List ℕ) : Type 0 where
  pub is_cert : IsCertificate cert
  pub name_is : name ≡ drop 16 cert
  pub peer_is : peer ≡ sha256 cert

-- It is a responder's hello with this tag, and with such a certificate.
pub record IsHelloOf (tag name peer : List ℕ) (c : Placed) : Type 0 where
  pub cookie : List ℕ
  pub cert : List ℕ
  pub spells : Spells (RHello tag cookie cert) c.kind c.payload
  pub of : IsCertOf name peer cert

-- It is a responder's keying with these values, signed under the group's secret.
pub record IsAnswer (secret : List ℕ) (j : Joined) (c : Placed) : Type 0 where
  pub sign : List ℕ
  pub spells : Spells (RIKeying j.far (responder_part j.nr j.k j.peer j.ni) sign) c.kind c.payload
  pub signed : IsSigned secret c.payload sign

-- It is an initiator's keying with this session ID.
pub record IsKeyingWith (near : ℕ) (c : Placed) : Type 0 where
  pub cookie : List ℕ
  pub cert : List ℕ
  pub part : List ℕ
  pub sign : List ℕ
  pub spells : Spells (IIKeying near cookie cert part sign) c.kind c.payload

-- ---- the fields of chunks

-- what a responder's hello says
pub record HelloFields : Type 0 where
  pub tag : List ℕ
  pub cookie : List ℕ
  pub cert : List ℕ

abbrev pub hello_of : Result Chunk ChunkFault → Option HelloFields
hello_of (Ok (RHello tag cookie cert)) =
    Some (record { tag = tag; cookie = cookie; cert = cert })
hello_of read = None

-- what an initiator's keying says
pub record InitiatorFields : Type 0 where
  pub near : ℕ
  pub cookie : List ℕ
  pub cert : List ℕ
  pub part : List ℕ
  pub sign : List ℕ

abbrev pub initiator_of : Result Chunk ChunkFault → Option InitiatorFields
initiator_of (Ok (IIKeying near cookie cert part sign)) =
    Some (record { near = near; cookie = cookie; cert = cert; part = part; sign = sign })
initiator_of read = None

-- what a responder's keying says
pub record ResponderFields : Type 0 where
  pub near : ℕ
  pub part : List ℕ
  pub sign : List ℕ

abbrev pub responder_of : Result Chunk ChunkFault → Option ResponderFields
responder_of (Ok (RIKeying near part sign)) =
    Some (record { near = near; part = part; sign = sign })
responder_of read = None

abbrev pub hello_shown : Hello → HelloFields
hello_shown h = record { tag = h.tag.now; cookie = h.cookie.now; cert = h.cert.now }

abbrev pub initiator_shown : InitiatorKeying → InitiatorFields
initiator_shown k = record {
  near = k.near;
  cookie = k.cookie.now;
  cert = k.cert.now;
  part = k.part.now;
  sign = k.sign.now;
}

abbrev pub responder_shown : ResponderKeying → ResponderFields
responder_shown k = record { near = k.near; part = k.part.now; sign = k.sign.now }

-- The chunk is a responder's hello with these fields, and with no others.
pub record SaysHello (kind : ℕ) (payload : List ℕ) (found : Option HelloFields) : Type 0 where
  pub yes : (h : HelloFields) → found ≡ Some h →
      Spells (RHello h.tag h.cookie h.cert) kind payload
  pub no : (h : HelloFields) → Spells (RHello h.tag h.cookie h.cert) kind payload →
      found ≡ Some h

-- The same of an initiator's keying, and of a responder's.
pub record SaysInitiator (kind : ℕ) (payload : List ℕ) (found : Option InitiatorFields)
    : Type 0 where
  pub yes : (k : InitiatorFields) → found ≡ Some k →
      Spells (IIKeying k.near k.cookie k.cert k.part k.sign) kind payload
  pub no : (k : InitiatorFields) →
      Spells (IIKeying k.near k.cookie k.cert k.part k.sign) kind payload → found ≡ Some k

pub record SaysResponder (kind : ℕ) (payload : List ℕ) (found : Option ResponderFields)
    : Type 0 where
  pub yes : (k : ResponderFields) → found ≡ Some k →
      Spells (RIKeying k.near k.part k.sign) kind payload
  pub no : (k : ResponderFields) → Spells (RIKeying k.near k.part k.sign) kind payload →
      found ≡ Some k

-- ---- what is asked of all

-- They are the session IDs of the initiators' keyings among these chunks.
pub record AreKeyingsOf (chunks : List Placed) (ids : List ℕ) : Type 0 where
  pub there : (near : ℕ) → SomeChunk (IsKeyingWith near) chunks →
      list_any (λ id. id == near) ids ≡ true
  pub is : (near : ℕ) → list_any (λ id. id == near) ids ≡ true →
      SomeChunk (IsKeyingWith near) chunks

-- The first chunk of the type of initiators' keyings has this payload, and spells one with these
-- fields.
pub record IsFirstKeying (chunks : List Placed) (payload : List ℕ) (k : InitiatorFields)
    : Type 0 where
  pub chunk : Placed
  pub first : IsFirst chunk chunks
  pub payload_is : chunk.payload ≡ payload
  pub spells : Spells (IIKeying k.near k.cookie k.cert k.part k.sign) chunk.kind chunk.payload

-- It is this one, if there is one.
pub record IsFirstFound (chunks : List Placed) (found : Option InitiatorKeying) : Type 0 where
  pub yes : (k : InitiatorKeying) → found ≡ Some k →
      IsFirstKeying chunks k.payload.now (initiator_shown k)
  pub no : (payload : List ℕ) (fields : InitiatorFields) → IsFirstKeying chunks payload fields →
      (k : InitiatorKeying) × (found ≡ Some k) × (k.payload.now ≡ payload) ×
      (initiator_shown k ≡ fields)
