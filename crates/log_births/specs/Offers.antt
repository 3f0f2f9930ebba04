-- What a datagram offers to an end.
use Rattle.std.specs.Prelude.{ℕ, List, length, ◌≡◌, ◌≢◌, ◌≤◌, ◌==◌, Bool, true, false, not, ◌&&◌, Option, Some, None}
use Rattle.std.specs.Str.{bytes_eq}
use Rattle.sha2.specs.Sha256.{sha256}
use Rattle.rtmfp_forms.specs.Address.{AddressParts}
use Rattle.rtmfp_packet.specs.declared.head.Mode.{Mode}
use Rattle.rtmfp_packet.specs.declared.head.Mode.TheVariants.{Initiator, Responder, Startup as StartupMode}
use Rattle.rtmfp_packet.specs.Whole.{Whole}
use Rattle.rtmfp_chunks.specs.Chunk.{IIKeying, Spells}
use Rattle.cookies.specs.Cookie.{IsAnswer}
use Rattle.cookies.specs.declared.CookieTest.TheVariants.{Current}
use Rattle.identity.specs.Certificates.{IsCertificate}
use Rattle.glare_core.specs.declared.facts.Joined.{Joined}
use Rattle.endpoint_model.specs.declared.config.Draws.{Draws}
use Rattle.endpoint_model.specs.Event.{Setup, ReceiveCall}
use Rattle.endpoint_model.specs.Keying.{IsSigned, chunks_of, initiator_part}
use Rattle.endpoint_laws.specs.Past.{Past}
use Rattle.endpoint_laws.specs.Contexts.{Secrets}
use Rattle.endpoint_laws.specs.Admissible.{Offer}
use Rattle.log_packets.specs.Asked.{InitiatorFields, IsFirstKeying}
use Rattle.log_facts.specs.Coming.{IsSaidBy}
use Rattle.log_births.specs.declared.party.Party.{Party}

-- the offer of which a session is born
abbrev pub offer_of : Joined → Offer
offer_of j = record { peer = j.peer; n = j.n; ni = j.ni; far = j.far }

abbrev pub received : AddressParts → List ℕ → Draws → ReceiveCall
received from datagram draws = record { from = from; datagram = datagram; draws = draws }

-- whether a keying has the session ID of the offer, which isn't 0, and the component for an end
-- with this fingerprint
abbrev pub is_named : List ℕ → Offer → InitiatorFields → Bool
is_named own o k =
    ((k.near == o.far) && not (o.far == 0)) && bytes_eq k.part (initiator_part o.ni o.n own)

-- The payload spells an initiator's keying with these fields.
abbrev pub SpellsKeying : List ℕ → InitiatorFields → Type 0
SpellsKeying payload k = Spells (IIKeying k.near k.cookie k.cert k.part k.sign) 0x38 payload

-- It is a certificate of this peer, another one than the end's own.
pub record IsCertFor (its peer cert : List ℕ) : Type 0 where
  pub is_cert : IsCertificate cert
  pub peer_is : peer ≡ sha256 cert
  pub other : cert ≢ its

-- It isn't too long, and is a cookie of this secret that came back in time and from its place.
pub record IsCurrent (secret cookie : List ℕ) (from : AddressParts) (now : ℕ) : Type 0 where
  pub narrow : length cookie ≤ 128
  pub current : IsAnswer secret cookie from now Current

-- A keying with this payload and these fields, under this secret of the group, makes the offer to
-- the end.
pub record Makes (p : Party) (from : AddressParts) (now : ℕ) (secret payload : List ℕ) (o : Offer)
    (k : InitiatorFields) : Type 0 where
  pub named : is_named p.own.now o k ≡ true
  pub of : IsCertFor p.cert.now o.peer k.cert
  pub cookie : IsCurrent p.cookies.now k.cookie from now
  pub signed : IsSigned secret payload k.sign

abbrev pub is_startup : Mode → Bool
is_startup Initiator = false
is_startup Responder = false
is_startup StartupMode = true

-- The packet has the mode of startup, and its first initiator's keying makes the offer.
pub record Offers (p : Party) (from : AddressParts) (now : ℕ) (o : Offer) (secret : List ℕ)
    (packet : Whole) : Type 0 where
  pub mode : packet.head.mode ≡ StartupMode
  pub payload : List ℕ
  pub fields : InitiatorFields
  pub first : IsFirstKeying (chunks_of packet) payload fields
  pub makes : Makes p from now secret payload o fields

-- The call is given a datagram that opens in a startup context under session ID 0, and makes the
-- offer.
abbrev pub IsOffered : Secrets → Setup → Past → Party → ℕ → Offer → Option ReceiveCall → Type 0
IsOffered secrets setup past p now o None = ⊥
IsOffered secrets setup past p now o (Some r) =
    IsSaidBy secrets setup past r 0 (Offers p r.from now o)
