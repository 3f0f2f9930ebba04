-- A datagram brings one keying, or one hello.
use Rattle.std.proofs.Common.{ℕ, List, [], ◌∷◌, ◌++◌, length, ◌≡◌, inl, inr, refl, sym, ap, subst, ◌∙◌, Ok, Err, Result, Some, arith, take, drop, length-append}
use Rattle.std.proofs.lemmas.List.{take_at}
use Rattle.crypto_profile.specs.declared.keys.Context.{Context}
use Rattle.crypto_profile.specs.declared.keys.Context.TheVariants.{Startup}
use Rattle.crypto_profile.specs.Hmac.{hmac}
use Rattle.crypto_profile.specs.Keys.{keys_of, sign_key_of}
use Rattle.crypto_profile.specs.Opening.{plain_of}
use Rattle.std.specs.FinMap.{get}
use Rattle.crypto_profile.proofs.Opened.{opens_by_its_tag}
use Rattle.rtmfp_packet.specs.Whole.{Whole}
use Rattle.rtmfp_packet.specs.Walk.{Placed}
use Rattle.rtmfp_packet.specs.declared.head.PacketFault.{PacketFault}
use Rattle.rtmfp_packet.specs.Reading.{PacketReading}
use Rattle.rtmfp_packet.proofs.Readings.{packet_reading_same}
use Rattle.rtmfp_chunks.specs.declared.reading.ChunkFault.{ChunkFault}
use Rattle.rtmfp_chunks.specs.Chunk.{Chunk, RHello, IIKeying, RIKeying, Spells}
use Rattle.rtmfp_chunks.proofs.ReadingLaws.{reading_same}
use Rattle.endpoint_laws.specs.Contexts.{Secrets, generation_of, ReadsUnder}
use Rattle.endpoint_model.specs.Keying.{IsAmong, IsFirst, IsSigned, chunks_of}
use Rattle.endpoint_checks.specs.Brings.{Hello, BringsHello}

-- what opens in a context reads as one packet
whole_or : Whole → Result Whole PacketFault → Whole
whole_or w (Ok p) = p
whole_or w (Err fault) = w

-- a generation has one secret
pub one_secret : (secrets : Secrets) (generation : ℕ) (x y : List ℕ) → get secrets generation ≡ Some x → get secrets generation ≡ Some y → x ≡ y
one_secret secrets generation x y p q = let both : Some x ≡ Some y = sym p ∙ q in cc

pub one_packet : (secrets : Secrets) (context : Context) (sid : ℕ) (sent : List ℕ) (p q : Whole) → ReadsUnder secrets context sid sent p → ReadsUnder secrets context sid sent q → p ≡ q
unfolding whole_or
one_packet secrets context sid sent p q a b =
    let left = ((opens_by_its_tag a.opens.secret context sid (drop 4 sent) a.plain).0 a.opens.opens).2 in
    let right = ((opens_by_its_tag b.opens.secret context sid (drop 4 sent) b.plain).0 b.opens.opens).2 in
    let secret : a.opens.secret ≡ b.opens.secret = one_secret secrets (generation_of context) a.opens.secret b.opens.secret a.opens.known b.opens.known in
    let same : a.plain ≡ b.plain = left ∙ ap (λ (x : List ℕ). plain_of (keys_of x context) (drop 4 sent)) secret ∙ sym right in
    ap (whole_or p) (packet_reading_same b.plain (Ok p) (Ok q) (subst (λ (x : List ℕ). PacketReading x (Ok p)) same a.reads) b.reads)

-- the first of its type is one
pub one_first : (c d : Placed) (cs : List Placed) → IsFirst c cs → IsFirst d cs → c.kind ≡ d.kind → c ≡ d
one_first c d [] a b e = absurd a
one_first c d (x ∷ cs) (inl p) (inl q) e = p ∙ sym q
one_first c d (x ∷ cs) (inl p) (inr q) e = absurd (q.0 (sym (ap (λ (y : Placed). y.kind) p) ∙ e))
one_first c d (x ∷ cs) (inr p) (inl q) e = absurd (p.0 (sym (ap (λ (y : Placed). y.kind) q) ∙ sym e))
one_first c d (x ∷ cs) (inr p) (inr q) e = one_first c d cs p.1 q.1 e

-- ---- the fields of a keying that was read

near_in : Result Chunk ChunkFault → ℕ
near_in (Ok (IIKeying near cookie cert part sign)) = near
near_in (Ok (RIKeying near part sign)) = near
near_in read = 0

cookie_in : Result Chunk ChunkFault → List ℕ
cookie_in (Ok (IIKeying near cookie cert part sign)) = cookie
cookie_in (Ok (RHello tag cookie cert)) = cookie
cookie_in read = []

cert_in : Result Chunk ChunkFault → List ℕ
cert_in (Ok (IIKeying near cookie cert part sign)) = cert
cert_in (Ok (RHello tag cookie cert)) = cert
cert_in read = []

part_in : Result Chunk ChunkFault → List ℕ
part_in (Ok (IIKeying near cookie cert part sign)) = part
part_in (Ok (RIKeying near part sign)) = part
part_in read = []

sign_in : Result Chunk ChunkFault → List ℕ
sign_in (Ok (IIKeying near cookie cert part sign)) = sign
sign_in (Ok (RIKeying near part sign)) = sign
sign_in read = []

tag_in : Result Chunk ChunkFault → List ℕ
tag_in (Ok (RHello tag cookie cert)) = tag
tag_in read = []

-- two keyings that one payload spells
pub record OneKeying (near near' : ℕ) (cookie cookie' cert cert' part part' sign sign' : List ℕ) : Type 0 where
  pub near_is : near ≡ near'
  pub cookie_is : cookie ≡ cookie'
  pub cert_is : cert ≡ cert'
  pub part_is : part ≡ part'
  pub sign_is : sign ≡ sign'

pub one_keying : (kind : ℕ) (payload : List ℕ) (near near' : ℕ) (cookie cookie' cert cert' part part' sign sign' : List ℕ) → Spells (IIKeying near cookie cert part sign) kind payload →
    Spells (IIKeying near' cookie' cert' part' sign') kind payload → OneKeying near near' cookie cookie' cert cert' part part' sign sign'
unfolding near_in cookie_in cert_in part_in sign_in
one_keying kind payload near near' cookie cookie' cert cert' part part' sign sign' a b =
    let e = reading_same kind payload (Ok (IIKeying near cookie cert part sign)) (Ok (IIKeying near' cookie' cert' part' sign')) a b in
    record { near_is = ap near_in e; cookie_is = ap cookie_in e; cert_is = ap cert_in e; part_is = ap part_in e; sign_is = ap sign_in e }

pub record OneAnswer (near near' : ℕ) (part part' sign sign' : List ℕ) : Type 0 where
  pub near_is : near ≡ near'
  pub part_is : part ≡ part'
  pub sign_is : sign ≡ sign'

pub one_answer : (kind : ℕ) (payload : List ℕ) (near near' : ℕ) (part part' sign sign' : List ℕ) → Spells (RIKeying near part sign) kind payload → Spells (RIKeying near' part' sign') kind payload →
    OneAnswer near near' part part' sign sign'
unfolding near_in part_in sign_in
one_answer kind payload near near' part part' sign sign' a b =
    let e = reading_same kind payload (Ok (RIKeying near part sign)) (Ok (RIKeying near' part' sign')) a b in
    record { near_is = ap near_in e; part_is = ap part_in e; sign_is = ap sign_in e }

pub record OneHello (tag tag' cookie cookie' cert cert' : List ℕ) : Type 0 where
  pub tag_is : tag ≡ tag'
  pub cookie_is : cookie ≡ cookie'
  pub cert_is : cert ≡ cert'

one_hello : (kind : ℕ) (payload : List ℕ) (tag tag' cookie cookie' cert cert' : List ℕ) → Spells (RHello tag cookie cert) kind payload → Spells (RHello tag' cookie' cert') kind payload → OneHello tag tag' cookie cookie' cert cert'
unfolding tag_in cookie_in cert_in
one_hello kind payload tag tag' cookie cookie' cert cert' a b =
    let e = reading_same kind payload (Ok (RHello tag cookie cert)) (Ok (RHello tag' cookie' cert')) a b in
    record { tag_is = ap tag_in e; cookie_is = ap cookie_in e; cert_is = ap cert_in e }

-- the only chunk of a packet
pub only_one : (c d : Placed) (cs : List Placed) → cs ≡ d ∷ [] → IsAmong c cs → c ≡ d
only_one c d cs e among = alone c d (subst (IsAmong c) e among)
  where
    alone : (c d : Placed) → IsAmong c (d ∷ []) → c ≡ d
    alone c d (inl e) = e
    alone c d (inr none) = absurd none

-- a hello that is read in a datagram is the one that is its only chunk
module _ (secrets : Secrets) (generation : ℕ) (sent : List ℕ) (hello : Hello) (b : BringsHello secrets generation sent hello) (packet : Whole) (reads : ReadsUnder secrets (Startup generation) 0 sent packet) (chunk : Placed) (among : IsAmong chunk (chunks_of packet)) where
  same_chunk : chunk ≡ b.chunk
  same_chunk = only_one chunk b.chunk (chunks_of b.packet) b.only (subst (λ (p : Whole). IsAmong chunk (chunks_of p)) (one_packet secrets (Startup generation) 0 sent packet b.packet reads b.reads) among)

  pub only_hello : (tag cookie cert : List ℕ) → Spells (RHello tag cookie cert) chunk.kind chunk.payload → OneHello tag hello.tag cookie hello.cookie cert hello.cert
  only_hello tag cookie cert spells =
      one_hello b.chunk.kind b.chunk.payload tag hello.tag cookie hello.cookie cert hello.cert
      (subst (λ (c : Placed). Spells (RHello tag cookie cert) c.kind c.payload) same_chunk spells) b.spells

-- ---- a signature

-- A payload that is signed with its last bytes is signed with these.
pub signed_here : (secret payload before sign sign' : List ℕ) → IsSigned secret payload sign' → sign' ≡ sign → payload ≡ before ++ sign → sign ≡ hmac (sign_key_of secret) before
signed_here secret payload before sign sign' s same whole =
    let both : s.before ++ sign' ≡ before ++ sign = sym s.whole ∙ whole in
    let size : length s.before ≡ length before = omega (arith, ap length both, length-append s.before sign', length-append before sign, ap length same) in
    let front : s.before ≡ before = sym (take_at s.before sign' (length before) size) ∙ ap (take (length before)) both ∙ take_at before sign (length before) refl in
    sym same ∙ s.signature ∙ ap (hmac (sign_key_of secret)) front
