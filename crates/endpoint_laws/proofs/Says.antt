-- What keyings that read say, field by field.
use Rattle.std.proofs.Common.{◌≡◌, ℕ, ◌==◌, ◌<◌, ◌≤◌, ◌^◌, List, [], ◌∷◌, length, take, drop, Bool, true, false, if◌then◌else◌, is_some, Option, Some, None, Result, Ok, Err, inl, inr, refl, sym, ap, subst, ◌∙◌, arith}
use Rattle.std.specs.Int.{w64, from_be_bytes}
use Rattle.std.proofs.lemmas.Bool.{eqb-true}
use Rattle.std.proofs.lemmas.List.{length-take-le, length-drop}
use Rattle.rtmfp_vlu.proofs.Bytes.{IsBytes, IsBytes-take, IsBytes-drop}
use Rattle.rtmfp_chunks.specs.declared.reading.ChunkFault.{ChunkFault}
use Rattle.rtmfp_chunks.specs.Chunk.{Chunk, IHello, FIHello, RHello, Redirect, CookieChange, IIKeying, RIKeying, Ping, PingReply, Close, CloseAck, Fragment, Spells}
use Rattle.rtmfp_chunks.specs.FieldReading.{chunk_reading}
use Rattle.identity.specs.Certificates.{certificate_fault}
use Rattle.rtmfp_base.specs.declared.cause.Cause.TheVariants.{Malformed}
use Rattle.startup_packets.specs.Packets.{initiator_part_in, responder_part_in}
use Rattle.startup_packets.specs.Readings.{InitiatorKeying, ResponderKeying, part_offset, cert_offset, with_initiator_part, formed_initiator, initiator_fields, initiator_keying_in, with_responder_part, formed_responder, responder_fields, responder_keying_in}
use Rattle.startup_packets.proofs.Components.{initiator_again, responder_again}
use Rattle.endpoint_model.specs.Keying.{initiator_part, responder_part}
use Rattle.endpoint_laws.proofs.Bytes.{front_are, back_are}
use Rattle.endpoint_model.proofs.Members.{tested}
use Rattle.endpoint_laws.proofs.Spelled.{initiator_spelled, responder_spelled}

no_zero : (n : ℕ) → (n == 0) ≡ false → n ≡ 0 → ⊥
no_zero n e is = elim (tested n 0) [ inl same ↦ (let clash : true ≡ false = sym same.1 ∙ e in cc) | inr other ↦ other.0 is ]

by_cases : {A : Type 0} (o : Option A) (P : Option A → Type 0) → P None → ((x : A) → P (Some x)) → P o
by_cases None P none some = none
by_cases (Some x) P none some = some x

if_some : {A : Type 0} (b : Bool) (x y : A) → (if b then Some x else None) ≡ Some y → (b ≡ true) × (x ≡ y)
if_some true x y e = (refl, cc)
if_some false x y e = absurd (cc)

ok_is : {A E : Type 0} (x y : A) → ◌≡◌ {A = Result A E} (Ok x) (Ok y) → x ≡ y
ok_is x y e = cc

-- eight bytes are a number of 64 bits
word_fits : (bytes : List ℕ) → length bytes ≡ 8 → IsBytes bytes → from_be_bytes w64 bytes < 2 ^ 64
word_fits (a ∷ b ∷ c ∷ d ∷ e ∷ f ∷ g ∷ h ∷ []) size are =
    let p : a < 256 = are 0 in
    let q : b < 256 = are 1 in
    let r : c < 256 = are 2 in
    let s : d < 256 = are 3 in
    let t : e < 256 = are 4 in
    let u : f < 256 = are 5 in
    let v : g < 256 = are 6 in
    let w : h < 256 = are 7 in
    omega arith
word_fits (a ∷ b ∷ c ∷ d ∷ e ∷ f ∷ g ∷ h ∷ i ∷ rest) size are = absurd (omega arith)
word_fits (a ∷ b ∷ c ∷ d ∷ e ∷ f ∷ g ∷ []) size are = absurd (omega arith)
word_fits (a ∷ b ∷ c ∷ d ∷ e ∷ f ∷ []) size are = absurd (omega arith)
word_fits (a ∷ b ∷ c ∷ d ∷ e ∷ []) size are = absurd (omega arith)
word_fits (a ∷ b ∷ c ∷ d ∷ []) size are = absurd (omega arith)
word_fits (a ∷ b ∷ c ∷ []) size are = absurd (omega arith)
word_fits (a ∷ b ∷ []) size are = absurd (omega arith)
word_fits (a ∷ []) size are = absurd (omega arith)
word_fits [] size are = absurd (omega arith)

-- the number in the middle of a component
middle_fits : (bytes : List ℕ) → 24 ≤ length bytes → IsBytes bytes → from_be_bytes w64 (take 8 (drop 16 bytes)) < 2 ^ 64
middle_fits bytes long are = word_fits (take 8 (drop 16 bytes)) (length-take-le 8 (drop 16 bytes) (omega (arith, length-drop 16 bytes))) (IsBytes-take 8 (drop 16 bytes) (IsBytes-drop 16 bytes are))

-- ---- responders' keyings

record IsResponder (r : Result Chunk ChunkFault) (payload : List ℕ) (keying : ResponderKeying) : Type 0 where
  near : ℕ
  part : List ℕ
  sign : List ℕ
  is : r ≡ Ok (RIKeying near part sign)
  formed : formed_responder payload near part sign ≡ Ok keying

responder_is : (payload : List ℕ) (r : Result Chunk ChunkFault) (keying : ResponderKeying) → responder_fields payload r ≡ Ok keying → IsResponder r payload keying
responder_is payload (Ok (RIKeying near part sign)) keying e = record { near = near; part = part; sign = sign; is = refl; formed = e }
responder_is payload (Ok (IHello epd tag)) keying e = absurd (cc)
responder_is payload (Ok (FIHello epd reply tag)) keying e = absurd (cc)
responder_is payload (Ok (RHello tag cookie cert)) keying e = absurd (cc)
responder_is payload (Ok (Redirect tag list)) keying e = absurd (cc)
responder_is payload (Ok (CookieChange old new)) keying e = absurd (cc)
responder_is payload (Ok (IIKeying near cookie cert part sign)) keying e = absurd (cc)
responder_is payload (Ok (Ping bytes)) keying e = absurd (cc)
responder_is payload (Ok (PingReply bytes)) keying e = absurd (cc)
responder_is payload (Ok Close) keying e = absurd (cc)
responder_is payload (Ok CloseAck) keying e = absurd (cc)
responder_is payload (Ok (Fragment more id number bytes)) keying e = absurd (cc)
responder_is payload (Err fault) keying e = absurd (cc)

-- the fields and the part
record RespondsWith (near : ℕ) (part sign : List ℕ) (keying : ResponderKeying) : Type 0 where
  near_is : near ≡ keying.near
  sign_is : sign ≡ keying.sign
  part_is : responder_part_in part ≡ Some keying.part

with_part : (at near : ℕ) (sign part : List ℕ) (keying : ResponderKeying) → with_responder_part at near sign (responder_part_in part) ≡ Ok keying → RespondsWith near part sign keying
with_part at near sign part keying e =
    let all = by_cases (responder_part_in part) (λ o. with_responder_part at near sign o ≡ Ok keying → (near ≡ keying.near) × (sign ≡ keying.sign) × (o ≡ Some keying.part)) (λ e. absurd (cc))
    (λ x e. let same = ok_is (record { near = near; part = x; sign = sign }) keying e in ((λ i. (same i).near), (λ i. (same i).sign), (λ i. Some (same i).part))) e in
    record { near_is = all.0; sign_is = all.1; part_is = all.2 }

responds_with : (payload : List ℕ) (near : ℕ) (part sign : List ℕ) (keying : ResponderKeying) → formed_responder payload near part sign ≡ Ok keying → RespondsWith near part sign keying
responds_with payload near part sign keying e = by (near == 0) e
  where
    by : (b : Bool) → (if b then Err (Malformed 0) else with_responder_part (part_offset payload part sign) near sign (responder_part_in part)) ≡ Ok keying → RespondsWith near part sign keying
    by true e = absurd (cc)
    by false e = with_part (part_offset payload part sign) near sign part keying e

responder_part_again : (bytes : List ℕ) (keying : ResponderKeying) → IsBytes bytes → responder_part_in bytes ≡ Some keying.part →
    (bytes ≡ responder_part keying.part.nr keying.part.k keying.part.responder keying.part.ni) × (keying.part.k < 2 ^ 64)
unfolding responder_part_in
responder_part_again bytes keying are e =
    let both = if_some (length bytes == 72) _ keying.part e in
    let count : length bytes ≡ 72 = eqb-true (length bytes) 72 both.0 in (
      responder_again bytes (take 16 bytes) (take 8 (drop 16 bytes)) (take 32 (drop 24 bytes)) (drop 56 bytes) (from_be_bytes w64 (take 8 (drop 16 bytes))) are
          (omega (arith, count)) refl refl refl refl refl
          ∙ (λ i. responder_part (both.1 i).nr (both.1 i).k (both.1 i).responder (both.1 i).ni),
      subst (λ n. n < 2 ^ 64) (λ i. (both.1 i).k) (middle_fits bytes (omega (arith, count)) are),
    )

pub record ResponderSays (payload : List ℕ) (keying : ResponderKeying) : Type 0 where
  pub spells : Spells (RIKeying keying.near (responder_part keying.part.nr keying.part.k keying.part.responder keying.part.ni) keying.sign) 0x78 payload
  pub number : keying.part.k < 2 ^ 64

pub responder_says : (payload : List ℕ) (keying : ResponderKeying) → IsBytes payload → responder_keying_in payload ≡ Ok keying → ResponderSays payload keying
unfolding responder_keying_in
responder_says payload keying are e =
    let read = responder_is payload (chunk_reading 0x78 payload) keying e in
    let fields = responds_with payload read.near read.part read.sign keying read.formed in
    let spells : Spells (RIKeying read.near read.part read.sign) 0x78 payload = responder_spelled payload (RIKeying read.near read.part read.sign) are read.is in
    let rest : IsBytes spells.1.1 = back_are payload spells.1.0 spells.1.1 spells.1.2 are in
    let front : IsBytes spells.1.4.0 = front_are spells.1.1 spells.1.4.0 spells.1.4.1 spells.1.4.2 rest in
    let part_are : IsBytes read.part = back_are spells.1.4.0 spells.1.4.3.count read.part spells.1.4.3.joined front in
    let part = responder_part_again read.part keying part_are fields.part_is in
    record {
      spells =
          subst (λ s. Spells (RIKeying keying.near (responder_part keying.part.nr keying.part.k keying.part.responder keying.part.ni) s) 0x78 payload) fields.sign_is
          (subst (λ p. Spells (RIKeying keying.near p read.sign) 0x78 payload) part.0 (subst (λ n. Spells (RIKeying n read.part read.sign) 0x78 payload) fields.near_is spells));
      number = part.1;
    }

-- ---- initiators' keyings

record IsInitiator (r : Result Chunk ChunkFault) (payload : List ℕ) (keying : InitiatorKeying) : Type 0 where
  near : ℕ
  cookie : List ℕ
  cert : List ℕ
  part : List ℕ
  sign : List ℕ
  is : r ≡ Ok (IIKeying near cookie cert part sign)
  formed : formed_initiator payload near cookie cert part sign ≡ Ok keying

initiator_is : (payload : List ℕ) (r : Result Chunk ChunkFault) (keying : InitiatorKeying) → initiator_fields payload r ≡ Ok keying → IsInitiator r payload keying
initiator_is payload (Ok (IIKeying near cookie cert part sign)) keying e = record { near = near; cookie = cookie; cert = cert; part = part; sign = sign; is = refl; formed = e }
initiator_is payload (Ok (IHello epd tag)) keying e = absurd (cc)
initiator_is payload (Ok (FIHello epd reply tag)) keying e = absurd (cc)
initiator_is payload (Ok (RHello tag cookie cert)) keying e = absurd (cc)
initiator_is payload (Ok (Redirect tag list)) keying e = absurd (cc)
initiator_is payload (Ok (CookieChange old new)) keying e = absurd (cc)
initiator_is payload (Ok (RIKeying near part sign)) keying e = absurd (cc)
initiator_is payload (Ok (Ping bytes)) keying e = absurd (cc)
initiator_is payload (Ok (PingReply bytes)) keying e = absurd (cc)
initiator_is payload (Ok Close) keying e = absurd (cc)
initiator_is payload (Ok CloseAck) keying e = absurd (cc)
initiator_is payload (Ok (Fragment more id number bytes)) keying e = absurd (cc)
initiator_is payload (Err fault) keying e = absurd (cc)

record InitiatesWith (near : ℕ) (cookie cert part sign : List ℕ) (keying : InitiatorKeying) : Type 0 where
  near_is : near ≡ keying.near
  cookie_is : cookie ≡ keying.cookie
  cert_is : cert ≡ keying.cert
  sign_is : sign ≡ keying.sign
  part_is : initiator_part_in part ≡ Some keying.part
  some : near ≡ 0 → ⊥
  good : is_some (certificate_fault cert) ≡ false

record HasFields (near : ℕ) (cookie cert part sign : List ℕ) (keying : InitiatorKeying) : Type 0 where
  near_is : near ≡ keying.near
  cookie_is : cookie ≡ keying.cookie
  cert_is : cert ≡ keying.cert
  sign_is : sign ≡ keying.sign
  part_is : initiator_part_in part ≡ Some keying.part

has_fields : (at near : ℕ) (cookie cert part sign : List ℕ) (keying : InitiatorKeying) → with_initiator_part at near cookie cert sign (initiator_part_in part) ≡ Ok keying → HasFields near cookie cert part sign keying
has_fields at near cookie cert part sign keying e =
    let all = by_cases (initiator_part_in part)
    (λ o. with_initiator_part at near cookie cert sign o ≡ Ok keying → (near ≡ keying.near) × (cookie ≡ keying.cookie) × (cert ≡ keying.cert) × (sign ≡ keying.sign) × (o ≡ Some keying.part)) (λ e. absurd (cc))
    (λ x e. let same = ok_is (record { near = near; cookie = cookie; cert = cert; part = x; sign = sign }) keying e in
    ((λ i. (same i).near), (λ i. (same i).cookie), (λ i. (same i).cert), (λ i. (same i).sign), (λ i. Some (same i).part))) e in
    record { near_is = all.0; cookie_is = all.1; cert_is = all.2; sign_is = all.3; part_is = all.4 }

initiates_with : (payload : List ℕ) (near : ℕ) (cookie cert part sign : List ℕ) (keying : InitiatorKeying) → formed_initiator payload near cookie cert part sign ≡ Ok keying → InitiatesWith near cookie cert part sign keying
initiates_with payload near cookie cert part sign keying e = by (near == 0) (is_some (certificate_fault cert)) refl refl e
  where
    by : (a b : Bool) → (near == 0) ≡ a → is_some (certificate_fault cert) ≡ b →
        (if a then Err (Malformed 0) else if b then Err (Malformed (cert_offset payload (length cookie))) else with_initiator_part (part_offset payload part sign) near cookie cert sign (initiator_part_in part)) ≡ Ok keying →
        InitiatesWith near cookie cert part sign keying
    by true b z c e = absurd (cc)
    by false true z c e = absurd (cc)
    by false false z c e =
        let all = has_fields (part_offset payload part sign) near cookie cert part sign keying e in
        record { near_is = all.near_is; cookie_is = all.cookie_is; cert_is = all.cert_is; sign_is = all.sign_is; part_is = all.part_is; some = no_zero near z; good = c }

initiator_part_again : (bytes : List ℕ) (keying : InitiatorKeying) → IsBytes bytes → initiator_part_in bytes ≡ Some keying.part →
    (bytes ≡ initiator_part keying.part.ni keying.part.n keying.part.responder) × (length keying.part.ni ≡ 16) × (keying.part.n < 2 ^ 64)
unfolding initiator_part_in
initiator_part_again bytes keying are e =
    let both = if_some (length bytes == 56) _ keying.part e in
    let count : length bytes ≡ 56 = eqb-true (length bytes) 56 both.0 in (
      initiator_again bytes (take 16 bytes) (take 8 (drop 16 bytes)) (drop 24 bytes) (from_be_bytes w64 (take 8 (drop 16 bytes))) are (omega (arith, count)) refl refl refl refl
          ∙ (λ i. initiator_part (both.1 i).ni (both.1 i).n (both.1 i).responder),
      sym (λ i. length (both.1 i).ni) ∙ length-take-le 16 bytes (omega (arith, count)),
      subst (λ n. n < 2 ^ 64) (λ i. (both.1 i).n) (middle_fits bytes (omega (arith, count)) are),
    )

pub record InitiatorSays (payload : List ℕ) (keying : InitiatorKeying) : Type 0 where
  pub spells : Spells (IIKeying keying.near keying.cookie keying.cert (initiator_part keying.part.ni keying.part.n keying.part.responder) keying.sign) 0x38 payload
  pub some : keying.near ≡ 0 → ⊥
  pub good : is_some (certificate_fault keying.cert) ≡ false
  pub nonce : length keying.part.ni ≡ 16
  pub number : keying.part.n < 2 ^ 64
  pub cookie_are : IsBytes keying.cookie

pub initiator_says : (payload : List ℕ) (keying : InitiatorKeying) → IsBytes payload → initiator_keying_in payload ≡ Ok keying → InitiatorSays payload keying
unfolding initiator_keying_in
initiator_says payload keying are e =
    let read = initiator_is payload (chunk_reading 0x38 payload) keying e in
    let fields = initiates_with payload read.near read.cookie read.cert read.part read.sign keying read.formed in
    let spells : Spells (IIKeying read.near read.cookie read.cert read.part read.sign) 0x38 payload = initiator_spelled payload (IIKeying read.near read.cookie read.cert read.part read.sign) are read.is in
    let one = spells.1 in
    let one_are : IsBytes one.1 = back_are payload one.0 one.1 one.2 are in
    let two = one.4 in
    let two_are : IsBytes two.1 = back_are one.1 two.0 two.1 two.2 one_are in
    let three = two.4 in
    let three_are : IsBytes three.1 = back_are two.1 three.0 three.1 three.2 two_are in
    let four = three.4 in
    let cookie_are : IsBytes read.cookie = back_are two.0 two.3.count read.cookie two.3.joined (front_are one.1 two.0 two.1 two.2 one_are) in
    let part_are : IsBytes read.part = back_are four.0 four.3.count read.part four.3.joined (front_are three.1 four.0 four.1 four.2 three_are) in
    let part = initiator_part_again read.part keying part_are fields.part_is in
    record {
      spells =
          subst (λ s. Spells (IIKeying keying.near keying.cookie keying.cert (initiator_part keying.part.ni keying.part.n keying.part.responder) s) 0x38 payload) fields.sign_is
          (subst (λ p. Spells (IIKeying keying.near keying.cookie keying.cert p read.sign) 0x38 payload) part.0
          (subst (λ c. Spells (IIKeying keying.near keying.cookie c read.part read.sign) 0x38 payload) fields.cert_is
          (subst (λ c. Spells (IIKeying keying.near c read.cert read.part read.sign) 0x38 payload) fields.cookie_is
          (subst (λ n. Spells (IIKeying n read.cookie read.cert read.part read.sign) 0x38 payload) fields.near_is spells))));
      some = λ z. fields.some (fields.near_is ∙ z);
      good = ap (λ c. is_some (certificate_fault c)) (sym fields.cert_is) ∙ fields.good;
      nonce = part.1;
      number = part.2;
      cookie_are = subst IsBytes fields.cookie_is cookie_are;
    }
