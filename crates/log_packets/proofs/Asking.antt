-- What is asked of one chunk, by its fields.
use Rattle.std.specs.Prelude.{IfSome, is_err}
use Rattle.std.proofs.Common.{ℕ, ◌-◌, ◌≡◌, Bool, true, false, not, if◌then◌else◌, is_ok, Result, Ok, Err, List, ◌++◌, length, take, Option, Some, None, refl, sym, ap, subst, ◌∙◌, arith, length-append, append_assoc}
use Rattle.std.specs.Option.{option_map}
use Rattle.std.specs.Str.{bytes_eq}
use Rattle.std.proofs.lemmas.List.{take_at}
use Rattle.std.proofs.lemmas.Slice.Eq.{bytes_eq-Decides}
use Rattle.crypto_profile.specs.Hmac.{hmac}
use Rattle.crypto_profile.specs.Keys.{sign_key_of}
use Rattle.glare_core.specs.declared.facts.Joined.{Joined}
use Rattle.rtmfp_packet.specs.Walk.{Placed}
use Rattle.rtmfp_chunks.specs.Chunk.{IIKeying, RHello, RIKeying, Spells}
use Rattle.startup_packets.specs.Packets.{before_signature, is_signed_by}
use Rattle.endpoint_model.specs.Keying.{IsSigned, responder_part}
use Rattle.log_packets.specs.declared.fields.Hello.{Hello}
use Rattle.log_packets.specs.declared.fields.InitiatorKeying.{InitiatorKeying}
use Rattle.log_packets.specs.declared.fields.ResponderKeying.{ResponderKeying}
use Rattle.log_packets.specs.Asked.{Tells, IsHelloFrom, IsFrom, IsHelloOf, IsCertOf, IsAnswer, HelloFields, InitiatorFields, ResponderFields, hello_shown, initiator_shown, responder_shown, first_of, IsFirstFound, SaysHello, SaysInitiator, SaysResponder}
use Rattle.log_packets.proofs.Chunks.{only_true, first_is, is_first}

same_bytes : (a b : List ℕ) → bytes_eq a b ≡ true → a ≡ b
same_bytes a b e = (bytes_eq-Decides a b).0 e

are_same : (a b : List ℕ) → a ≡ b → bytes_eq a b ≡ true
are_same a b e = (bytes_eq-Decides a b).1 e

one_of : {A : Type 0} (a b : A) → Some a ≡ Some b → a ≡ b
one_of a b e = cc

no_some : {A B : Type 0} (f : A → B) (o : Option A) (b : B) → o ≡ None → option_map f o ≡ Some b → ⊥
no_some f None b e m = absurd cc
no_some f (Some a) b e m = absurd cc

-- ---- responders' hellos

module _ (c : Placed) (o : Option Hello) (says : SaysHello c.kind c.payload (option_map hello_shown o)) where
  pub no_hello_from : (tag peer : List ℕ) → o ≡ None → Tells (IsHelloFrom tag peer c) false
  no_hello_from tag peer none = record {
    yes = λ e. only_true false refl e;
    no = λ h. absurd (no_some hello_shown o (record { tag = tag; cookie = h.cookie; cert = h.cert }) none (says.no (record { tag = tag; cookie = h.cookie; cert = h.cert }) h.spells));
  }

  pub no_hello_of : (tag name peer : List ℕ) → o ≡ None → Tells (IsHelloOf tag name peer c) false
  no_hello_of tag name peer none = record {
    yes = λ e. only_true false refl e;
    no = λ h. absurd (no_some hello_shown o (record { tag = tag; cookie = h.cookie; cert = h.cert }) none (says.no (record { tag = tag; cookie = h.cookie; cert = h.cert }) h.spells));
  }

  module _ (h : Hello) (some : o ≡ Some h) (tag : List ℕ) (same : Bool) (is : same ≡ bytes_eq h.tag.now tag) where
    spelled : same ≡ true → Spells (RHello tag h.cookie.now h.cert.now) c.kind c.payload
    spelled e =
        subst (λ (t : List ℕ). Spells (RHello t h.cookie.now h.cert.now) c.kind c.payload) (same_bytes h.tag.now tag (sym is ∙ e))
        (says.yes (hello_shown h) (ap (option_map hello_shown) some))

    only : (f : HelloFields) → Spells (RHello f.tag f.cookie f.cert) c.kind c.payload → hello_shown h ≡ f
    only f spells = one_of (hello_shown h) f (sym (ap (option_map hello_shown) some) ∙ says.no f spells)

    the_tag : (cookie cert : List ℕ) → Spells (RHello tag cookie cert) c.kind c.payload → same ≡ true
    the_tag cookie cert spells = is ∙ are_same h.tag.now tag (ap (λ (f : HelloFields). f.tag) (only (record { tag = tag; cookie = cookie; cert = cert }) spells))

    pub other_tag_from : (peer : List ℕ) → same ≡ false → Tells (IsHelloFrom tag peer c) same
    other_tag_from peer other = record {
      yes = λ e. only_true same other e;
      no = λ w. the_tag w.cookie w.cert w.spells;
    }

    pub hello_from_is : (peer : List ℕ) (it : Bool) → same ≡ true → Tells (IsFrom peer h.cookie.now h.cert.now) it → Tells (IsHelloFrom tag peer c) it
    hello_from_is peer it e from = record {
      yes = λ t. record { cookie = h.cookie.now; cert = h.cert.now; spells = spelled e; from = from.yes t };
      no = λ w.
          let fields = only (record { tag = tag; cookie = w.cookie; cert = w.cert }) w.spells in
          from.no (subst (λ (f : HelloFields). IsFrom peer f.cookie f.cert) (sym fields) w.from);
    }

    pub other_tag : (name peer : List ℕ) → same ≡ false → Tells (IsHelloOf tag name peer c) same
    other_tag name peer other = record {
      yes = λ e. only_true same other e;
      no = λ w. the_tag w.cookie w.cert w.spells;
    }

    pub hello_of_is : (name peer : List ℕ) (it : Bool) → same ≡ true → Tells (IsCertOf name peer h.cert.now) it → Tells (IsHelloOf tag name peer c) it
    hello_of_is name peer it e cert = record {
      yes = λ t. record { cookie = h.cookie.now; cert = h.cert.now; spells = spelled e; of = cert.yes t };
      no = λ w. cert.no (subst (IsCertOf name peer) (sym (ap (λ (f : HelloFields). f.cert) (only (record { tag = tag; cookie = w.cookie; cert = w.cert }) w.spells))) w.of);
    }

-- ---- responders' keyings

not_false : (b : Bool) → not b ≡ false → b ≡ true
not_false true e = refl
not_false false e = absurd cc

ends_with : (c : Placed) (near : ℕ) (part sign : List ℕ) → Spells (RIKeying near part sign) c.kind c.payload → (before : List ℕ) × (c.payload ≡ before ++ sign)
ends_with c near part sign s =
    let one = s.1 in
    let two = one.4 in
    let last : two.1 ≡ sign = two.4 in
    (one.0 ++ two.0, one.2 ∙ ap (λ xs. one.0 ++ xs) (two.2 ∙ ap (λ xs. two.0 ++ xs) last) ∙ sym (append_assoc one.0 two.0 sign))

front_is : (payload before sign : List ℕ) → payload ≡ before ++ sign → before_signature payload sign ≡ before
front_is payload before sign whole =
    ap (λ n. take n payload) (let count : length payload - length sign ≡ length before = omega (arith, ap length whole, length-append before sign) in count)
    ∙ ap (take (length before)) whole ∙ take_at before sign (length before) refl

signed_is : (secret payload sign : List ℕ) (before : List ℕ) → payload ≡ before ++ sign → is_signed_by (sign_key_of secret) payload sign ≡ true → IsSigned secret payload sign
unfolding is_signed_by
signed_is secret payload sign before whole e = record {
  before = before;
  whole = whole;
  signature = sym (same_bytes (hmac (sign_key_of secret) (before_signature payload sign)) sign e) ∙ ap (hmac (sign_key_of secret)) (front_is payload before sign whole);
}

is_signed_then : (secret payload sign : List ℕ) → IsSigned secret payload sign → is_signed_by (sign_key_of secret) payload sign ≡ true
unfolding is_signed_by
is_signed_then secret payload sign s =
    are_same (hmac (sign_key_of secret) (before_signature payload sign)) sign (ap (hmac (sign_key_of secret)) (front_is payload s.before sign s.whole) ∙ sym s.signature)

module _ (c : Placed) (o : Option ResponderKeying) (says : SaysResponder c.kind c.payload (option_map responder_shown o)) (secret : List ℕ) (j : Joined) where
  abbrev ours : List ℕ
  ours = responder_part j.nr j.k j.peer j.ni

  pub no_responder : o ≡ None → Tells (IsAnswer secret j c) false
  no_responder none = record {
    yes = λ e. only_true false refl e;
    no = λ a. absurd (no_some responder_shown o (record { near = j.far; part = ours; sign = a.sign }) none (says.no (record { near = j.far; part = ours; sign = a.sign }) a.spells));
  }

  module _ (k : ResponderKeying) (some : o ≡ Some k) where
    said : Spells (RIKeying k.near k.part.now k.sign.now) c.kind c.payload
    said = says.yes (responder_shown k) (ap (option_map responder_shown) some)

    only_said : (a : IsAnswer secret j c) → responder_shown k ≡ record { near = j.far; part = ours; sign = a.sign }
    only_said a = one_of (responder_shown k) (record { near = j.far; part = ours; sign = a.sign }) (sym (ap (option_map responder_shown) some) ∙ says.no (record { near = j.far; part = ours; sign = a.sign }) a.spells)

    module _ (part : List ℕ) (part_is : part ≡ ours) (other : Bool) (is : other ≡ not (bytes_eq k.part.now part)) where
      -- of another component
      pub other_part : other ≡ true → Tells (IsAnswer secret j c) false
      other_part e = record {
        yes = λ t. only_true false refl t;
        no = λ a. only_true other (is ∙ ap not (are_same k.part.now part (ap (λ (f : ResponderFields). f.part) (only_said a) ∙ sym part_is))) e;
      }

      pub answer_is : (it : Bool) → k.near ≡ j.far → other ≡ false → it ≡ is_signed_by (sign_key_of secret) c.payload k.sign.now → Tells (IsAnswer secret j c) it
      answer_is it near e test = record {
        yes = λ t.
            let of : Spells (RIKeying j.far ours k.sign.now) c.kind c.payload =
            subst (λ (p : List ℕ). Spells (RIKeying j.far p k.sign.now) c.kind c.payload) (same_bytes k.part.now part (not_false (bytes_eq k.part.now part) (sym is ∙ e)) ∙ part_is)
            (subst (λ (n : ℕ). Spells (RIKeying n k.part.now k.sign.now) c.kind c.payload) near said) in
            let ends = ends_with c j.far ours k.sign.now of in
            record { sign = k.sign.now; spells = of; signed = signed_is secret c.payload k.sign.now ends.0 ends.1 (sym test ∙ t) };
        no = λ a. test ∙ ap (λ (f : ResponderFields). is_signed_by (sign_key_of secret) c.payload f.sign) (only_said a) ∙ is_signed_then secret c.payload a.sign a.signed;
      }

-- ---- the first initiator's keying

module _ (cs : List Placed) where
  pub no_first : {A : Type 0} (show : A → Placed) (o : Option A) → option_map show o ≡ first_of 0x38 cs → o ≡ None → IsFirstFound cs None
  no_first show o found none = record {
    yes = λ k e. absurd (let clash : None ≡ Some k = e in cc);
    no = λ payload fields f. absurd (no_some show o f.chunk none (found ∙ is_first 0x38 cs f.chunk f.first f.spells.0));
  }

  same_first : (a b : Placed) → first_of 0x38 cs ≡ Some a → first_of 0x38 cs ≡ Some b → a ≡ b
  same_first a b e f = one_of a b (sym e ∙ f)

  found_of : (o : Option InitiatorKeying) (f : InitiatorFields) → option_map initiator_shown o ≡ Some f → (k : InitiatorKeying) × (o ≡ Some k) × (initiator_shown k ≡ f)
  found_of None f e = absurd cc
  found_of (Some k) f e = (k, refl, one_of (initiator_shown k) f e)

  pub first_read : (c : Placed) (o : Option InitiatorKeying) → first_of 0x38 cs ≡ Some c → SaysInitiator c.kind c.payload (option_map initiator_shown o) → ((k : InitiatorKeying) → o ≡ Some k → k.payload.now ≡ c.payload) → IsFirstFound cs o
  first_read c o found says payload_is = record {
    yes = λ k e. record {
      chunk = c;
      first = (first_is 0x38 cs c found).first;
      payload_is = sym (payload_is k e);
      spells = says.yes (initiator_shown k) (ap (option_map initiator_shown) e);
    };
    no = λ payload fields f.
        let same : c ≡ f.chunk = same_first c f.chunk found (is_first 0x38 cs f.chunk f.first f.spells.0) in
        let spells : Spells (IIKeying fields.near fields.cookie fields.cert fields.part fields.sign) c.kind c.payload =
        subst (λ (p : Placed). Spells (IIKeying fields.near fields.cookie fields.cert fields.part fields.sign) p.kind p.payload) (sym same) f.spells in
        let k = found_of o fields (says.no fields spells) in
        (k.0, k.1, payload_is k.0 k.1 ∙ ap (λ (p : Placed). p.payload) same ∙ f.payload_is, k.2);
  }

-- ---- what a call gave

pub for_some : {A : Type 0} (P : A → Type 0) (o : Option A) (a : A) → IfSome o P → o ≡ Some a → P a
for_some P None a is e = absurd cc
for_some P (Some b) a is e = subst P (one_of b a e) is

pub pushed : {A E : Type 0} (r : Result A E) (test : Bool) (new more old : List ℕ) → new ≡ (if is_ok r then more else old) → test ≡ is_err r → test ≡ false → new ≡ more
pushed (Ok done) test new more old e is f = e
pushed (Err why) test new more old e is f = only_true test f is

pub same_found : {A E : Type 0} (a b : A) → ◌≡◌ {A = Result A E} (Ok a) (Ok b) → Some b ≡ Some a
same_found a b e = let same : a ≡ b = cc in ap (λ x. Some x) (sym same)
