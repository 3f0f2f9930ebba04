-- A keying of which a session is born is admissible by what was stated before.
use Rattle.std.proofs.Common.{◌≡◌, ◌≢◌, ℕ, zero, suc, ◌<◌, ◌≤◌, List, [], ◌∷◌, length, Bool, true, false, not, ◌&&◌, ◌||◌, nat_lt, nat_le, if◌then◌else◌, is_some, Option, Some, None, Ok, inl, inr, refl, sym, ap, subst, ◌∙◌, arith}
use Rattle.std.specs.Prelude.{is_none}
use Rattle.std.specs.Str.{bytes_eq}
use Rattle.std.proofs.lemmas.Bool.Decides.{nat_tests}
use Rattle.std.proofs.lemmas.Slice.Eq.{bytes_eq-Decides}
use Rattle.sha2.specs.Sha256.{sha256}
use Rattle.rtmfp_vlu.proofs.Bytes.{IsBytes}
use Rattle.rtmfp_forms.specs.Address.{AddressParts}
use Rattle.rtmfp_chunks.specs.Chunk.{IIKeying, Spells}
use Rattle.rtmfp_packet.specs.declared.head.Mode.TheVariants.{Startup as StartupMode}
use Rattle.rtmfp_packet.specs.Walk.{Placed}
use Rattle.rtmfp_packet.specs.Whole.{Whole}
use Rattle.cookies.specs.declared.CookieTest.{CookieTest}
use Rattle.cookies.specs.declared.CookieTest.TheVariants.{Current}
use Rattle.cookies.specs.Cookie.{cookie_test, IsAnswer}
use Rattle.cookies.proofs.Reading.{test_is_right}
use Rattle.identity.specs.Order.{Prevails, is_above}
use Rattle.identity.proofs.Above.{one_above}
use Rattle.identity.specs.declared.cert.CertFault.TheVariants.{Short, LongName, NotAscii}
use Rattle.identity.specs.Certificates.{IsCertificate, has_ascii_name, certificate_fault}
use Rattle.glare_core.specs.declared.facts.Fact.{Fact}
use Rattle.glare_core.specs.declared.facts.Held.{Held}
use Rattle.glare_core.specs.declared.facts.Held.TheVariants.{Opening, HalfOpen, KeptAsResponder, KeptAsInitiator}
use Rattle.glare_core.specs.declared.answers.Keying.{Keying}
use Rattle.glare_core.specs.declared.answers.HearRefusal.{HearRefusal}
use Rattle.glare_core.specs.declared.answers.HearRefusal.TheVariants.{Stale, Glare, PeersFull, SessionsFull}
use Rattle.glare_core.specs.Standing.{held}
use Rattle.glare_core.specs.Things.{IsAttempt}
use Rattle.glare_core.specs.Ledger.{Ledger, held_with, floor_of, row_count}
use Rattle.rtmfp_base.specs.Reasons.{where_true, first_that_stands}
use Rattle.glare_core.specs.Calls.{is_born_of, again_of, glare_of, peers_full, birth_refusal, hear_refusal}
use Rattle.glare_core.proofs.Accounts.{reads_held, reads_floor, reads_knows, reads_rows}
use Rattle.rtmfp_base.specs.declared.cause.Cause.TheVariants.{WrongResponder, OwnCertificate}
use Rattle.startup_packets.specs.Packets.{is_signed}
use Rattle.startup_packets.specs.Readings.{InitiatorKeying, initiator_keying_in}
use Rattle.startup.specs.Attempts.{is_own}
use Rattle.startup.specs.Keyings.{keying_of, heard_cause, named_cause, cookie_cause, repeated_session}
use Rattle.endpoint_model.specs.Event.{Setup, own_of}
use Rattle.endpoint_laws.specs.Contexts.{Secrets, OpensFirst, startup_contexts}
use Rattle.endpoint_laws.specs.Past.{Past, facts_of}
use Rattle.endpoint_model.specs.Keying.{IsFirst, chunks_of, initiator_part, IsAmong}
use Rattle.endpoint_laws.specs.Admissible.{Admissible, Offer}
use Rattle.endpoint_laws.specs.Laws.{AreBytes}
use Rattle.endpoint_model.specs.State.{State, full}
use Rattle.endpoint_laws.proofs.Facts.{all_none, test_fails}
use Rattle.endpoint_laws.proofs.Says.{initiator_says}
use Rattle.endpoint_laws.proofs.Spelled.{initiator_signed}
use Rattle.endpoint_laws.proofs.Starting.{room_left, row_left}
use Rattle.endpoint_laws.proofs.Tied.{Tied}
use Rattle.endpoint_laws.proofs.Admitting.{IsRead}
use Rattle.std.specs.FinMap.{get}
use Rattle.crypto_profile.specs.declared.keys.Context.TheVariants.{Startup as StartupContext}
use Rattle.crypto_profile.specs.declared.group.GroupSecret.{GroupSecret}
use Rattle.endpoint_laws.proofs.Knowing.{signed_known}

-- ---- small facts

pub to_bytes : (bytes : List ℕ) → IsBytes bytes → AreBytes bytes
to_bytes [] are k d lt = absurd (omega arith)
to_bytes (b ∷ bytes) are zero d lt = are 0
to_bytes (b ∷ bytes) are (suc k) d lt = to_bytes bytes (λ i. are (suc i)) k d (omega arith)

pub good_certificate : (cert : List ℕ) → is_some (certificate_fault cert) ≡ false → IsCertificate cert
good_certificate cert e = by (nat_lt (length cert) 17) (nat_lt 80 (length cert)) (has_ascii_name cert) refl refl refl e
  where
    by : (a b c : Bool) → nat_lt (length cert) 17 ≡ a → nat_lt 80 (length cert) ≡ b → has_ascii_name cert ≡ c →
        is_some (if a then Some Short else (if b then Some LongName else (if c then None else Some NotAscii))) ≡ false → IsCertificate cert
    by true b c p q r e = absurd (cc)
    by false true c p q r e = absurd (cc)
    by false false true p q r e = record { named = grind (arith, nat_tests); short_named = grind (arith, nat_tests); ascii = r }
    by false false false p q r e = absurd (cc)

not_true : (b : Bool) → not b ≡ false → b ≡ true
not_true true e = refl
not_true false e = absurd (cc)

or_false : (a b : Bool) → (a || b) ≡ false → (a ≡ false) × (b ≡ false)
or_false true b e = absurd (cc)
or_false false b e = (refl, e)

none_then : (o : Bool) (free : Bool) → (o && not free) ≡ false → o ≡ true → free ≡ true
none_then true true e is = refl
none_then true false e is = absurd (cc)
none_then false free e is = absurd (cc)

is_none_is : {A : Type 0} (o : Option A) → is_none o ≡ true → o ≡ None
is_none_is None e = refl
is_none_is (Some x) e = absurd (cc)

other_bytes : (x y : List ℕ) → bytes_eq x y ≡ false → x ≢ y
other_bytes x y e is = let clash : true ≡ false = sym ((bytes_eq-Decides x y).1 is) ∙ e in cc

above_floor : (n floor : ℕ) → nat_le n floor ≡ false → floor < n
above_floor n floor e = grind (arith, nat_tests)

narrow_is : (n : ℕ) → nat_lt 128 n ≡ false → n ≤ 128
narrow_is n e = grind (arith, nat_tests)

beaten : (own peer : List ℕ) → own ≢ peer → is_above own peer ≡ false → Prevails peer own
beaten own peer other e = elim (one_above own peer other) [ inl p ↦ absurd (cc) | inr p ↦ p ]

-- ---- a ledger's refusal has a cause

abbrev Tells : Option ℕ → Option HearRefusal → Type 0
Tells limit o = heard_cause limit o ≡ None → o ≡ None

tells_first : (limit : Option ℕ) (x : Option HearRefusal) (rest : List (Option HearRefusal)) → Tells limit x → Tells limit (first_that_stands rest) → Tells limit (first_that_stands (x ∷ rest))
tells_first limit None rest p q = q
tells_first limit (Some why) rest p q = p

tells_true : (limit : Option ℕ) (b : Bool) (why : HearRefusal) → (heard_cause limit (Some why) ≡ None → ⊥) → Tells limit (where_true b why)
tells_true limit true why some e = absurd (some e)
tells_true limit false why some e = refl

tells_glare : (limit : Option ℕ) (own peer : List ℕ) (thing : Option Held) → Tells limit (glare_of own peer thing)
tells_glare limit own peer None e = refl
tells_glare limit own peer (Some (Opening n near ni)) e = tells_true limit (is_above own peer) (Glare n) (λ e. cc) e
tells_glare limit own peer (Some (HalfOpen j)) e = refl
tells_glare limit own peer (Some (KeptAsResponder j)) e = refl
tells_glare limit own peer (Some (KeptAsInitiator j)) e = refl

tells_if : (limit : Option ℕ) (b : Bool) (o : Option HearRefusal) → Tells limit o → Tells limit (if b then None else o)
tells_if limit true o p e = refl
tells_if limit false o p e = p e

tells_refusal : (limit : Option ℕ) (l : Ledger) (keying : Keying) (free : Bool) → Tells limit (hear_refusal l keying free)
tells_refusal limit l keying free =
    let last : List (Option HearRefusal) = where_true (is_none (held_with l keying.peer) && not free) SessionsFull ∷ [] in
    let row : List (Option HearRefusal) = where_true (peers_full l keying.peer) (PeersFull (row_count l)) ∷ last in
    let glare : List (Option HearRefusal) = glare_of l.own keying.peer (held_with l keying.peer) ∷ row in
    tells_if limit (is_some (again_of (held_with l keying.peer) keying)) (birth_refusal l keying free)
    (tells_first limit (where_true (nat_le keying.n (floor_of l keying.peer)) (Stale (floor_of l keying.peer))) glare (tells_true limit (nat_le keying.n (floor_of l keying.peer)) (Stale (floor_of l keying.peer)) (λ e. cc))
    (tells_first limit (glare_of l.own keying.peer (held_with l keying.peer)) row (tells_glare limit l.own keying.peer (held_with l keying.peer))
    (tells_first limit (where_true (peers_full l keying.peer) (PeersFull (row_count l))) last (tells_true limit (peers_full l keying.peer) (PeersFull (row_count l)) (λ e. cc))
    (tells_first limit (where_true (is_none (held_with l keying.peer) && not free) SessionsFull) [] (tells_true limit (is_none (held_with l keying.peer) && not free) SessionsFull (λ e. cc)) (λ e. refl)))))

-- ---- what a keying is that isn't discarded

pub record IsHeard (s : State) (group : GroupSecret) (from : AddressParts) (payload : List ℕ) (keying : InitiatorKeying) : Type 0 where
  pub reads : initiator_keying_in payload ≡ Ok keying
  pub signed : is_signed group.secret payload keying.sign ≡ true
  pub narrow : nat_lt 128 (length keying.cookie) ≡ false
  pub cause : cookie_cause (cookie_test s.startup.cookie_secret keying.cookie from s.moment) (named_cause s.startup keying (full s)) ≡ None

-- with a good cookie
pub record IsNamed (s : State) (keying : InitiatorKeying) : Type 0 where
  pub responder : keying.part.responder ≡ sha256 s.startup.cert
  pub other : keying.cert ≢ s.startup.cert
  pub other_print : sha256 keying.cert ≢ sha256 s.startup.cert
  pub refusal : hear_refusal s.startup.ledger (keying_of keying) (is_none (full s)) ≡ None

pub named_of : (s : State) (keying : InitiatorKeying) (test : CookieTest) → test ≡ Current → cookie_cause test (named_cause s.startup keying (full s)) ≡ None → IsNamed s keying
named_of s keying test current e =
    let none : named_cause s.startup keying (full s) ≡ None = sym (ap (λ t. cookie_cause t (named_cause s.startup keying (full s))) current) ∙ e in
    let all = all_none (
    where_true (not (bytes_eq keying.part.responder (sha256 s.startup.cert))) WrongResponder
    ∷ where_true (is_own s.startup keying.cert) OwnCertificate
    ∷ heard_cause (full s) (hear_refusal s.startup.ledger (keying_of keying) (is_none (full s)))
    ∷ []) none in
    let own = or_false (bytes_eq keying.cert s.startup.cert) (bytes_eq (sha256 keying.cert) (sha256 s.startup.cert)) (test_fails (is_own s.startup keying.cert) OwnCertificate all.1.0) in
    record {
      responder = (bytes_eq-Decides keying.part.responder (sha256 s.startup.cert)).0
          (not_true (bytes_eq keying.part.responder (sha256 s.startup.cert)) (test_fails (not (bytes_eq keying.part.responder (sha256 s.startup.cert))) WrongResponder all.0));
      other = other_bytes keying.cert s.startup.cert own.0;
      other_print = other_bytes (sha256 keying.cert) (sha256 s.startup.cert) own.1;
      refusal = tells_refusal (full s) s.startup.ledger (keying_of keying) (is_none (full s)) all.1.1.0;
    }

-- ---- of which a session is born

pub not_again : (thing : Option Held) (keying : Keying) → repeated_session thing keying ≡ None → again_of thing keying ≡ None
not_again None keying e = refl
not_again (Some (Opening n near ni)) keying e = refl
not_again (Some (HalfOpen j)) keying e = ap (λ b. where_true b j.near) (test_fails (is_born_of j keying) j e)
not_again (Some (KeptAsResponder j)) keying e = ap (λ b. where_true b j.near) (test_fails (is_born_of j keying) j e)
not_again (Some (KeptAsInitiator j)) keying e = refl

pub record MayBear (s : State) (keying : Keying) : Type 0 where
  pub above : floor_of s.startup.ledger keying.peer < keying.n
  pub glare : glare_of s.startup.ledger.own keying.peer (held_with s.startup.ledger keying.peer) ≡ None
  pub row : peers_full s.startup.ledger keying.peer ≡ false
  pub place : held_with s.startup.ledger keying.peer ≡ None → full s ≡ None

pub may_bear : (s : State) (keying : Keying) → again_of (held_with s.startup.ledger keying.peer) keying ≡ None → hear_refusal s.startup.ledger keying (is_none (full s)) ≡ None → MayBear s keying
may_bear s keying again none =
    let l : Ledger = s.startup.ledger in
    let birth : birth_refusal l keying (is_none (full s)) ≡ None = sym (ap (λ o. if is_some o then None else birth_refusal l keying (is_none (full s))) again) ∙ none in
    let all = all_none (
    where_true (nat_le keying.n (floor_of l keying.peer)) (Stale (floor_of l keying.peer))
    ∷ glare_of l.own keying.peer (held_with l keying.peer)
    ∷ where_true (peers_full l keying.peer) (PeersFull (row_count l))
    ∷ where_true (is_none (held_with l keying.peer) && not (is_none (full s))) SessionsFull
    ∷ []) birth in
    record {
      above = above_floor keying.n (floor_of l keying.peer) (test_fails (nat_le keying.n (floor_of l keying.peer)) (Stale (floor_of l keying.peer)) all.0);
      glare = all.1.0;
      row = test_fails (peers_full l keying.peer) (PeersFull (row_count l)) all.1.1.0;
      place = λ held_none. is_none_is (full s)
          (none_then (is_none (held_with l keying.peer)) (is_none (full s)) (test_fails (is_none (held_with l keying.peer) && not (is_none (full s))) SessionsFull all.1.1.1.0) (ap (λ (o : Option Held). is_none o) held_none));
    }

prevailed : (own peer : List ℕ) (thing : Held) → own ≢ peer → glare_of own peer (Some thing) ≡ None → IsAttempt thing → Prevails peer own
prevailed own peer (Opening n near ni) other e is = beaten own peer other (test_fails (is_above own peer) (Glare n) e)
prevailed own peer (HalfOpen j) other e is = absurd is
prevailed own peer (KeptAsResponder j) other e is = absurd is
prevailed own peer (KeptAsInitiator j) other e is = absurd is

abbrev pub offer_of : InitiatorKeying → Offer
offer_of keying = record { peer = sha256 keying.cert; n = keying.part.n; ni = keying.part.ni; far = keying.near }

pub admissible : (secrets : Secrets) (setup : Setup) (past : Past) (s : State) (from : AddressParts) (datagram : List ℕ) (packet : Whole) (c : Placed) (keying : InitiatorKeying) (group : GroupSecret) (generation : ℕ) → get secrets generation ≡ Some group.secret → Tied secrets setup past s →
    (read : IsRead secrets generation 0 datagram packet) → OpensFirst secrets (startup_contexts setup past) 0 datagram (StartupContext generation) read.reads.plain → packet.head.mode ≡ StartupMode → IsAmong c (chunks_of packet) → IsFirst c (chunks_of packet) → c.kind ≡ 0x38 → IsHeard s group from c.payload keying →
    cookie_test s.startup.cookie_secret keying.cookie from s.moment ≡ Current → IsNamed s keying → MayBear s (keying_of keying) → Admissible secrets setup past s.moment from datagram (offer_of keying)
admissible secrets setup past s from datagram packet c keying group generation known tied read opens mode among first kind heard current named may =
    let facts : List Fact = facts_of past in
    let peer : List ℕ = sha256 keying.cert in
    let says = initiator_says c.payload keying (read.bytes c among) heard.reads in
    let own : sha256 s.startup.cert ≡ own_of setup = ap sha256 tied.cert in
    let responder : keying.part.responder ≡ own_of setup = named.responder ∙ own in
    let held_is : held_with s.startup.ledger peer ≡ held peer facts = reads_held 0 s.startup.ledger facts tied.account peer in
    let other : own_of setup ≢ peer = λ e. named.other_print (sym e ∙ sym own) in
    let signed = initiator_signed group.secret c.payload keying.near keying.cookie keying.cert (initiator_part keying.part.ni keying.part.n keying.part.responder) keying.sign says.spells heard.signed in
    record {
      packet = packet;
      generation = generation;
      reads = read.reads;
      opens = opens;
      mode = mode;
      chunk = c;
      first = first;
      cookie = keying.cookie;
      cert = keying.cert;
      sign = keying.sign;
      spells =
          subst (λ k. Spells (IIKeying keying.near keying.cookie keying.cert (initiator_part keying.part.ni keying.part.n (own_of setup)) keying.sign) k c.payload) (sym kind)
          (subst (λ r. Spells (IIKeying keying.near keying.cookie keying.cert (initiator_part keying.part.ni keying.part.n r) keying.sign) 0x38 c.payload) responder says.spells);
      number = says.number;
      nonce_size = says.nonce;
      far = says.some;
      is_cert = good_certificate keying.cert says.good;
      peer = refl;
      signed = signed_known secrets (StartupContext generation) group.secret known 0 datagram read.reads.plain read.reads.opens c.payload keying.sign signed;
      narrow = narrow_is (length keying.cookie) heard.narrow;
      current = subst (λ x. IsAnswer x keying.cookie from s.moment Current) tied.cookie_secret
          (subst (IsAnswer s.startup.cookie_secret keying.cookie from s.moment) current (test_is_right s.startup.cookie_secret keying.cookie from s.moment (to_bytes keying.cookie says.cookie_are)));
      other = λ e. named.other (e ∙ sym tied.cert);
      above = subst (λ n. n < keying.part.n) (reads_floor 0 s.startup.ledger facts tied.account peer) may.above;
      prevails = λ thing is attempt.
          prevailed (own_of setup) peer thing other (subst (λ o. glare_of o peer (Some thing) ≡ None) tied.own (subst (λ o. glare_of s.startup.ledger.own peer o ≡ None) (held_is ∙ is) may.glare)) attempt;
      row = elim (row_left secrets setup past s peer tied may.row) [
        | inl known ↦ inl (sym (reads_knows 0 s.startup.ledger facts tied.account peer) ∙ known)
        | inr less ↦ inr (subst (λ n. n < setup.config.max_peers) (reads_rows 0 s.startup.ledger facts tied.account) less)
      ];
      place = λ none. subst (λ n. n < setup.config.max_sessions) tied.count (room_left secrets setup past s tied (may.place (held_is ∙ none)));
    }
