-- An admissible keying reads, and no cause stands against it.
use Rattle.std.proofs.Common.{◌≡◌, ◌≢◌, ℕ, ◌+◌, ◌-◌, ◌^◌, ◌<◌, ◌≤◌, ◌==◌, List, [], ◌∷◌, ◌++◌, length, take, drop, nat_lt, nat_le, Bool, true, false, not, ◌&&◌, ◌||◌, cond, max, if◌then◌else◌, is_some, Option, Some, None, Ok, Err, inl, inr, ◌⊎◌, refl, sym, ap, subst, ◌∙◌, arith, append_assoc, length-append}
use Rattle.std.specs.Prelude.{is_none}
use Rattle.std.specs.FinMap.{get}
use Rattle.std.specs.List.{list_any}
use Rattle.std.specs.Int.{w64, to_be_bytes, from_be_bytes}
use Rattle.std.specs.Str.{bytes_eq}
use Rattle.std.proofs.lemmas.Bool.{eq-eqb}
use Rattle.std.proofs.lemmas.Bool.Decides.{nat_tests}
use Rattle.std.proofs.lemmas.List.{take_at, drop_at}
use Rattle.std.proofs.lemmas.Nat.{from_be_bytes-to_be_bytes_8}
use Rattle.std.proofs.lemmas.Slice.Eq.{bytes_eq-Decides}
use Rattle.sha2.specs.Sha256.{sha256}
use Rattle.sha2.proofs.Facts256.{length-sha256}
use Rattle.crypto_profile.specs.Hmac.{hmac}
use Rattle.crypto_profile.specs.Keys.{sign_key_of}
use Rattle.rtmfp_forms.specs.Address.{AddressParts, is_same_place}
use Rattle.rtmfp_forms.proofs.Places.{same_place}
use Rattle.rtmfp_chunks.specs.Chunk.{IIKeying, Spells}
use Rattle.rtmfp_chunks.proofs.ReadingLaws.{reading_is}
use Rattle.cookies.specs.declared.CookieTest.TheVariants.{Moved, Expired, Current}
use Rattle.cookies.specs.Cookie.{IsAnswer, observed, test_of, cookie_test}
use Rattle.cookies.proofs.Reading.{cookie_back}
use Rattle.identity.specs.Order.{Prevails, is_above}
use Rattle.identity.proofs.Above.{never_both}
use Rattle.identity.specs.declared.cert.CertFault.TheVariants.{Short, LongName, NotAscii}
use Rattle.identity.specs.Certificates.{IsCertificate, has_ascii_name, certificate_fault}
use Rattle.glare_core.specs.declared.facts.Fact.{Fact}
use Rattle.glare_core.specs.declared.facts.Fact.TheVariants.{Started, Born, Opened, Confirmed, Ended}
use Rattle.glare_core.specs.declared.facts.Joined.{Joined}
use Rattle.glare_core.specs.declared.facts.Held.{Held}
use Rattle.glare_core.specs.declared.facts.Held.TheVariants.{Opening, HalfOpen, KeptAsResponder, KeptAsInitiator}
use Rattle.glare_core.specs.declared.answers.Keying.{Keying}
use Rattle.glare_core.specs.declared.answers.HearRefusal.TheVariants.{Stale, Glare, PeersFull, SessionsFull}
use Rattle.glare_core.specs.Standing.{held, seen, seen_in, after, peer_of, peers_in}
use Rattle.glare_core.specs.Things.{IsAttempt}
use Rattle.glare_core.specs.Ledger.{Ledger, held_with, floor_of, knows, row_count}
use Rattle.rtmfp_base.specs.Reasons.{where_true, first_that_stands}
use Rattle.glare_core.specs.Calls.{is_born_of, again_of, glare_of, peers_full, birth_refusal, hear_refusal}
use Rattle.glare_core.specs.Account.{StandsFor}
use Rattle.glare_core.proofs.Accounts.{reads_held, reads_floor, reads_knows, reads_rows}
use Rattle.rtmfp_base.specs.declared.cause.Cause.TheVariants.{BadSignature, Wide, WrongResponder, OwnCertificate, Malformed}
use Rattle.startup_packets.specs.Packets.{initiator_part_in, is_signed, is_signed_by, before_signature}
use Rattle.startup_packets.specs.Readings.{InitiatorKeying, part_offset, cert_offset, with_initiator_part, initiator_fields, initiator_keying_in}
use Rattle.startup.specs.Keyings.{keying_of, heard_cause, named_cause, cookie_cause, initiator_cause, cause_by, iikeying_cause, repeated_session}
use Rattle.startup.specs.Attempts.{is_own}
use Rattle.crypto_profile.specs.declared.keys.Context.TheVariants.{Startup as StartupContext}
use Rattle.endpoint_model.specs.Event.{Setup, own_of}
use Rattle.endpoint_laws.specs.Past.{Past, facts_of, ids_in_use}
use Rattle.endpoint_model.specs.Keying.{IsSigned, initiator_part}
use Rattle.endpoint_laws.specs.Admissible.{Admissible, Offer}
use Rattle.endpoint_model.specs.State.{State, full, uses}
use Rattle.endpoint_laws.proofs.Facts.{AllNone}
use Rattle.endpoint_laws.proofs.Tied.{Tied}
use Rattle.crypto_profile.specs.declared.group.GroupSecret.{GroupSecret}
use Rattle.endpoint_laws.specs.Contexts.{Secrets}
use Rattle.endpoint_laws.proofs.Knowing.{known_signed}

-- ---- small facts

pub none_all : {A : Type 0} (l : List (Option A)) → AllNone l → first_that_stands l ≡ None
none_all [] all = refl
none_all (None ∷ rest) all = none_all rest all.1
none_all (Some x ∷ rest) all = absurd (let clash : Some x ≡ None = all.0 in cc)

where_false : {A : Type 0} (b : Bool) (a : A) → b ≡ false → where_true b a ≡ None
where_false true a e = absurd (cc)
where_false false a e = refl

not_zero : (n : ℕ) → n ≢ 0 → (n == 0) ≡ false
not_zero n other = grind (arith, nat_tests)

same_is_true : (x y : List ℕ) → x ≡ y → bytes_eq x y ≡ true
same_is_true x y e = (bytes_eq-Decides x y).1 e

other_is_false : (x y : List ℕ) → x ≢ y → bytes_eq x y ≡ false
other_is_false x y other = by (bytes_eq x y) refl
  where
    by : (b : Bool) → bytes_eq x y ≡ b → bytes_eq x y ≡ false
    by true e = absurd (other ((bytes_eq-Decides x y).0 e))
    by false e = e

-- ---- it reads

if_then : {A : Type 0} (b : Bool) (x y : A) → b ≡ true → (if b then x else y) ≡ x
if_then true x y e = refl
if_then false x y e = absurd (cc)

part_read : (ni own : List ℕ) (n : ℕ) → length ni ≡ 16 → length own ≡ 32 → n < 2 ^ 64 → initiator_part_in (initiator_part ni n own) ≡ Some (record { ni = ni; n = n; responder = own })
unfolding initiator_part_in
part_read ni own n p q small =
    let word : List ℕ = to_be_bytes w64 n in
    let part : List ℕ = initiator_part ni n own in
    let whole : part ≡ ni ++ (word ++ own) = append_assoc ni word own in
    let front : length (ni ++ word) ≡ 24 = omega (arith, length-append ni word, p) in
    let size : length part ≡ 56 = omega (arith, length-append (ni ++ word) own, front, q) in
    let first : take 16 part ≡ ni = ap (take 16) whole ∙ take_at ni (word ++ own) 16 p in
    let middle : drop 16 part ≡ word ++ own = ap (drop 16) whole ∙ drop_at ni (word ++ own) 16 p in
    let number : from_be_bytes w64 (take 8 (drop 16 part)) ≡ n =
    ap (λ xs. from_be_bytes w64 (take 8 xs)) middle ∙ ap (from_be_bytes w64) (take_at word own 8 refl) ∙ from_be_bytes-to_be_bytes_8 n small in
    let last : drop 24 part ≡ own = drop_at (ni ++ word) own 24 front in
    if_then (length part == 56) _ None (eq-eqb (length part) 56 size) ∙ (λ i. Some (record { ni = first i; n = number i; responder = last i }))

good_certificate : (cert : List ℕ) → IsCertificate cert → is_some (certificate_fault cert) ≡ false
good_certificate cert is =
    let a : nat_lt (length cert) 17 ≡ false = grind (arith, nat_tests, is.named) in
    let b : nat_lt 80 (length cert) ≡ false = grind (arith, nat_tests, is.short_named) in
    ap (λ (t : Bool). is_some (if t then Some Short else (if nat_lt 80 (length cert) then Some LongName else (if has_ascii_name cert then None else Some NotAscii)))) a
    ∙ ap (λ (t : Bool). is_some (if t then Some LongName else (if has_ascii_name cert then None else Some NotAscii))) b
    ∙ ap (λ (t : Bool). is_some (if t then None else Some NotAscii)) is.ascii

abbrev pub read_as : ℕ → List ℕ → List ℕ → List ℕ → ℕ → List ℕ → List ℕ → InitiatorKeying
read_as far cookie cert ni n own sign = record { near = far; cookie = cookie; cert = cert; part = record { ni = ni; n = n; responder = own }; sign = sign }

pub keying_reads : (payload : List ℕ) (far : ℕ) (cookie cert ni own sign : List ℕ) (n : ℕ) → Spells (IIKeying far cookie cert (initiator_part ni n own) sign) 0x38 payload →
    far ≢ 0 → IsCertificate cert → length ni ≡ 16 → length own ≡ 32 → n < 2 ^ 64 → initiator_keying_in payload ≡ Ok (read_as far cookie cert ni n own sign)
unfolding initiator_keying_in
keying_reads payload far cookie cert ni own sign n spells some is_cert p q small =
    let part : List ℕ = initiator_part ni n own in
    let at : ℕ = part_offset payload part sign in
    ap (initiator_fields payload) (sym (reading_is 0x38 payload (Ok (IIKeying far cookie cert part sign)) spells))
    ∙ ap (λ (b : Bool). if b then Err (Malformed 0) else if is_some (certificate_fault cert) then Err (Malformed (cert_offset payload (length cookie))) else with_initiator_part at far cookie cert sign (initiator_part_in part)) (not_zero far some)
    ∙ ap (λ (b : Bool). if b then Err (Malformed (cert_offset payload (length cookie))) else with_initiator_part at far cookie cert sign (initiator_part_in part)) (good_certificate cert is_cert)
    ∙ ap (with_initiator_part at far cookie cert sign) (part_read ni own n p q small)

-- ---- its signature and its cookie are good

signed_again : (secret payload sign : List ℕ) → IsSigned secret payload sign → is_signed secret payload sign ≡ true
unfolding is_signed_by
signed_again secret payload sign s =
    let before : before_signature payload sign ≡ s.before =
    ap (λ n. take n payload) (let count : length payload - length sign ≡ length s.before = omega (arith, ap length s.whole, length-append s.before sign) in count)
    ∙ ap (take (length s.before)) s.whole ∙ take_at s.before sign (length s.before) refl in
    same_is_true (hmac (sign_key_of secret) (before_signature payload sign)) sign (ap (hmac (sign_key_of secret)) before ∙ sym s.signature)

pub current_again : (secret cookie : List ℕ) (from : AddressParts) (now : ℕ) → IsAnswer secret cookie from now Current → cookie_test secret cookie from now ≡ Current
current_again secret cookie from now h =
    let a : AddressParts = h.0 in
    let m : ℕ = h.1 in
    let here : is_same_place (observed a) from ≡ true = same_place (observed a) from (record { family = h.3.family; host = h.3.host; port = h.3.port }) in
    let young : nat_lt (m + 95000) now ≡ false = grind (arith, nat_tests, h.4) in
    ap (λ o. test_of o from now) (cookie_back secret a m cookie h.2)
    ∙ ap (λ (b : Bool). if b then (if nat_lt (m + 95000) now then Expired else Current) else Moved) here
    ∙ ap (λ (b : Bool). if b then Expired else Current) young

-- ---- it wasn't heard before

-- The number of a session that was born here is at most this.
abbrev BornWithin : Held → ℕ → Type 0
BornWithin (Opening n near ni) most = Unit {0}
BornWithin (HalfOpen j) most = j.n ≤ most
BornWithin (KeptAsResponder j) most = j.n ≤ most
BornWithin (KeptAsInitiator j) most = Unit {0}

within_more : (thing : Held) (a b : ℕ) → a ≤ b → BornWithin thing a → BornWithin thing b
within_more (Opening n near ni) a b le w = tt
within_more (HalfOpen j) a b le w = omega (arith, le, w)
within_more (KeptAsResponder j) a b le w = omega (arith, le, w)
within_more (KeptAsInitiator j) a b le w = tt

some_thing : (most : ℕ) (x thing : Held) → ◌≡◌ {A = Option Held} (Some x) (Some thing) → BornWithin x most → BornWithin thing most
some_thing most x thing e w = let same : x ≡ thing = cc in subst (λ (h : Held). BornWithin h most) same w

within_after : (fact : Fact) (o : Option Held) (n : ℕ) (thing : Held) → ((h : Held) → o ≡ Some h → BornWithin h n) → after fact o ≡ Some thing → BornWithin thing (max (seen_in fact) n)
within_after (Started peer m near ni) o n thing was e = some_thing (max 0 n) (Opening m near ni) thing e tt
within_after (Born j) o n thing was e = some_thing (max j.n n) (HalfOpen j) thing e (omega arith)
within_after (Opened j) None n thing was e = absurd (cc)
within_after (Opened j) (Some (Opening m near ni)) n thing was e = some_thing (max j.k n) (KeptAsInitiator j) thing e tt
within_after (Opened j) (Some (HalfOpen h)) n thing was e = some_thing (max j.k n) (HalfOpen h) thing e (within_more (HalfOpen h) n (max j.k n) (omega arith) (was (HalfOpen h) refl))
within_after (Opened j) (Some (KeptAsResponder h)) n thing was e = some_thing (max j.k n) (KeptAsResponder h) thing e (within_more (KeptAsResponder h) n (max j.k n) (omega arith) (was (KeptAsResponder h) refl))
within_after (Opened j) (Some (KeptAsInitiator h)) n thing was e = some_thing (max j.k n) (KeptAsInitiator h) thing e tt
within_after (Confirmed peer near) None n thing was e = absurd (cc)
within_after (Confirmed peer near) (Some (Opening m k ni)) n thing was e = some_thing (max 0 n) (Opening m k ni) thing e tt
within_after (Confirmed peer near) (Some (HalfOpen h)) n thing was e = some_thing (max 0 n) (KeptAsResponder h) thing e (within_more (HalfOpen h) n (max 0 n) (omega arith) (was (HalfOpen h) refl))
within_after (Confirmed peer near) (Some (KeptAsResponder h)) n thing was e = some_thing (max 0 n) (KeptAsResponder h) thing e (within_more (KeptAsResponder h) n (max 0 n) (omega arith) (was (KeptAsResponder h) refl))
within_after (Confirmed peer near) (Some (KeptAsInitiator h)) n thing was e = some_thing (max 0 n) (KeptAsInitiator h) thing e tt
within_after (Ended peer near why) o n thing was e = absurd (cc)

-- the number of a session that was born and is held was seen
held_was_seen : (peer : List ℕ) (facts : List Fact) (thing : Held) → held peer facts ≡ Some thing → BornWithin thing (seen peer facts)
held_was_seen peer [] thing e = absurd (cc)
held_was_seen peer (fact ∷ earlier) thing e = by (bytes_eq (peer_of fact) peer) (λ h is. held_was_seen peer earlier h is) e
  where
    by : (b : Bool) → ((h : Held) → held peer earlier ≡ Some h → BornWithin h (seen peer earlier)) → cond b (after fact (held peer earlier)) (held peer earlier) ≡ Some thing →
        BornWithin thing (cond b (max (seen_in fact) (seen peer earlier)) (seen peer earlier))
    by true was e = within_after fact (held peer earlier) (seen peer earlier) thing was e
    by false was e = was thing e

unborn : (j : Joined) (keying : Keying) → j.n < keying.n → is_born_of j keying ≡ false
unborn j keying less =
    let other : (j.n == keying.n) ≡ false = grind (arith, nat_tests) in
    ap (λ (b : Bool). b && bytes_eq j.ni keying.ni && (j.far == keying.far)) other

not_again : (o : Option Held) (keying : Keying) (most : ℕ) → ((h : Held) → o ≡ Some h → BornWithin h most) → most < keying.n → (again_of o keying ≡ None) × (repeated_session o keying ≡ None)
not_again None keying most was less = (refl, refl)
not_again (Some (Opening n near ni)) keying most was less = (refl, refl)
not_again (Some (HalfOpen j)) keying most was less =
    let at_most : j.n ≤ most = was (HalfOpen j) refl in
    let new = unborn j keying (omega (arith, at_most, less)) in
    (where_false (is_born_of j keying) j.near new, where_false (is_born_of j keying) j new)
not_again (Some (KeptAsResponder j)) keying most was less =
    let at_most : j.n ≤ most = was (KeptAsResponder j) refl in
    let new = unborn j keying (omega (arith, at_most, less)) in
    (where_false (is_born_of j keying) j.near new, where_false (is_born_of j keying) j new)
not_again (Some (KeptAsInitiator j)) keying most was less = (refl, refl)

-- ---- and the ledger lets it bear

glare_none : (own peer : List ℕ) (o : Option Held) → ((thing : Held) → o ≡ Some thing → IsAttempt thing → Prevails peer own) → glare_of own peer o ≡ None
glare_none own peer None prevails = refl
glare_none own peer (Some (Opening n near ni)) prevails = by (is_above own peer) refl
  where
    by : (b : Bool) → is_above own peer ≡ b → where_true b (Glare n) ≡ None
    by true e = absurd (never_both own peer e (prevails (Opening n near ni) refl tt))
    by false e = refl
glare_none own peer (Some (HalfOpen j)) prevails = refl
glare_none own peer (Some (KeptAsResponder j)) prevails = refl
glare_none own peer (Some (KeptAsInitiator j)) prevails = refl

row_free : (knows full : Bool) → (knows ≡ true) ⊎ (full ≡ false) → (not knows && full) ≡ false
row_free true full (inl e) = refl
row_free false full (inl e) = absurd (cc)
row_free true full (inr e) = refl
row_free false full (inr e) = e

place_free : (o : Option Held) (limit : Option ℕ) → (o ≡ None → limit ≡ None) → (is_none o && not (is_none limit)) ≡ false
place_free None limit free = ap (λ (x : Option ℕ). not (is_none x)) (free refl)
place_free (Some thing) limit free = refl

not_full : (most used : ℕ) → used < most → (if nat_le most used then Some most else None) ≡ None
not_full most used less = by (nat_le most used) refl
  where
    by : (b : Bool) → nat_le most used ≡ b → (if b then Some most else None) ≡ None
    by true e = absurd (grind (arith, nat_tests))
    by false e = refl

pub less_is_other : (a b : ℕ) → a < b → (a == b) ≡ false
less_is_other a b less = grind (arith, nat_tests)

above_is_false : (n floor : ℕ) → floor < n → nat_le n floor ≡ false
above_is_false n floor less = grind (arith, nat_tests)

narrow_is_false : (n : ℕ) → n ≤ 128 → nat_lt 128 n ≡ false
narrow_is_false n le = grind (arith, nat_tests)

-- What stands of an admissible keying at an end that agrees with its facts.
pub record IsBearing (s : State) (group : GroupSecret) (from : AddressParts) (payload : List ℕ) (keying : InitiatorKeying) : Type 0 where
  pub reads : initiator_keying_in payload ≡ Ok keying
  pub cause : iikeying_cause s.startup payload from s.moment (full s) group ≡ None
  pub current : cookie_test s.startup.cookie_secret keying.cookie from s.moment ≡ Current
  pub again : again_of (held_with s.startup.ledger (keying_of keying).peer) (keying_of keying) ≡ None
  pub repeated : repeated_session (held_with s.startup.ledger (keying_of keying).peer) (keying_of keying) ≡ None

module _ (secrets : Secrets) (setup : Setup) (past : Past) (s : State) (tied : Tied secrets setup past s) (from : AddressParts) (datagram : List ℕ) (offer : Offer) (before : Past) (now : ℕ) (a : Admissible secrets setup before now from datagram offer)
    (same : facts_of past ≡ facts_of before) (same_ids : ids_in_use past ≡ ids_in_use before) (at : s.moment ≡ now) (other : offer.peer ≢ own_of setup) (group : GroupSecret) (known : get secrets a.generation ≡ Some group.secret) where
  abbrev l : Ledger
  l = s.startup.ledger

  abbrev facts : List Fact
  facts = facts_of before

  account : StandsFor 0 l facts
  account = subst (StandsFor 0 l) same tied.account

  abbrev pub read : InitiatorKeying
  read = read_as offer.far a.cookie a.cert offer.ni offer.n (own_of setup) a.sign

  abbrev k : Keying
  k = keying_of read

  reads : initiator_keying_in a.chunk.payload ≡ Ok read
  reads = keying_reads a.chunk.payload offer.far a.cookie a.cert offer.ni (own_of setup) a.sign offer.n
      (subst (λ kind. Spells (IIKeying offer.far a.cookie a.cert (initiator_part offer.ni offer.n (own_of setup)) a.sign) kind a.chunk.payload) a.spells.0 a.spells)
      a.far a.is_cert a.nonce_size (length-sha256 setup.cert) a.number

  peer_is : k.peer ≡ offer.peer
  peer_is = sym a.peer

  held_is : held_with l k.peer ≡ held offer.peer facts
  held_is = reads_held 0 l facts account k.peer ∙ ap (λ p. held p facts) peer_is

  floor_is : floor_of l k.peer ≡ seen offer.peer facts
  floor_is = reads_floor 0 l facts account k.peer ∙ ap (λ p. seen p facts) peer_is

  current : cookie_test s.startup.cookie_secret read.cookie from s.moment ≡ Current
  current = current_again s.startup.cookie_secret a.cookie from s.moment
      (subst (λ secret. IsAnswer secret a.cookie from s.moment Current) (sym tied.cookie_secret) (subst (λ m. IsAnswer setup.cookie_secret a.cookie from m Current) (sym at) a.current))

  new : (again_of (held_with l k.peer) k ≡ None) × (repeated_session (held_with l k.peer) k ≡ None)
  new = not_again (held_with l k.peer) k (seen offer.peer facts) (λ h is. held_was_seen offer.peer facts h (sym held_is ∙ is)) a.above

  glare : glare_of l.own k.peer (held_with l k.peer) ≡ None
  glare = glare_none l.own k.peer (held_with l k.peer) (λ thing is attempt.
      subst (λ p. Prevails p l.own) (sym peer_is) (subst (λ o. Prevails offer.peer o) (sym tied.own) (a.prevails thing (sym held_is ∙ is) attempt)))

  row : peers_full l k.peer ≡ false
  row = row_free (knows l k.peer) (row_count l == l.max_peers) (elim a.row [
    | inl known ↦ inl (reads_knows 0 l facts account k.peer ∙ ap (λ p. list_any (bytes_eq p) (peers_in facts)) peer_is ∙ known)
    | inr less ↦ inr (less_is_other (row_count l) l.max_peers (let few : length (peers_in facts) < setup.config.max_peers = less in omega (arith, few, reads_rows 0 l facts account, tied.max_peers)))
  ])

  place : held_with l k.peer ≡ None → full s ≡ None
  place none =
      let few : length (ids_in_use before) < setup.config.max_sessions = a.place (sym held_is ∙ none) in
      not_full s.config.max_sessions (uses s) (omega (arith, few, tied.count, ap length same_ids, ap (λ config. config.max_sessions) tied.config))

  birth : birth_refusal l k (is_none (full s)) ≡ None
  birth = none_all (
      where_true (nat_le k.n (floor_of l k.peer)) (Stale (floor_of l k.peer))
      ∷ glare_of l.own k.peer (held_with l k.peer)
      ∷ where_true (peers_full l k.peer) (PeersFull (row_count l))
      ∷ where_true (is_none (held_with l k.peer) && not (is_none (full s))) SessionsFull
      ∷ []) (
        where_false (nat_le k.n (floor_of l k.peer)) (Stale (floor_of l k.peer)) (above_is_false k.n (floor_of l k.peer) (omega (arith, floor_is, a.above))),
        (
          glare,
          (
            where_false (peers_full l k.peer) (PeersFull (row_count l)) row,
            (where_false (is_none (held_with l k.peer) && not (is_none (full s))) SessionsFull (place_free (held_with l k.peer) (full s) place), tt),
          ),
        ),
      )

  refusal : hear_refusal l k (is_none (full s)) ≡ None
  refusal = ap (λ o. if is_some o then None else birth_refusal l k (is_none (full s))) new.0 ∙ birth

  own_is : own_of setup ≡ sha256 s.startup.cert
  own_is = ap sha256 (sym tied.cert)

  not_own : is_own s.startup read.cert ≡ false
  not_own =
      let cert : bytes_eq a.cert s.startup.cert ≡ false = other_is_false a.cert s.startup.cert (λ e. a.other (e ∙ tied.cert)) in
      let print : bytes_eq (sha256 a.cert) (sha256 s.startup.cert) ≡ false = other_is_false (sha256 a.cert) (sha256 s.startup.cert) (λ e. other (a.peer ∙ e ∙ sym own_is)) in
      ap (λ (b : Bool). b || bytes_eq (sha256 a.cert) (sha256 s.startup.cert)) cert ∙ print

  named : named_cause s.startup read (full s) ≡ None
  named = none_all (
      where_true (not (bytes_eq read.part.responder (sha256 s.startup.cert))) WrongResponder
      ∷ where_true (is_own s.startup read.cert) OwnCertificate
      ∷ heard_cause (full s) (hear_refusal l k (is_none (full s)))
      ∷ []) (
        where_false (not (bytes_eq read.part.responder (sha256 s.startup.cert))) WrongResponder (ap not (same_is_true (own_of setup) (sha256 s.startup.cert) own_is)),
        (where_false (is_own s.startup read.cert) OwnCertificate not_own, (ap (heard_cause (full s)) refusal, tt)),
      )

  cause : initiator_cause s.startup a.chunk.payload from s.moment (full s) group read ≡ None
  cause = none_all (
      where_true (not (is_signed group.secret a.chunk.payload read.sign)) BadSignature
      ∷ where_true (nat_lt 128 (length read.cookie)) (Wide (length read.cookie))
      ∷ cookie_cause (cookie_test s.startup.cookie_secret read.cookie from s.moment) (named_cause s.startup read (full s))
      ∷ []) (
        where_false (not (is_signed group.secret a.chunk.payload read.sign)) BadSignature
            (ap not (signed_again group.secret a.chunk.payload a.sign (known_signed secrets (StartupContext a.generation) group.secret known 0 datagram a.reads.plain a.reads.opens a.chunk.payload a.sign a.signed))),
        (
          where_false (nat_lt 128 (length read.cookie)) (Wide (length read.cookie)) (narrow_is_false (length a.cookie) a.narrow),
          (ap (λ test. cookie_cause test (named_cause s.startup read (full s))) current ∙ named, tt),
        ),
      )

  pub is_bearing : IsBearing s group from a.chunk.payload read
  is_bearing = record {
    reads = reads;
    cause = ap (cause_by (initiator_cause s.startup a.chunk.payload from s.moment (full s) group)) reads ∙ cause;
    current = current;
    again = new.0;
    repeated = new.1;
  }
