-- What the table refuses of a Born.
use Rattle.std.proofs.Common.{ℕ, ◌+◌, ◌<◌, ◌≤◌, List, [], ◌∷◌, length, drop, length-drop, max, ◌≡◌, ◌≢◌, ◌⊎◌, inl, inr, refl, sym, ap, subst, ◌∙◌, cond, Some, None, true, false, arith}
use Rattle.std.specs.Prelude.{Bool, ◌==◌, ◌||◌, if◌then◌else◌}
use Rattle.std.proofs.lemmas.Bool.{eq-eqb}
use Rattle.std.specs.List.{list_any}
use Rattle.std.specs.Str.{bytes_eq}
use Rattle.crypto_profile.specs.declared.keys.Context.TheVariants.{Startup}
use Rattle.rtmfp_forms.specs.Address.{AddressParts, SamePlace}
use Rattle.rtmfp_packet.specs.Whole.{Whole}
use Rattle.rtmfp_chunks.specs.Chunk.{IIKeying, Spells}
use Rattle.sha2.specs.Sha256.{sha256}
use Rattle.crypto_profile.specs.Hmac.{hmac}
use Rattle.crypto_profile.specs.Keys.{sign_key_of}
use Rattle.identity.specs.Certificates.{IsCertificate}
use Rattle.endpoint_model.specs.declared.config.Draws.{Draws}
use Rattle.endpoint_model.specs.Event.{Receive}
use Rattle.rtmfp_packet.specs.Walk.{Placed}
use Rattle.cookies.specs.Cookie.{IsCookieOf}
use Rattle.cookies.proofs.Reading.{one_place_and_moment}
use Rattle.glare_core.specs.declared.facts.Held.{Held}
use Rattle.glare_core.specs.declared.facts.Held.TheVariants.{Opening, HalfOpen}
use Rattle.glare_core.specs.declared.facts.Joined.{Joined}
use Rattle.glare_core.specs.Standing.{held, peers_in}
use Rattle.endpoint_model.specs.Event.{Setup, own_of, Event}
use Rattle.std.specs.FinMap.{get}
use Rattle.endpoint_laws.specs.Contexts.{Secrets, OpensUnder, ReadsUnder}
use Rattle.endpoint_checks.proofs.Still.{IsStill, still_admissible}
use Rattle.endpoint_laws.specs.Past.{Past, Happening, OfEvent, OfEntry, begun, facts_of, ids_in_use, is_close}
use Rattle.endpoint_model.specs.Keying.{IsFirst, IsSigned, chunks_of, initiator_part}
use Rattle.endpoint_laws.specs.Admissible.{Admissible, Offer}
use Rattle.endpoint_laws.specs.Lawful.{WayMade, IsLawful}
use Rattle.endpoint_checks.specs.Brings.{Keying, BringsKeying}
use Rattle.endpoint_checks.specs.Births.{born_in, TheTableRefusesBirths, TheTableRefusesKeyings, TheTableRefusesLaterBirths}
use Rattle.endpoint_checks.proofs.Logs.{same, other}
use Rattle.endpoint_checks.proofs.Brings.{one_secret, one_packet, one_first, one_keying, OneKeying, signed_here}

-- ---- the facts before

is_entry : Happening → Bool
is_entry (OfEvent event) = false
is_entry (OfEntry entry) = true

entry_first : Past → Bool
entry_first [] = false
entry_first (s ∷ earlier) = is_entry s.what

-- where an event has just begun, there is no Ended that makes way
pub before_is : (now moment : ℕ) (e : Event) (rest before : Past) (peer : List ℕ) → WayMade now (begun moment e ∷ rest) before peer → before ≡ begun moment e ∷ rest
unfolding is_entry entry_first
before_is now moment e rest before peer (inl same) = sym same
before_is now moment e rest before peer (inr (near, why, way, is)) = absurd (let clash : false ≡ true = ap entry_first is in cc)

too_short : (sent : List ℕ) → 32 ≤ length (drop 4 sent) → length sent < 36 → ⊥
too_short sent long short = omega (arith, length-drop 4 sent, long, short)

no_first : (c : Placed) (cs : List Placed) → cs ≡ [] → IsFirst c cs → ⊥
no_first c cs e first = subst (IsFirst c) e first

no_room : (most : ℕ) (peer : List ℕ) (peers : List (List ℕ)) → peers ≡ [] → most ≡ 0 → (list_any (bytes_eq peer) peers ≡ true) ⊎ (length peers < most) → ⊥
no_room most peer peers e zero (inl there) = let clash : false ≡ true = ap (list_any (bytes_eq peer)) (sym e) ∙ there in cc
no_room most peer peers e zero (inr room) = omega (arith, room, zero)

abbrev offer_of : Joined → Offer
offer_of j = record { peer = j.peer; n = j.n; ni = j.ni; far = j.far }

-- the keying of the first event came in the first generation
module _ (secrets : Secrets) (setup : Setup) (moment : ℕ) (from : AddressParts) (sent : List ℕ) (draws : Draws) (j : Joined) where
  first_one : (h : IsLawful secrets setup (born_in moment (Receive from sent draws) j)) → h.0.0.1.by.0.generation ≡ setup.generation
  first_one h =
      let line = h.0.0.1 in
      let still : IsStill line.before = subst IsStill (sym (before_is _ _ _ [] line.before j.peer line.way)) (refl, refl, refl, tt) in
      still_admissible secrets setup line.before (max 0 moment) from sent (offer_of j) still line.by.0

pub births_refused : TheTableRefusesBirths
births_refused secrets setup moment from sent draws j = record {
  in_open = λ towards candidates h. h.0.0.1.by;
  in_cancel = λ n h. h.0.0.1.by;
  in_close = λ near h. h.0.0.1.by;
  in_tick = λ h. h.0.0.1.by;
  short = λ short h. too_short sent h.0.0.1.by.0.reads.opens.opens.0 short;
  other_id = λ differ h. differ h.0.0.1.by.0.reads.opens.id;
  unopened = λ none h.
      let a = h.0.0.1.by.0 in
      none a.reads.plain (subst (λ (g : ℕ). OpensUnder secrets (Startup g) 0 sent a.reads.plain) (first_one secrets setup moment from sent draws j h) a.reads.opens);
  other_mode = λ packet reads differ h.
      let a = h.0.0.1.by.0 in
      let there : ReadsUnder secrets (Startup setup.generation) 0 sent a.packet = subst (λ (g : ℕ). ReadsUnder secrets (Startup g) 0 sent a.packet) (first_one secrets setup moment from sent draws j h) a.reads in
      differ (ap (λ (p : Whole). p.head.mode) (one_packet secrets (Startup setup.generation) 0 sent packet a.packet reads there) ∙ a.mode);
  no_chunk = λ packet reads none h.
      let a = h.0.0.1.by.0 in
      let there : ReadsUnder secrets (Startup setup.generation) 0 sent a.packet = subst (λ (g : ℕ). ReadsUnder secrets (Startup g) 0 sent a.packet) (first_one secrets setup moment from sent draws j h) a.reads in
      no_first a.chunk (chunks_of a.packet) (ap chunks_of (one_packet secrets (Startup setup.generation) 0 sent a.packet packet there reads) ∙ none) a.first;
  zero = λ e h. h.0.0.1.id.some e;
  other_nonce = λ differ h. differ h.0.0.1.by.1;
  other_count = λ differ h. differ h.0.0.0.counted;
  zero_far = λ e h. h.0.0.1.by.0.far e;
  wide_number = λ wide h. let number = h.0.0.1.by.0.number in omega (arith, number, wide);
  not_new = λ e h. let above = h.0.0.0.above in omega (arith, above, e);
  nonce_size = λ differ h. differ h.0.0.1.by.0.nonce_size;
  no_row = λ zero h.
      let line = h.0.0.1 in
      no_room setup.config.max_peers j.peer (peers_in (facts_of line.before)) (ap (λ (past : Past). peers_in (facts_of past)) (before_is _ _ _ [] line.before j.peer line.way)) zero line.by.0.row;
  no_place = λ zero h.
      let line = h.0.0.1 in
      let none = before_is _ _ _ [] line.before j.peer line.way in
      let place = line.by.0.place (ap (λ (past : Past). held j.peer (facts_of past)) none) in
      omega (arith, place, zero);
}

-- ---- what the keying of the datagram says

module _ (secrets : Secrets) (setup : Setup) (past : Past) (now : ℕ) (from : AddressParts) (sent : List ℕ) (offer : Offer) (k : Keying) (known : get secrets setup.generation ≡ Some setup.secret) (b : BringsKeying secrets setup.generation sent k) (a : Admissible secrets setup past now from sent offer) (first : a.generation ≡ setup.generation) where
  there : ReadsUnder secrets (Startup setup.generation) 0 sent a.packet
  there = subst (λ (g : ℕ). ReadsUnder secrets (Startup g) 0 sent a.packet) first a.reads

  same_chunk : a.chunk ≡ b.chunk
  same_chunk =
      one_first a.chunk b.chunk (chunks_of b.packet) (subst (λ (p : Whole). IsFirst a.chunk (chunks_of p)) (one_packet secrets (Startup setup.generation) 0 sent a.packet b.packet there b.reads) a.first) b.first
      (a.spells.0 ∙ sym b.spells.0)

  one : OneKeying offer.far k.near a.cookie k.cookie a.cert k.cert (initiator_part offer.ni offer.n (own_of setup)) k.part a.sign k.sign
  one =
      one_keying b.chunk.kind b.chunk.payload offer.far k.near a.cookie k.cookie a.cert k.cert (initiator_part offer.ni offer.n (own_of setup)) k.part a.sign k.sign
      (subst (λ (c : Placed). Spells (IIKeying offer.far a.cookie a.cert (initiator_part offer.ni offer.n (own_of setup)) a.sign) c.kind c.payload) same_chunk a.spells) b.spells

  signed_so : k.sign ≡ hmac (sign_key_of setup.secret) k.before
  signed_so =
      signed_here setup.secret b.chunk.payload k.before k.sign a.sign
      (subst (λ (x : List ℕ). IsSigned x b.chunk.payload a.sign) (one_secret secrets setup.generation a.reads.opens.secret setup.secret (ap (get secrets) (sym first) ∙ a.reads.opens.known) known)
      (subst (λ (c : Placed). IsSigned a.reads.opens.secret c.payload a.sign) same_chunk a.signed)) one.sign_is b.payload

pub keyings_refused : TheTableRefusesKeyings
keyings_refused secrets setup moment from sent draws j k known b = record {
  other_far = λ differ h. let says = said h in differ (sym says.near_is);
  other_part = λ differ h. let says = said h in differ (sym says.part_is);
  other_peer = λ differ h. let says = said h in differ (h.0.0.1.by.0.peer ∙ ap sha256 says.cert_is);
  no_certificate = λ none h. let says = said h in none (subst IsCertificate says.cert_is h.0.0.1.by.0.is_cert);
  own_certificate = λ e h. let says = said h in h.0.0.1.by.0.other (says.cert_is ∙ e);
  unsigned = λ differ h. differ (signed_so secrets setup h.0.0.1.before (max 0 moment) from sent (offer_of j) k known b h.0.0.1.by.0 (first_one secrets setup moment from sent draws j h));
  wide_cookie = λ wide h. let says = said h in let narrow = h.0.0.1.by.0.narrow in omega (arith, narrow, wide, ap length says.cookie_is);
  no_cookie = λ none h. let says = said h in let c = h.0.0.1.by.0.current in none c.0 c.1 (sym says.cookie_is ∙ c.2.bytes_are);
  moved = λ place issued is differ h.
      let says = said h in
      let c = h.0.0.1.by.0.current in
      let both = one_place_and_moment setup.cookie_secret k.cookie place c.0 issued c.1 is (subst (IsCookieOf setup.cookie_secret c.0 c.1) says.cookie_is c.2) in
      differ (same_places place c.0 from both.0 c.3);
  old = λ place issued is over h.
      let says = said h in
      let c = h.0.0.1.by.0.current in
      let both = one_place_and_moment setup.cookie_secret k.cookie place c.0 issued c.1 is (subst (IsCookieOf setup.cookie_secret c.0 c.1) says.cookie_is c.2) in
      too_old (max 0 moment) moment issued c.1 both.1 c.4 over (omega arith);
}
  where
    said : (h : IsLawful secrets setup (born_in moment (Receive from sent draws) j)) → OneKeying j.far k.near h.0.0.1.by.0.cookie k.cookie h.0.0.1.by.0.cert k.cert (initiator_part j.ni j.n (own_of setup)) k.part h.0.0.1.by.0.sign k.sign
    said h = one secrets setup h.0.0.1.before (max 0 moment) from sent (offer_of j) k known b h.0.0.1.by.0 (first_one secrets setup moment from sent draws j h)

    same_places : (x y z : AddressParts) → SamePlace x y → SamePlace y z → SamePlace x z
    same_places x y z p q = record { family = p.family ∙ q.family; host = p.host ∙ q.host; port = p.port ∙ q.port }

    too_old : (now moment m n : ℕ) → m ≡ n → now ≤ n + 95000 → m + 95000 < moment → moment ≤ now → ⊥
    too_old now moment m n e young old later = omega arith

-- ---- after other things

holds_none : (b : Bool) (x : Held) → b ≡ true → cond b (Some x) None ≡ None → ⊥
holds_none true x e none = cc
holds_none false x e none = cc

one_row : (most : ℕ) (peer p : List ℕ) (peers : List (List ℕ)) → peers ≡ p ∷ [] → p ≢ peer → most ≡ 1 → (list_any (bytes_eq peer) peers ≡ true) ⊎ (length peers < most) → ⊥
one_row most peer p peers e differ one (inl there) =
    let clash = ap (λ (b : Bool). b || false) (sym (other peer p (λ s. differ (sym s)))) ∙ ap (list_any (bytes_eq peer)) (sym e) ∙ there in cc
one_row most peer p peers e differ one (inr room) = omega (arith, room, one, ap length e)

none_held : (b : Bool) (x : Held) → b ≡ false → cond b (Some x) None ≡ None
none_held true x e = absurd (cc)
none_held false x e = refl

seen_once : (b : Bool) (n : ℕ) → b ≡ true → cond b (max 0 (cond b (max 1 0) 0)) (cond b (max 1 0) 0) < n → 1 < n
seen_once true n e above = above
seen_once false n e above = absurd (cc)

seen_count : (b : Bool) (k n : ℕ) → b ≡ true → cond b (max 0 (cond b (max k (cond b (max 0 0) 0)) (cond b (max 0 0) 0))) (cond b (max k (cond b (max 0 0) 0)) (cond b (max 0 0) 0)) < n → k < n
seen_count true k n e above = omega (arith, above)
seen_count false k n e above = absurd (cc)

-- the session ID of a session that is closing is in use
pub kept_in_use : (closes : Bool) (id near : ℕ) (others : List ℕ) → closes ≡ true → id ≡ near → list_any (λ (x : ℕ). x == near) (if closes then id ∷ [] else others) ≡ false → ⊥
kept_in_use true id near others closes e unused = let clash : true ≡ false = sym (ap (λ (b : Bool). b || false) (eq-eqb id near e)) ∙ unused in cc
kept_in_use false id near others closes e unused = absurd (cc)

one_kept : (closes : Bool) (id : ℕ) (others : List ℕ) → closes ≡ true → length (if closes then id ∷ [] else others) ≡ 1
one_kept true id others closes = refl
one_kept false id others closes = absurd (cc)

none_after : (b : Bool) (x : Held) → cond b None (cond b (Some x) None) ≡ None
none_after true x = refl
none_after false x = refl

pub later_births_refused : TheTableRefusesLaterBirths
later_births_refused secrets setup moment c d from sent draws p nonce j = record {
  attempt_held = λ h. holds_none (bytes_eq j.peer j.peer) (Opening 1 5 nonce) (same j.peer j.peer refl) h.1.0.0.0.free;
  session_held = λ b e h. holds_none (bytes_eq b.peer j.peer) (HalfOpen b) (same b.peer j.peer e) h.1.0.0.0.free;
  in_use = λ e h. let clash = ap (λ (x : ℕ). list_any (λ id. id == x) (5 ∷ [])) (sym e) ∙ h.1.0.0.1.id.unused in cc;
  other_count = λ differ h. differ h.1.0.0.0.counted;
  not_new = λ far ni nr e h. let above = seen_once (bytes_eq j.peer j.peer) j.n (same j.peer j.peer refl) h.1.0.1.0.0.above in omega (arith, above, e);
  not_above = λ far k nr low h. let above = seen_count (bytes_eq j.peer j.peer) k j.n (same j.peer j.peer refl) h.1.1.0.1.0.0.above in omega (arith, above, low);
  no_row = λ one differ h.
      let line = h.1.0.0.1 in
      one_row setup.config.max_peers j.peer p (peers_in (facts_of line.before)) (ap (λ (past : Past). peers_in (facts_of past)) (before_is _ _ _ _ line.before j.peer line.way)) differ one line.by.0.row;
  no_place = λ one differ h.
      let line = h.1.0.0.1 in
      let before = before_is _ _ _ _ line.before j.peer line.way in
      let free : held j.peer (facts_of line.before) ≡ None = ap (λ (past : Past). held j.peer (facts_of past)) before ∙ none_held (bytes_eq p j.peer) (Opening 1 5 nonce) (other p j.peer differ) in
      let place = line.by.0.place free in
      omega (arith, place, one, ap (λ (past : Past). length (ids_in_use past)) before);
  of_closing = λ b why is e h. kept_in_use (is_close why) b.near j.near _ is e h.1.1.0.0.1.id.unused;
  place_kept = λ b why is one h.
      let line = h.1.1.0.0.1 in
      let before = before_is _ _ _ _ line.before j.peer line.way in
      let free : held j.peer (facts_of line.before) ≡ None = ap (λ (past : Past). held j.peer (facts_of past)) before ∙ none_after (bytes_eq b.peer j.peer) (HalfOpen b) in
      let place = line.by.0.place free in
      let kept = ap (λ (past : Past). length (ids_in_use past)) before ∙ one_kept (is_close why) b.near _ is in
      omega (arith, place, one, kept);
  row_kept = λ one differ h.
      let line = h.1.1.0.0.1 in
      one_row setup.config.max_peers j.peer p (peers_in (facts_of line.before)) (ap (λ (past : Past). peers_in (facts_of past)) (before_is _ _ _ _ line.before j.peer line.way)) differ one line.by.0.row;
}
