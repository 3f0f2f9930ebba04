-- What the table refuses of a datagram that goes out.
use Rattle.std.proofs.Common.{ℕ, ◌≤◌, List, [], ◌∷◌, length, drop, length-append, ◌≡◌, ◌⊎◌, inl, inr, refl, sym, ap, subst, ◌∙◌, cond, max, Option, Some, None, Ok, true, false, arith}
use Rattle.std.specs.Prelude.{Bool}
use Rattle.std.specs.Str.{bytes_eq}
use Rattle.std.specs.Int.{w32, to_be_bytes}
use Rattle.std.proofs.lemmas.List.{drop_at}
use Rattle.std.proofs.lemmas.Slice.Eq.{bytes_eq-Decides}
use Rattle.crypto_profile.specs.declared.keys.Context.{Context}
use Rattle.crypto_profile.specs.declared.keys.Context.TheVariants.{Startup, Session}
use Rattle.crypto_profile.specs.Keys.{keys_of}
use Rattle.crypto_profile.specs.Opening.{plain_of}
use Rattle.crypto_profile.specs.Sealing.{sealed_in, number_of}
use Rattle.crypto_profile.proofs.Opened.{sealed_opens, sealed_carries}
use Rattle.packet_scramble.specs.Datagram.{datagram, scrambled}
use Rattle.rtmfp_packet.specs.Reading.{PacketReading}
use Rattle.rtmfp_chunks.specs.Chunk.{Chunk, IIKeying, RIKeying}
use Rattle.glare_core.specs.declared.facts.Why.{Why}
use Rattle.glare_core.specs.declared.facts.Fact.TheVariants.{Started, Born, Opened, Ended}
use Rattle.glare_core.specs.declared.facts.Held.{Held}
use Rattle.glare_core.specs.declared.facts.Held.TheVariants.{Opening, HalfOpen, KeptAsResponder, KeptAsInitiator}
use Rattle.glare_core.specs.declared.facts.Joined.{Joined}
use Rattle.glare_core.specs.Standing.{opened}
use Rattle.endpoint_model.specs.declared.entry.Entry.TheVariants.{Fact as FactEntry, Closed}
use Rattle.endpoint_model.specs.Event.{Setup, own_of, Call, Event}
use Rattle.endpoint_laws.specs.Past.{Past, begun, stamped, facts_of, is_close}
use Rattle.endpoint_laws.specs.Contexts.{Secrets, generation_of, outward, HeldUnder, StandsUnder, BegunUnder}
use Rattle.endpoint_model.specs.Keying.{initiator_part, responder_part}
use Rattle.endpoint_laws.specs.Lawful.{OutLine, KeyingGoesIn, KeyingOfAttempt, KeyingOfBorn, IsBornHere, IsFarOf}
use Rattle.endpoint_checks.specs.Sends.{HasChunk, sends, born_context, TheTableRefusesSends, TheTableRefusesNumbers, TheTableRefusesKeyingsSent, TheTableRefusesAnswersSent, TheTableRefusesSendsInSessions}
use Rattle.endpoint_checks.specs.Logs.{doing, says}
use Rattle.endpoint_checks.proofs.Logs.{same}
use Rattle.endpoint_checks.proofs.Still.{after_one, after_two, still_begun, still_goes}
use Rattle.endpoint_checks.proofs.Brings.{one_secret}
use Rattle.endpoint_checks.proofs.Pasts.{some_event, NothingEnds, none_closing, one_closing}

-- ---- what stands behind the session ID

behind : (sid : ℕ) (part sent : List ℕ) → sent ≡ datagram sid part → drop 4 sent ≡ part
behind sid part sent e = ap (drop 4) e ∙ drop_at (to_be_bytes w32 (scrambled sid part)) part 4 refl

long_enough : (secret : List ℕ) (context : Context) (sid : ℕ) (number plain sent : List ℕ) → length number ≡ 16 → sent ≡ datagram sid (sealed_in secret context sid number plain) → 36 ≤ length sent
long_enough secret context sid number plain sent size e =
    let part : List ℕ = sealed_in secret context sid number plain in
    let four : length (to_be_bytes w32 (scrambled sid part)) ≡ 4 = refl in
    omega (arith, ap length e, length-append (to_be_bytes w32 (scrambled sid part)) part, four, (sealed_carries (keys_of secret context) sid number plain size).1)

number_is : (secrets : Secrets) (setup : Setup) (call : Call) (past : Past) (sent : List ℕ) (context : Context) (line : OutLine secrets setup call past sent context) → number_of (drop 4 sent) ≡ line.number
number_is secrets setup call past sent context line =
    ap number_of (behind line.sid (sealed_in line.secret context line.sid line.number line.plain) sent line.is) ∙ (sealed_carries (keys_of line.secret context) line.sid line.number line.plain line.numbered).0

plain_is : (secret : List ℕ) (context : Context) (sid : ℕ) (number plain sent : List ℕ) → length number ≡ 16 → sent ≡ datagram sid (sealed_in secret context sid number plain) → plain_of (keys_of secret context) (drop 4 sent) ≡ plain
plain_is secret context sid number plain sent size e =
    ap (plain_of (keys_of secret context)) (behind sid (sealed_in secret context sid number plain) sent e) ∙ (sealed_opens (keys_of secret context) sid number plain size).1

-- the packet of the datagram is the one that the table judges
reads_there : (secrets : Secrets) (setup : Setup) (call : Call) (past : Past) (sent : List ℕ) (context : Context) (chunk : Chunk) (line : OutLine secrets setup call past sent context) (has : HasChunk secrets context sent chunk) → PacketReading line.plain (Ok has.packet)
reads_there secrets setup call past sent context chunk line has =
    let one : has.plain ≡ line.plain =
    sym (plain_is has.secret context has.sid has.number has.plain sent has.numbered has.is)
    ∙ ap (λ (x : List ℕ). plain_of (keys_of x context) (drop 4 sent)) (one_secret secrets (generation_of context) has.secret line.secret has.known line.known)
    ∙ plain_is line.secret context line.sid line.number line.plain sent line.numbered line.is in
    subst (λ (b : List ℕ). PacketReading b (Ok has.packet)) one has.reads

-- ---- each datagram

pub sends_refused : TheTableRefusesSends
sends_refused secrets setup moment c to sent context = record {
  short = λ short h. let line = h.0.0 in let long = long_enough line.secret context line.sid line.number line.plain sent line.numbered line.is in omega (arith, long, short);
  unsealed = λ none h. let line = h.0.0 in none line.secret line.sid line.number line.plain line.known line.is;
  unknown = λ none h. let line = h.0.0 in let clash : None ≡ Some line.secret = sym none ∙ line.known in cc;
}

pub numbers_refused : TheTableRefusesNumbers
numbers_refused secrets setup moment c d first second sent again e = record {
  in_startup = λ generation h. let line = h.0.1.0 in line.once tt (inl (refl, e ∙ number_is _ _ _ _ again (Startup generation) line));
  in_two_calls = λ generation h. let line = h.1.0.0 in line.once tt (inr (inl (refl, e ∙ number_is _ _ _ _ again (Startup generation) line)));
  in_session = λ peer ni near generation x y fp_i fp_r sid_i sid_r to_responder h.
      let line = h.1.0.1.0 in line.once (λ none. none, tt) (inl (refl, e ∙ number_is _ _ _ _ again (Session generation x y fp_i fp_r sid_i sid_r to_responder) line));
}

-- ---- what is held where one thing was begun

pub true_is : (p q : List ℕ) (x y : Held) → cond (bytes_eq p q) (Some x) None ≡ Some y → (p ≡ q) × (x ≡ y)
true_is p q x y e = by (bytes_eq p q) refl e
  where
    by : (b : Bool) → bytes_eq p q ≡ b → cond b (Some x) None ≡ Some y → (p ≡ q) × (x ≡ y)
    by true t is = ((bytes_eq-Decides p q).0 t, let inner : x ≡ y = cc in inner)
    by false t is = absurd (let clash : None ≡ Some y = is in cc)

none_left : (b : Bool) (x y : Held) → cond b None (cond b (Some x) None) ≡ Some y → ⊥
none_left true x y e = cc
none_left false x y e = cc

nothing : (y : Held) → None ≡ Some y → ⊥
nothing y e = cc

near_in : Held → ℕ
near_in (Opening n near ni) = near
near_in (HalfOpen j) = 0
near_in (KeptAsResponder j) = 0
near_in (KeptAsInitiator j) = 0

session_in : Joined → Held → Joined
session_in other (HalfOpen j) = j
session_in other (Opening n near ni) = other
session_in other (KeptAsResponder j) = other
session_in other (KeptAsInitiator j) = other

part_with : List ℕ → Held → List ℕ
part_with peer (Opening n near ni) = initiator_part ni n peer
part_with peer (HalfOpen j) = []
part_with peer (KeptAsResponder j) = []
part_with peer (KeptAsInitiator j) = []

-- what is held where the attempt was opened is no attempt, and no session that was born
no_opening : (a b : Bool) (j : Joined) (n near n' near' : ℕ) (ni ni' : List ℕ) → a ≡ b →
    cond a (opened j (cond b (Some (Opening n near ni)) None)) (cond b (Some (Opening n near ni)) None) ≡ Some (Opening n' near' ni') → ⊥
no_opening true true j n near n' near' ni ni' e is = cc
no_opening true false j n near n' near' ni ni' e is = cc
no_opening false true j n near n' near' ni ni' e is = cc
no_opening false false j n near n' near' ni ni' e is = cc

no_born : (a b : Bool) (j s : Joined) (n near : ℕ) (ni : List ℕ) → (cond a (opened j (cond b (Some (Opening n near ni)) None)) (cond b (Some (Opening n near ni)) None) ≡ Some (HalfOpen s)) ⊎
    (cond a (opened j (cond b (Some (Opening n near ni)) None)) (cond b (Some (Opening n near ni)) None) ≡ Some (KeptAsResponder s)) → ⊥
no_born true true j s n near ni (inl is) = cc
no_born true true j s n near ni (inr is) = cc
no_born true false j s n near ni (inl is) = cc
no_born true false j s n near ni (inr is) = cc
no_born false true j s n near ni (inl is) = cc
no_born false true j s n near ni (inr is) = cc
no_born false false j s n near ni (inl is) = cc
no_born false false j s n near ni (inr is) = cc

module _ (secrets : Secrets) (setup : Setup) (call : Call) (past : Past) (sent : List ℕ) (context : Context) (line : OutLine secrets setup call past sent context) where
  pub attempt_of : (near : ℕ) (cookie cert part sign : List ℕ) → HasChunk secrets context sent (IIKeying near cookie cert part sign) → KeyingOfAttempt secrets setup call past context near cert part
  attempt_of near cookie cert part sign has =
      (line.keyings has.packet (reads_there secrets setup call past sent context (IIKeying near cookie cert part sign) line has)).initiators has.placed near cookie cert part sign has.among has.spells

  pub born_of : (near : ℕ) (part sign : List ℕ) → HasChunk secrets context sent (RIKeying near part sign) → KeyingOfBorn secrets setup past context line.sid near part
  born_of near part sign has =
      (line.keyings has.packet (reads_there secrets setup call past sent context (RIKeying near part sign) line has)).responders has.placed near part sign has.among has.spells

pub keyings_sent_refused : TheTableRefusesKeyingsSent
unfolding near_in part_with
keyings_sent_refused secrets setup moment c d to sent context peer ni near cookie cert part sign has = record {
  other_context = λ differ h. let k = attempt_of secrets setup _ _ sent context h.1.0.0 near cookie cert part sign has in differ (k.startup ∙ ap Startup (first k.peer k.generation k.goes));
  other_generation = λ generation is differ h. let k = attempt_of secrets setup _ _ sent context h.1.0.0 near cookie cert part sign has in differ (ap generation_of (sym is ∙ k.startup) ∙ first k.peer k.generation k.goes);
  other_cert = λ differ h. differ (attempt_of secrets setup _ _ sent context h.1.0.0 near cookie cert part sign has).own;
  no_attempt = λ h. let k = attempt_of secrets setup _ _ sent context h.0.0 near cookie cert part sign has in nothing (Opening k.n near k.ni) k.is_held;
  other_id = λ differ h.
      let k = attempt_of secrets setup _ _ sent context h.1.0.0 near cookie cert part sign has in
      differ (sym (ap near_in (true_is peer k.peer (Opening 1 5 ni) (Opening k.n near k.ni) k.is_held).1));
  other_part = λ differ h.
      let k = attempt_of secrets setup _ _ sent context h.1.0.0 near cookie cert part sign has in
      let is = true_is peer k.peer (Opening 1 5 ni) (Opening k.n near k.ni) k.is_held in
      differ (k.values ∙ sym (ap (part_with k.peer) is.1) ∙ ap (initiator_part ni 1) (sym is.0));
  over = λ h. let k = attempt_of secrets setup _ _ sent context h.1.0.0 near cookie cert part sign has in none_left (bytes_eq peer k.peer) (Opening 1 5 ni) (Opening k.n near k.ni) k.is_held;
  is_open = λ j e h.
      let k = attempt_of secrets setup _ _ sent context h.1.0.0 near cookie cert part sign has in
      no_opening (bytes_eq j.peer k.peer) (bytes_eq peer k.peer) j 1 5 k.n near ni k.ni (ap (λ (p : List ℕ). bytes_eq p k.peer) e) k.is_held;
}
  where
    first : (p : List ℕ) (g : ℕ) → KeyingGoesIn secrets setup (begun (max 0 moment) (doing moment d (sends to sent context)) ∷ stamped 0 (FactEntry (Started peer 1 5 ni)) ∷ begun 0 (doing 0 c (says (Started peer 1 5 ni))) ∷ []) d p near g → g ≡ setup.generation
    first p g goes = still_goes secrets setup _ d p near g (refl, refl, refl, (refl, refl, refl, (refl, refl, refl, tt))) goes

-- ---- sessions that were born

born_is : (j s : Joined) → IsBornHere (cond (bytes_eq j.peer s.peer) (Some (HalfOpen j)) None) s → j ≡ s
unfolding session_in
born_is j s (inl e) = ap (session_in s) (true_is j.peer s.peer (HalfOpen j) (HalfOpen s) e).1
born_is j s (inr e) = absurd (let clash = (true_is j.peer s.peer (HalfOpen j) (KeptAsResponder s) e).1 in cc)

no_birth : (s : Joined) → IsBornHere None s → ⊥
no_birth s (inl e) = cc
no_birth s (inr e) = cc

birth_over : (b : Bool) (j s : Joined) → IsBornHere (cond b None (cond b (Some (HalfOpen j)) None)) s → ⊥
birth_over b j s (inl e) = none_left b (HalfOpen j) (HalfOpen s) e
birth_over b j s (inr e) = none_left b (HalfOpen j) (KeptAsResponder s) e

pub answers_sent_refused : TheTableRefusesAnswersSent
answers_sent_refused secrets setup moment c d to sent context j near part sign has = record {
  other_context = λ differ h. let b = born_of secrets setup _ _ sent context h.1.0.0 near part sign has in differ (b.startup ∙ ap Startup (first b.j b.generation b.born));
  other_generation = λ generation is differ h. let b = born_of secrets setup _ _ sent context h.1.0.0 near part sign has in differ (ap generation_of (sym is ∙ b.startup) ∙ first b.j b.generation b.born);
  no_session = λ h. let b = born_of secrets setup _ _ sent context h.0.0 near part sign has in no_birth b.j b.is_held;
  other_id = λ differ h.
      let b = born_of secrets setup _ _ sent context h.1.0.0 near part sign has in
      differ (b.near_is ∙ sym (ap (λ (s : Joined). s.near) (born_is j b.j b.is_held)));
  other_part = λ differ h.
      let b = born_of secrets setup _ _ sent context h.1.0.0 near part sign has in
      differ (b.values ∙ sym (ap (λ (s : Joined). responder_part s.nr s.k (own_of setup) s.ni) (born_is j b.j b.is_held)));
  under_another = λ none h.
      let b = born_of secrets setup _ _ sent context h.1.0.0 near part sign has in
      let sid : h.1.0.0.sid ≡ j.far = b.sid_is ∙ sym (ap (λ (s : Joined). s.far) (born_is j b.j b.is_held)) in
      none h.1.0.0.secret h.1.0.0.number h.1.0.0.plain h.1.0.0.known (h.1.0.0.is ∙ ap (λ (id : ℕ). datagram id (sealed_in h.1.0.0.secret context id h.1.0.0.number h.1.0.0.plain)) sid);
  over = λ why h. let b = born_of secrets setup _ _ sent context h.1.0.0 near part sign has in birth_over (bytes_eq j.peer b.j.peer) j b.j b.is_held;
  opened_here = λ peer ni o h. let b = born_of secrets setup _ _ sent context h.1.0.0 near part sign has in no_born (bytes_eq o.peer b.j.peer) (bytes_eq peer b.j.peer) o b.j 1 5 ni b.is_held;
}
  where
    first : (x : Joined) (g : ℕ) → BegunUnder secrets setup (HalfOpen x) g (after_one c (Born j)) → g ≡ setup.generation
    first x g begun_so = still_begun secrets setup (HalfOpen x) g (after_one c (Born j)) begun_so (refl, refl, refl, (refl, refl, refl, (refl, refl, refl, tt)))

-- ---- in sessions

-- where nothing has ended, what stands under an ID is held
held_one : (near : ℕ) (thing : Held) (past : Past) → NothingEnds past → StandsUnder past near thing → HeldUnder (facts_of past) near thing
held_one near thing past none (inl h) = h
held_one near thing past none (inr c) = absurd (none_closing near thing c.0 past none c.1)

-- after no entry, one, and two of one call
module _ (near : ℕ) (thing : Held) (m n : ℕ) (d c : Event) where
  held_of_none : StandsUnder (begun m d ∷ []) near thing → HeldUnder [] near thing
  held_of_none stands = held_one near thing (begun m d ∷ []) (refl, tt) stands

  held_born : (j : Joined) → StandsUnder (begun m d ∷ stamped n (FactEntry (Born j)) ∷ begun n c ∷ []) near thing → HeldUnder (Born j ∷ []) near thing
  held_born j stands = held_one near thing (begun m d ∷ stamped n (FactEntry (Born j)) ∷ begun n c ∷ []) (refl, (refl, (refl, tt))) stands

  held_started : (peer ni : List ℕ) → StandsUnder (begun m d ∷ stamped n (FactEntry (Started peer 1 5 ni)) ∷ begun n c ∷ []) near thing → HeldUnder (Started peer 1 5 ni ∷ []) near thing
  held_started peer ni stands = held_one near thing (begun m d ∷ stamped n (FactEntry (Started peer 1 5 ni)) ∷ begun n c ∷ []) (refl, (refl, (refl, tt))) stands

  held_opened : (j : Joined) (ni : List ℕ) → StandsUnder (begun m d ∷ stamped n (FactEntry (Opened j)) ∷ stamped n (FactEntry (Started j.peer 1 5 ni)) ∷ begun n c ∷ []) near thing →
      HeldUnder (Opened j ∷ Started j.peer 1 5 ni ∷ []) near thing
  held_opened j ni stands =
      held_one near thing (begun m d ∷ stamped n (FactEntry (Opened j)) ∷ stamped n (FactEntry (Started j.peer 1 5 ni)) ∷ begun n c ∷ []) (refl, (refl, (refl, (refl, tt)))) stands

-- where the only one has ended, it is closing
closing_one : (near : ℕ) (thing : Held) (m n : ℕ) (d c : Event) (j : Joined) (why : Why) → StandsUnder (begun m d ∷ stamped n (FactEntry (Ended j.peer j.near why)) ∷ stamped n (FactEntry (Born j)) ∷ begun n c ∷ []) near thing →
    (is_close why ≡ true) × (HalfOpen j ≡ thing)
closing_one near thing m n d c j why (inl h) = absurd (none_left (bytes_eq j.peer h.peer) (HalfOpen j) thing h.is_held)
closing_one near thing m n d c j why (inr (at, closing)) =
    let one = one_closing near thing at (begun m d ∷ []) n j.peer j.near why (stamped n (FactEntry (Born j)) ∷ begun n c ∷ []) (refl, tt) (refl, (refl, tt)) closing in
    (one.closes, (true_is j.peer j.peer (HalfOpen j) thing one.was_held).1)

-- and where that is over as well, none stands
none_closed : (near : ℕ) (thing : Held) (m n : ℕ) (d c : Event) (j : Joined) (why : Why) →
    StandsUnder (begun m d ∷ stamped n (Closed j.near) ∷ stamped n (FactEntry (Ended j.peer j.near why)) ∷ stamped n (FactEntry (Born j)) ∷ begun n c ∷ []) near thing → ⊥
none_closed near thing m n d c j why (inl h) = none_left (bytes_eq j.peer h.peer) (HalfOpen j) thing h.is_held
none_closed near thing m n d c j why (inr (at, inl x)) = x.0
none_closed near thing m n d c j why (inr (at, inr (go, inl x))) = x.0
none_closed near thing m n d c j why (inr (at, inr (go, inr (differ, closing)))) =
    let one = one_closing near thing at [] n j.peer j.near why (stamped n (FactEntry (Born j)) ∷ begun n c ∷ []) tt (refl, (refl, tt)) closing in
    differ one.id_is

direction : Context → Bool
direction (Startup generation) = false
direction (Session generation x y fp_i fp_r sid_i sid_r to_responder) = to_responder

no_startup : (generation other : ℕ) (x y fp_i fp_r : List ℕ) (sid_i sid_r : ℕ) (to_responder : Bool) → Session generation x y fp_i fp_r sid_i sid_r to_responder ≡ Startup other → ⊥
no_startup generation other x y fp_i fp_r sid_i sid_r to_responder e = cc

true_isnt_false : true ≡ false → ⊥
true_isnt_false e = cc

false_isnt_true : false ≡ true → ⊥
false_isnt_true e = cc

-- an end that opened a session sends to its responder
opened_sends : (a b : Bool) (own ni : List ℕ) (j : Joined) (thing : Held) → a ≡ b →
    cond a (opened j (cond b (Some (Opening 1 5 ni)) None)) (cond b (Some (Opening 1 5 ni)) None) ≡ Some thing → thing ≡ KeptAsInitiator j
opened_sends true true own ni j thing e is = let inner : KeptAsInitiator j ≡ thing = cc in sym inner
opened_sends true false own ni j thing e is = absurd (cc)
opened_sends false true own ni j thing e is = absurd (cc)
opened_sends false false own ni j thing e is = absurd (let clash : None ≡ Some thing = is in cc)

pub isnt_end : (peer : List ℕ) (near : ℕ) (why : Why) (j : Joined) → Ended peer near why ≡ Born j → ⊥
isnt_end peer near why j e = cc

-- a session is held when it is born, whatever was before
pub half_open_now : (b : Bool) (j : Joined) (o : Option Held) → b ≡ true → cond b (Some (HalfOpen j)) o ≡ Some (HalfOpen j)
half_open_now true j o e = refl
half_open_now false j o e = absurd (cc)

pub sends_in_sessions_refused : TheTableRefusesSendsInSessions
unfolding direction
sends_in_sessions_refused secrets setup moment c d to sent generation x y fp_i fp_r sid_i sid_r to_responder j = record {
  nothing_held = λ h. let s = h.0.0.session in nothing s.0 (held_of_none s.1 s.0 _ 0 some_event some_event s.2).is_held;
  attempt_held = λ peer ni h.
      let s = h.1.0.0.session in
      let u = held_started s.1 s.0 _ _ some_event some_event peer ni s.2 in
      no_startup generation generation x y fp_i fp_r sid_i sid_r to_responder (s.4 ∙ ap (outward setup generation) (sym (true_is peer u.peer (Opening 1 5 ni) s.0 u.is_held).1));
  other_values = λ differ h.
      let s = h.1.0.0.session in
      let u = held_born s.1 s.0 _ _ some_event some_event j s.2 in
      differ (s.4 ∙ ap (outward setup generation) (sym (true_is j.peer u.peer (HalfOpen j) s.0 u.is_held).1) ∙ ap (λ (g : ℕ). born_in_generation g) (still_begun secrets setup s.0 generation (after_one c (Born j)) s.3 (refl, refl, refl, (refl, refl, refl, (refl, refl, refl, tt)))));
  towards = λ h.
      let s = h.1.0.0.session in
      let u = held_born s.1 s.0 _ _ some_event some_event j s.2 in
      true_isnt_false (ap direction (s.4 ∙ ap (outward setup setup.generation) (sym (true_is j.peer u.peer (HalfOpen j) s.0 u.is_held).1)));
  opened_towards = λ ni h.
      let s = h.1.0.0.session in
      let u = held_opened s.1 s.0 _ _ some_event some_event j ni s.2 in
      false_isnt_true (ap direction (s.4 ∙ ap (outward setup setup.generation) (opened_sends (bytes_eq j.peer u.peer) (bytes_eq j.peer u.peer) (own_of setup) ni j s.0 refl u.is_held)));
  other_generation = λ other differ h. let s = h.1.0.0.session in differ (still_begun secrets setup s.0 other (after_one c (Born j)) s.3 (refl, refl, refl, (refl, refl, refl, (refl, refl, refl, tt))));
  opened_in_another = λ ni other differ h. let s = h.1.0.0.session in differ (still_begun secrets setup s.0 other (after_two c (Started j.peer 1 5 ni) (Opened j)) s.3 (refl, refl, refl, (refl, refl, refl, (refl, refl, refl, (refl, refl, refl, tt)))));
  under_another = λ none h.
      let line = h.1.0.0 in
      let s = line.session in
      let u = held_born s.1 s.0 _ _ some_event some_event j s.2 in
      let is : HalfOpen j ≡ s.0 = (true_is j.peer u.peer (HalfOpen j) s.0 u.is_held).1 in
      let far : line.sid ≡ j.far = subst (λ (t : Held). IsFarOf t line.sid) (sym is) s.5 in
      none line.secret line.number line.plain line.known (line.is ∙ ap (λ (id : ℕ). datagram id (sealed_in line.secret (born_context setup j false) id line.number line.plain)) far);
  closing_values = λ why differ h.
      let s = h.1.0.0.session in
      differ (s.4 ∙ ap (outward setup generation) (sym (closing_one s.1 s.0 _ _ some_event some_event j why s.2).1) ∙ ap (λ (g : ℕ). born_in_generation g) (still_begun secrets setup s.0 generation (after_two c (Born j) (Ended j.peer j.near why)) s.3 (refl, refl, refl, (refl, refl, refl, (refl, refl, refl, (refl, refl, refl, tt))))));
  closing_under_another = λ why none h.
      let line = h.1.0.0 in
      let s = line.session in
      let far : line.sid ≡ j.far = subst (λ (t : Held). IsFarOf t line.sid) (sym (closing_one s.1 s.0 _ _ some_event some_event j why s.2).1) s.5 in
      none line.secret line.number line.plain line.known (line.is ∙ ap (λ (id : ℕ). datagram id (sealed_in line.secret (born_context setup j false) id line.number line.plain)) far);
  over = λ why dropped h. let s = h.1.0.0.session in true_isnt_false (sym (closing_one s.1 s.0 _ _ some_event some_event j why s.2).0 ∙ dropped);
  closed = λ why h. let s = h.1.0.0.session in none_closed s.1 s.0 _ _ some_event some_event j why s.2;
  while_closing = λ why closes before e born. (HalfOpen j, j.near, inr (0, inl ((refl, closes, half_open_now (bytes_eq j.peer j.peer) j _ (same j.peer j.peer refl)), refl)), inr ((λ clash. isnt_end j.peer j.near why j clash), inl (refl, born)), refl, refl);
}
  where
    born_in_generation : ℕ → Context
    born_in_generation g = outward setup g (HalfOpen j)
