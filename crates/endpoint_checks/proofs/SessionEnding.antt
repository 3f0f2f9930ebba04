-- What the table refuses of an Ended of a session that nothing overrides.
use Rattle.std.proofs.Common.{ℕ, ◌+◌, ◌≤◌, ◌==◌, List, [], ◌∷◌, ◌≡◌, inl, inr, sym, ap, subst, refl, cond, Option, Some, None, true, false, ◌∙◌, arith}
use Rattle.std.specs.Prelude.{Bool, if◌then◌else◌}
use Rattle.std.proofs.lemmas.Bool.{eq-eqb}
use Rattle.std.specs.Str.{bytes_eq}
use Rattle.rtmfp_forms.specs.Address.{AddressParts}
use Rattle.rtmfp_chunks.specs.Chunk.{Chunk, Close as CloseChunk}
use Rattle.glare_core.specs.declared.facts.Why.{Why}
use Rattle.glare_core.specs.declared.facts.Why.TheVariants.{Unconfirmed, Near, Far, Idle}
use Rattle.glare_core.specs.declared.facts.Fact.{Fact}
use Rattle.glare_core.specs.declared.facts.Fact.TheVariants.{Started, Born, Opened, Confirmed}
use Rattle.glare_core.specs.declared.facts.Held.{Held}
use Rattle.glare_core.specs.declared.facts.Held.TheVariants.{Opening, HalfOpen, KeptAsResponder, KeptAsInitiator}
use Rattle.glare_core.specs.declared.facts.Joined.{Joined}
use Rattle.glare_core.specs.Standing.{opened, confirmed}
use Rattle.glare_core.specs.Stands.{Ends}
use Rattle.glare_core.specs.Things.{IsHalfOpen, IsKept, near_of}
use Rattle.endpoint_model.specs.declared.config.Draws.{Draws}
use Rattle.endpoint_model.specs.declared.entry.Entry.TheVariants.{Fact as FactEntry}
use Rattle.endpoint_model.specs.Event.{Setup, own_of, Call, Receive, Event}
use Rattle.endpoint_checks.specs.Logs.{doing, says}
use Rattle.endpoint_laws.specs.Contexts.{Secrets, BegunUnder}
use Rattle.endpoint_laws.specs.Past.{Past, WasDone, begun, stamped, Taken, taken_since}
use Rattle.endpoint_laws.specs.Contexts.{BeganWith}
use Rattle.endpoint_laws.specs.Taken.{count_in, IsNewAfter, Passes, TakesChunkOf, TookAt}
use Rattle.endpoint_checks.specs.Takes.{context_here, ComesIn, Brings}
use Rattle.endpoint_checks.specs.SessionEnds.{OthersRefused, TheTableRefusesUnconfirmed, TheTableRefusesNears, TheTableRefusesFars, TheTableRefusesIdles}
use Rattle.endpoint_checks.proofs.Logs.{same, other}
use Rattle.endpoint_checks.proofs.Pasts.{some_event, was_at, was_once, was_twice}
use Rattle.endpoint_checks.proofs.Ending.{holds, held_here, isnt_it, no_thing, young}
use Rattle.endpoint_checks.proofs.Sending.{half_open_now}
use Rattle.endpoint_checks.proofs.Still.{still_begun}
use Rattle.endpoint_checks.proofs.Taking.{untaken}

-- ---- what is held

none_left : (b : Bool) (x y : Held) → cond b None (cond b (Some x) None) ≡ Some y → ⊥
none_left true x y e = cc
none_left false x y e = cc

confirmed_is : (b : Bool) (j : Joined) (y : Held) → b ≡ true → cond b (confirmed (cond b (Some (HalfOpen j)) None)) (cond b (Some (HalfOpen j)) None) ≡ Some y → KeptAsResponder j ≡ y
confirmed_is true j y e is = cc
confirmed_is false j y e is = absurd (cc)

confirmed_here : (peer : List ℕ) (j : Joined) (y : Held) → cond (bytes_eq peer peer) (confirmed (cond (bytes_eq peer peer) (Some (HalfOpen j)) None)) (cond (bytes_eq peer peer) (Some (HalfOpen j)) None) ≡ Some y → KeptAsResponder j ≡ y
confirmed_here peer j y is = confirmed_is (bytes_eq peer peer) j y (same peer peer refl) is

opened_is : (b : Bool) (j : Joined) (n near : ℕ) (ni : List ℕ) (y : Held) → b ≡ true → cond b (opened j (cond b (Some (Opening n near ni)) None)) (cond b (Some (Opening n near ni)) None) ≡ Some y → KeptAsInitiator j ≡ y
opened_is true j n near ni y e is = cc
opened_is false j n near ni y e is = absurd (cc)

opened_here : (peer : List ℕ) (j : Joined) (n near : ℕ) (ni : List ℕ) (y : Held) →
    cond (bytes_eq peer peer) (opened j (cond (bytes_eq peer peer) (Some (Opening n near ni)) None)) (cond (bytes_eq peer peer) (Some (Opening n near ni)) None) ≡ Some y → KeptAsInitiator j ≡ y
opened_here peer j n near ni y is = opened_is (bytes_eq peer peer) j n near ni y (same peer peer refl) is

keeps : (b : Bool) (j : Joined) (o : Option Held) → b ≡ true → cond b (confirmed (cond b (Some (HalfOpen j)) o)) (cond b (Some (HalfOpen j)) o) ≡ Some (KeptAsResponder j)
keeps true j o e = refl
keeps false j o e = absurd (cc)

isnt_confirmed : (peer : List ℕ) (near : ℕ) (j : Joined) → Confirmed peer near ≡ Born j → ⊥
isnt_confirmed peer near j e = cc

others_refused : (secrets : Secrets) (setup : Setup) (moment : ℕ) (c call : Call) (j : Joined) (why : Why) → ((peer : List ℕ) (n near : ℕ) (ni : List ℕ) → Ends (own_of setup) peer why (Opening n near ni) → ⊥) → OthersRefused secrets setup moment c call j why
others_refused secrets setup moment c call j why no_attempt = record {
  other_id = λ near differ h.
      let ended = h.1.0.0.0 in
      differ (ended.id ∙ sym (ap near_of (held_here j.peer (HalfOpen j) ended.h ended.thing)));
  other_peer = λ q differ h. let ended = h.1.0.0.0 in isnt_it (bytes_eq j.peer q) (HalfOpen j) ended.h (other j.peer q differ) ended.thing;
  of_nothing = λ h. let ended = h.0.0.0 in no_thing ended.h ended.thing;
  of_attempt = λ peer h.
      let ended = h.1.0.0.0 in
      no_attempt peer 1 5 peer (subst (λ (x : Held). Ends (own_of setup) peer why x) (sym (held_here peer (Opening 1 5 peer) ended.h ended.thing)) ended.ends);
  again = λ d before h. let ended = h.1.1.0.0.0 in none_left (bytes_eq j.peer j.peer) (HalfOpen j) ended.h ended.thing;
}

-- ---- unconfirmed and near

pub unconfirmed_refused : TheTableRefusesUnconfirmed
unconfirmed_refused secrets setup moment c d from sent draws j = record {
  others = others_refused secrets setup moment c _ j Unconfirmed (λ peer n near ni e. e);
  in_open = λ towards candidates h. h.1.0.0.1.0;
  in_cancel = λ m h. h.1.0.0.1.0;
  in_close = λ id h. h.1.0.0.1.0;
  in_receive = λ h. h.1.0.0.1.0;
  early = λ h. let late = h.1.0.0.1.1 in young 0 19999 late.birth 20000 (was_once late.birth _ 0 _ _ _ _ late.born) late.over (omega arith);
  early_later = λ h. let late = h.1.0.0.1.1 in young 7 20006 late.birth 20000 (was_once late.birth _ 7 _ _ _ _ late.born) late.over (omega arith);
  of_confirmed = λ h. let ended = h.1.1.0.0.0 in subst IsHalfOpen (sym (confirmed_here j.peer j ended.h ended.thing)) ended.ends;
  of_opened = λ h. let ended = h.1.1.0.0.0 in subst IsHalfOpen (sym (opened_here j.peer j j.n j.near j.ni ended.h ended.thing)) ended.ends;
  in_time = (
    tt,
    record {
      j = j;
      is_held = holds (bytes_eq j.peer j.peer) (HalfOpen j) (same j.peer j.peer refl);
      birth = 0;
      born = inl refl;
      over = omega arith;
    },
  );
}

pub nears_refused : TheTableRefusesNears
nears_refused secrets setup moment c from sent draws j = record {
  others = others_refused secrets setup moment c _ j Near (λ peer n near ni e. e);
  in_open = λ towards candidates h. h.1.0.0.1;
  in_cancel = λ m h. h.1.0.0.1;
  in_receive = λ h. h.1.0.0.1;
  in_tick = λ h. h.1.0.0.1;
  of_another = λ id differ h. differ h.1.0.0.1;
  by_close = refl;
}

-- ---- far

since_birth : (b : Bool) (others : List Taken) → b ≡ true → (if b then [] else others) ≡ []
since_birth true others e = refl
since_birth false others e = absurd (cc)

pub born_now : (j : Joined) (others : List Taken) → (if j.near == j.near then [] else others) ≡ []
born_now j others = since_birth (j.near == j.near) others (eq-eqb j.near j.near refl)

-- a datagram that comes in the session is taken where nothing was taken before
took_it : (secrets : Secrets) (setup : Setup) (generation : ℕ) (j : Joined) (sent : List ℕ) (before : List Taken) (thing : Held) → before ≡ [] → KeptAsResponder j ≡ thing → ComesIn secrets setup generation j sent →
    TookAt secrets setup generation thing j.near 1 (record { moment = 1; datagram = sent } ∷ before)
took_it secrets setup generation j sent before thing none is comes =
    let passes : Passes secrets setup generation (KeptAsResponder j) j.near before sent = record {
      packet = comes.packet;
      reads = comes.reads;
      number = subst (IsNewAfter secrets (context_here setup generation j) j.near (count_in sent)) (sym none) comes.counted;
      mode_is = comes.mode;
    } in
    let took : TookAt secrets setup generation (KeptAsResponder j) j.near 1 (record { moment = 1; datagram = sent } ∷ before) = inl (passes, refl) in
    subst (λ (x : Held). TookAt secrets setup generation x j.near 1 (record { moment = 1; datagram = sent } ∷ before)) is took

pub takes_it : (secrets : Secrets) (setup : Setup) (generation : ℕ) (from : AddressParts) (sent : List ℕ) (draws : Draws) (j : Joined) (chunk : Chunk) (moment : ℕ) (past : Past) (before : List Taken) →
    taken_since j.near past ≡ record { moment = moment; datagram = sent } ∷ before → before ≡ [] → BegunUnder secrets setup (HalfOpen j) generation past → Brings secrets setup generation j sent chunk →
    TakesChunkOf secrets setup past (HalfOpen j) j.near (record { from = from; datagram = sent; draws = draws }) chunk
takes_it secrets setup generation from sent draws j chunk moment past before last none begun b = record {
  moment = moment;
  before = before;
  last = last;
  generation = generation;
  begun = begun;
  passes = record {
    packet = b.comes.packet;
    reads = b.comes.reads;
    number = subst (IsNewAfter secrets (context_here setup generation j) j.near (count_in sent)) (sym none) b.comes.counted;
    mode_is = b.comes.mode;
  };
  placed = b.placed;
  among = b.among;
  spells = b.spells;
}

pub fars_refused : TheTableRefusesFars
fars_refused secrets setup moment c from sent draws j = record {
  others = others_refused secrets setup moment c _ j Far (λ peer n near ni e. e);
  in_open = λ towards candidates h. h.1.0.0.1.by;
  in_cancel = λ m h. h.1.0.0.1.by;
  in_close = λ id h. h.1.0.0.1.by;
  in_tick = λ h. h.1.0.0.1.by;
  untaken = untaken secrets setup from sent draws j CloseChunk _ _ _ _ _ (refl, refl, refl, (refl, refl, refl, (refl, refl, refl, tt))) (λ first. (refl, refl, refl, (refl, refl, refl, (refl, refl, refl, (refl, refl, refl, tt)))))
      (λ no h. let line = h.1.0.0.1 in no (taken line.thing line.is_held line.by))
      (λ first no h. let line = h.1.1.0.0.1 in no (taken line.thing line.is_held line.by))
      (λ chunks no h. let line = h.1.0.0.1 in no (taken line.thing line.is_held line.by))
      (λ first. _) (λ first. refl) (λ chunks. born_now j _);
  by_close = λ generation before e born b. record {
    thing = HalfOpen j;
    is_held = half_open_now (bytes_eq j.peer j.peer) j _ (same j.peer j.peer refl);
    by = takes_it secrets setup generation from sent draws j CloseChunk moment _ _ refl (born_now j _) (inr ((λ none. none), inl (refl, born))) b;
  };
}
  where
    taken : {past : Past} (thing : Held) → cond (bytes_eq j.peer j.peer) (Some (HalfOpen j)) None ≡ Some thing →
        TakesChunkOf secrets setup past thing j.near (record { from = from; datagram = sent; draws = draws }) CloseChunk →
        TakesChunkOf secrets setup past (HalfOpen j) j.near (record { from = from; datagram = sent; draws = draws }) CloseChunk
    taken {past} thing is t =
        subst (λ (x : Held). TakesChunkOf secrets setup past x j.near (record { from = from; datagram = sent; draws = draws }) CloseChunk) (sym (held_here j.peer (HalfOpen j) thing is)) t

-- ---- idle

isnt_start : (j : Joined) (peer ni : List ℕ) (n near : ℕ) → FactEntry (Opened j) ≡ FactEntry (Started peer n near ni) → ⊥
isnt_start j peer ni n near e = cc

pub idles_refused : TheTableRefusesIdles
idles_refused secrets setup moment c d from sent draws j = record {
  others = others_refused secrets setup moment c _ j Idle (λ peer n near ni e. e);
  in_open = λ towards candidates h. h.1.1.0.0.1.0;
  in_cancel = λ m h. h.1.1.0.0.1.0;
  in_close = λ id h. h.1.1.0.0.1.0;
  in_receive = λ h. h.1.1.0.0.1.0;
  of_half_open = λ h. let ended = h.1.0.0.0 in subst IsKept (sym (held_here j.peer (HalfOpen j) ended.h ended.thing)) ended.ends;
  early = λ h. let idle = h.1.1.0.0.1.1 in young 0 119999 idle.first 120000 (was_twice idle.first _ 0 (FactEntry idle.fact) _ _ _ _ _ idle.began) idle.old (omega arith);
  early_later = λ h. let idle = h.1.1.0.0.1.1 in young 7 120006 idle.first 120000 (was_twice idle.first _ 7 (FactEntry idle.fact) _ _ _ _ _ idle.began) idle.old (omega arith);
  early_opened = λ h.
      let idle = h.1.1.0.0.1.1 in
      let is : KeptAsInitiator j ≡ idle.thing = opened_here j.peer j j.n j.near j.ni idle.thing idle.is_held in
      young 7 120006 idle.first 120000 (opened_at _ _ _ _ idle.first idle.fact idle.thing is idle.began_with idle.began) idle.old (omega arith);
  heard = λ comes h.
      let idle = h.1.1.0.0.1.1 in
      let is : KeptAsResponder j ≡ idle.thing = confirmed_here j.peer j idle.thing idle.is_held in
      let first : idle.generation ≡ setup.generation = still_begun secrets setup idle.thing idle.generation (begun 0 some_event ∷ stamped 1 (FactEntry (Confirmed j.peer j.near)) ∷ begun 1 (doing 1 (Receive from sent draws) (says (Confirmed j.peer j.near))) ∷ stamped 0 (FactEntry (Born j)) ∷ begun 0 (doing 0 c (says (Born j))) ∷ []) idle.begun (refl, refl, refl, (refl, refl, refl, (refl, refl, refl, (refl, refl, refl, (refl, refl, refl, tt))))) in
      later 120000 (idle.quiet 1 (took_it secrets setup idle.generation j sent _ idle.thing (born_now j _) is (subst (λ (g : ℕ). ComesIn secrets setup g j sent) (sym first) comes)));
  in_time = λ generation before e born. (
    tt,
    record {
      thing = KeptAsResponder j;
      is_held = keeps (bytes_eq j.peer j.peer) j _ (same j.peer j.peer refl);
      first = 0;
      fact = Born j;
      began_with = refl;
      began = inr (inl refl);
      old = omega arith;
      generation = generation;
      begun = inr ((λ clash. isnt_confirmed j.peer j.near j clash), inl (refl, born));
      quiet = λ at took. absurd (subst (λ (ts : List Taken). TookAt secrets setup generation (KeptAsResponder j) j.near at ts) (born_now j _) took);
    },
  );
}
  where
    later : (n : ℕ) → 1 + n ≤ n → ⊥
    later n over = omega arith

    opened_at : (m : ℕ) (e d c : Event) (first : ℕ) (fact : Fact) (thing : Held) → KeptAsInitiator j ≡ thing → BeganWith thing fact →
        WasDone (stamped first (FactEntry fact)) (begun m e ∷ stamped 7 (FactEntry (Opened j)) ∷ begun 7 d ∷ stamped 0 (FactEntry (Started j.peer j.n j.near j.ni)) ∷ begun 0 c ∷ []) → first ≡ 7
    opened_at m e d c first fact thing is with_it was =
        let opening : fact ≡ Opened j = subst (λ (x : Held). BeganWith x fact) (sym is) with_it in
        let past : Past = begun m e ∷ stamped 7 (FactEntry (Opened j)) ∷ begun 7 d ∷ stamped 0 (FactEntry (Started j.peer j.n j.near j.ni)) ∷ begun 0 c ∷ [] in
        was_at 7 first (FactEntry (Opened j)) past (tt, ((λ _. refl), (tt, ((λ e. absurd (isnt_start j j.peer j.ni j.n j.near e)), (tt, tt))))) (subst (λ (f : Fact). WasDone (stamped first (FactEntry f)) past) opening was)
