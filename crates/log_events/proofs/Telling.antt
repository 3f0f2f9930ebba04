-- What was done before an event tells at each of its entries.
use Rattle.std.proofs.Common.{ℕ, List, [], ◌∷◌, ◌≡◌, inl, inr, refl, sym, ap, subst, Bool, true, false, if◌then◌else◌, Option, Some, None, ◌∙◌}
use Rattle.std.specs.FinMap.{get}
use Rattle.crypto_profile.specs.declared.keys.Context.{Context}
use Rattle.packet_scramble.specs.Datagram.{sid_of}
use Rattle.rtmfp_packet.specs.declared.head.Mode.{Mode}
use Rattle.glare_core.specs.declared.facts.Fact.TheVariants.{Confirmed, Ended}
use Rattle.glare_core.specs.declared.facts.Held.{Held}
use Rattle.glare_core.specs.declared.facts.Held.TheVariants.{HalfOpen}
use Rattle.glare_core.specs.declared.facts.Joined.{Joined}
use Rattle.glare_core.specs.declared.facts.Why.{Why}
use Rattle.glare_core.specs.Things.{IsSession}
use Rattle.endpoint_model.specs.Event.{Setup, Call, Event, ReceiveCall, receive_in}
use Rattle.endpoint_model.specs.declared.entry.Entry.{Entry}
use Rattle.endpoint_model.specs.Views.{fact_in}
use Rattle.endpoint_laws.specs.Past.{Past, OfEvent, Taken, before_event, datagram_in, datagram_of, last_call, receive_of, taken_and, taken_since, was_gone_through}
use Rattle.endpoint_laws.specs.Contexts.{Secrets, BegunUnder, CallOpensIn, OpensUnder, StandsUnder, inward}
use Rattle.endpoint_laws.specs.Taken.{Passes, PassesIn, inward_mode}
use Rattle.endpoint_laws.specs.Lawful.{Line, OpensInSession}
use Rattle.log_contexts.specs.Kept.{KeptContexts, last_in}
use Rattle.log_contexts.specs.Changes.{begun_id}
use Rattle.log_contexts.specs.Contexts.{AreContextsOf, BeginsIn, HearsThere, OpensThere}
use Rattle.log_contexts.proofs.Standing.{begun_one}
use Rattle.log_contexts.proofs.Told.{kept_tells}
use Rattle.log_arrivals.specs.declared.arrival.Arrival.{Arrival}
use Rattle.log_arrivals.specs.declared.arrival.Arrival.TheVariants.{Nowhere, Startup as InStartup, Session as InSession}
use Rattle.log_arrivals.specs.Arrivals.{ArrivesIn, IsArrivalOf}
use Rattle.log_arrivals.specs.Startup.{TellsStartup, generation_in}
use Rattle.log_facts.specs.Coming.{IsTaken, IsTakenBy, StoodAlone, StoodBefore, TakesIt}
use Rattle.log_facts.specs.Lines.{IsFoundFor}
use Rattle.log_events.specs.Underway.{BeganNow, IsUnderway, Stayed}
use Rattle.log_events.specs.Laws.{ArrivalsStay, BirthsAreTold, CausesAreTold, FactsAreFound, StartupStays, TakingsAreTold}
use Rattle.log_events.proofs.Calls.{birth_opens, contexts_stay, event_opened, opened_before, receives_keeps}
use Rattle.log_events.proofs.Things.{inward_same, mode_same, was_session}

pub it_stays : StartupStays
it_stays = record {
  contexts = contexts_stay;
  receives = λ e r given. receives_keeps e.call r given;
}

-- ---- where the datagram opens

never_session : (g : ℕ) → InStartup g ≡ InSession → ⊥
never_session g e = absurd cc

generation_is : (arrival : Arrival) (g : ℕ) → generation_in arrival ≡ Some g → arrival ≡ InStartup g
generation_is Nowhere g e = absurd cc
generation_is (InStartup h) g e = cc
generation_is InSession g e = absurd cc

module _ (secrets : Secrets) (setup : Setup) (before : Past) (plain : List ℕ) (arrival : Arrival) where
  -- it opens in startup
  starts : (o : Option ReceiveCall) → ArrivesIn secrets setup before o plain arrival → (g : ℕ) → CallOpensIn secrets setup before o g → arrival ≡ InStartup g
  starts None a g opened = absurd opened
  starts (Some r) a g opened = let s = a.starts g opened.plain (record { contexts = opened.contexts; named = opened.named; opens = opened.opens }) in s.0

  starts_back : (o : Option ReceiveCall) → ArrivesIn secrets setup before o plain arrival → (g : ℕ) → arrival ≡ InStartup g → CallOpensIn secrets setup before o g
  starts_back None a g at = absurd (let clash : Nowhere ≡ InStartup g = sym a ∙ at in cc)
  starts_back (Some r) a g at = let s = a.startup g at in record { contexts = s.contexts; named = s.named; plain = plain; opens = s.opens }

module _ (secrets : Secrets) (setup : Setup) (now : ℕ) (e : Event) (before past : Past) (plain : List ℕ) (arrival : Arrival) (u : IsUnderway secrets setup now e before past) (a : ArrivesIn secrets setup before (receive_in e.call) plain arrival) where
  asked_so : ArrivesIn secrets setup (before_event past) (receive_in e.call) plain arrival
  asked_so = subst (λ (p : Past). ArrivesIn secrets setup p (receive_in e.call) plain arrival) (sym u.since) a

  arrives_so : ArrivesIn secrets setup (before_event past) (receive_of (last_call past)) plain arrival
  arrives_so = subst (λ (o : Option Call). ArrivesIn secrets setup (before_event past) (receive_of o) plain arrival) (sym u.last) asked_so

  startup_so : TellsStartup secrets setup past (generation_in arrival)
  startup_so = record {
    opened = λ g is. event_opened secrets setup now e before past u g (starts_back secrets setup before plain arrival (receive_in e.call) a g (generation_is arrival g is));
    only = λ g opened. ap generation_in (starts secrets setup before plain arrival (receive_in e.call) a g (opened_before secrets setup now e before past u g opened));
  }

  -- ---- births

  begins_in : (id : Option ℕ) → ((near : ℕ) → id ≡ Some near → (g : ℕ) × CallOpensIn secrets setup before (receive_in e.call) g) → BeginsIn secrets setup past id (generation_in arrival)
  begins_in None opens = tt
  begins_in (Some near) opens =
      let opened = opens near refl in
      subst (λ (o : Option ℕ). BeginsIn secrets setup past (Some near) o) (sym (ap generation_in (starts secrets setup before plain arrival (receive_in e.call) a opened.0 opened.1))) (event_opened secrets setup now e before past u opened.0 opened.1)

  begins_so : (rest : List Entry) (entry : Entry) → Line secrets setup now e.call past rest entry → BeginsIn secrets setup past (begun_id (fact_in entry)) (generation_in arrival)
  begins_so rest entry line = begins_in (begun_id (fact_in entry)) (λ near begun. birth_opens secrets setup now e before past u rest entry near line begun)

  none_begins : (id : Option ℕ) → ((near : ℕ) → id ≡ Some near → (g : ℕ) × CallOpensIn secrets setup before (receive_in e.call) g) → arrival ≡ InSession → id ≡ None
  none_begins None opens at = refl
  none_begins (Some near) opens at =
      let opened = opens near refl in
      absurd (never_session opened.0 (sym (starts secrets setup before plain arrival (receive_in e.call) a opened.0 opened.1) ∙ at))

  none_so : (rest : List Entry) (entry : Entry) → arrival ≡ InSession → Line secrets setup now e.call past rest entry → begun_id (fact_in entry) ≡ None
  none_so rest entry at line = none_begins (begun_id (fact_in entry)) (λ near begun. birth_opens secrets setup now e before past u rest entry near line begun) at

  -- ---- what stands

  -- where it opens in a session, none that stands began in the event
  not_begun : (near : ℕ) → arrival ≡ InSession → BeganNow secrets setup e before past near → ⊥
  not_begun near at b = never_session b.generation (sym (starts secrets setup before plain arrival (receive_in e.call) a b.generation b.opened) ∙ at)

  stood_alone : (near : ℕ) (j : Joined) → arrival ≡ InSession → StandsUnder past near (HalfOpen j) → StoodAlone past near (HalfOpen j)
  stood_alone near j at stands = elim (u.sessions near (HalfOpen j) stands tt) [
    | inl s ↦
        let it : s.was ≡ HalfOpen j = elim s.is [ inl same ↦ same | inr same ↦ same ] in
        let there : StandsUnder before near (HalfOpen j) = subst (λ (t : Held). StandsUnder before near t) it s.stands in
        record {
          stands = subst (λ (p : Past). StandsUnder p near (HalfOpen j)) (sym u.since) there;
          alone = λ other so. u.alone near other (HalfOpen j) (subst (λ (p : Past). StandsUnder p near other) u.since so) there;
        }
    | inr b ↦ absurd (not_begun near at b)
  ]

  confirmed_so : (peer : List ℕ) (near : ℕ) (born : Bool) (last : Option ℕ) → IsFoundFor secrets setup now e.call past arrival born last (Confirmed peer near)
  confirmed_so peer near born last = λ j at is_held. stood_alone j.near j at (inl (record { peer = peer; is_held = is_held; id = refl }))

-- ---- what sessions take

one_datagram : (a b : List ℕ) → Some a ≡ Some b → a ≡ b
one_datagram a b e = cc

rest_same : (s t : Taken) (a b : List Taken) → s ∷ a ≡ t ∷ b → a ≡ b
rest_same s t a b e = cc

nothing_first : (t : Taken) (list : List Taken) → [] ≡ t ∷ list → ⊥
nothing_first t list e = absurd cc

through : (b : Bool) (o : Option (List ℕ)) (datagram : List ℕ) → (if b then o else None) ≡ Some datagram → o ≡ Some datagram
through true o datagram e = e
through false o datagram e = absurd cc

never_true : false ≡ true → ⊥
never_true e = absurd cc

pass_on : (secrets : Secrets) (c d : Context) (m n : Mode) (near : ℕ) (list : List Taken) (datagram : List ℕ) → c ≡ d → m ≡ n → PassesIn secrets c m near list datagram → PassesIn secrets d n near list datagram
pass_on secrets c d m n near list datagram same mode p =
    subst (λ (it : Mode). PassesIn secrets d it near list datagram) mode (subst (λ (it : Context). PassesIn secrets it m near list datagram) same p)

module _ (secrets : Secrets) (setup : Setup) (now : ℕ) (e : Event) (before past : Past) (u : IsUnderway secrets setup now e before past) (near : ℕ) (thing : Held) (session : IsSession thing) (s : Stayed secrets setup now e before past near thing) where
  -- it stood so before the event
  stood_as : (generation : ℕ) → BegunUnder secrets setup thing generation past → StoodBefore secrets setup past thing near generation
  stood_as generation begun =
      let same : s.generation ≡ generation = begun_one secrets setup thing s.generation generation past s.begun begun in
      record {
        was = s.was;
        stands = subst (λ (p : Past). StandsUnder p near s.was) (sym u.since) s.stands;
        is_session = was_session s.was thing s.is session;
        begun = subst (λ (g : ℕ). BegunUnder secrets setup s.was g (before_event past)) same (subst (λ (p : Past). BegunUnder secrets setup s.was s.generation p) (sym u.since) s.begun_before);
        same = inward_same setup generation s.was thing s.is;
      }

  -- what it takes, it took before
  opens_before : (r : ReceiveCall) → TakesIt secrets setup past thing near r → OpensInSession secrets setup before near s.was r.datagram
  opens_before r k =
      let same : k.generation ≡ s.generation = begun_one secrets setup thing k.generation s.generation past k.begun s.begun in
      let context : inward setup k.generation thing ≡ inward setup s.generation s.was = ap (λ (g : ℕ). inward setup g thing) same ∙ sym (inward_same setup s.generation s.was thing s.is) in
      record {
        stands = s.stands;
        is_session = was_session s.was thing s.is session;
        generation = s.generation;
        begun = s.begun_before;
        plain = k.passes.reads.plain;
        opens = subst (λ (it : Context). OpensUnder secrets it near r.datagram k.passes.reads.plain) context k.passes.reads.opens;
      }

  -- the session that was given the datagram is this one
  module _ (r : ReceiveCall) (given : datagram_in (OfEvent e) ≡ Some r.datagram) (first : Held) (generation n : ℕ) (fits : Bool) (c : KeptContexts) (took : Bool) (there : OpensThere secrets setup before near first generation r.datagram n fits)
      (hears : HearsThere secrets setup before now e near first generation r.datagram c took) where
    is_first : s.was ≡ first
    is_first = u.alone near s.was first s.stands there.stands

    generations : s.generation ≡ generation
    generations = begun_one secrets setup first s.generation generation before (subst (λ (t : Held). BegunUnder secrets setup t s.generation before) is_first s.begun_before) there.begun

    contexts : inward setup generation first ≡ inward setup s.generation thing
    contexts = ap (λ (g : ℕ). inward setup g first) (sym generations) ∙ ap (inward setup s.generation) (sym is_first) ∙ inward_same setup s.generation s.was thing s.is

    modes : inward_mode first ≡ inward_mode thing
    modes = ap inward_mode (sym is_first) ∙ mode_same s.was thing s.is

    taken_is : taken_since near past ≡ record { moment = now; datagram = r.datagram } ∷ taken_since near before
    taken_is = s.taken ∙ ap (λ (o : Option (List ℕ)). taken_and now o (taken_since near before)) given

    takes : took ≡ true → TakesIt secrets setup past thing near r
    takes it = record {
      moment = now;
      before = taken_since near before;
      last = taken_is;
      generation = s.generation;
      begun = s.begun;
      passes = pass_on secrets (inward setup generation first) (inward setup s.generation thing) (inward_mode first) (inward_mode thing) near (taken_since near before) r.datagram contexts modes (hears.passes it);
    }

    took_it : TakesIt secrets setup past thing near r → took ≡ true
    took_it k =
        let same : k.generation ≡ s.generation = begun_one secrets setup thing k.generation s.generation past k.begun s.begun in
        let list : k.before ≡ taken_since near before =
        rest_same (record { moment = k.moment; datagram = r.datagram }) (record { moment = now; datagram = r.datagram }) k.before (taken_since near before) (sym k.last ∙ taken_is) in
        let p : Passes secrets setup s.generation thing near (taken_since near before) r.datagram =
        subst (λ (l : List Taken). Passes secrets setup s.generation thing near l r.datagram) list (subst (λ (g : ℕ). Passes secrets setup g thing near k.before r.datagram) same k.passes) in
        hears.passed (pass_on secrets (inward setup s.generation thing) (inward setup generation first) (inward_mode thing) (inward_mode first) near (taken_since near before) r.datagram (sym contexts) (sym modes) p)

    taken_by : IsTakenBy secrets setup past r thing near took
    taken_by = record {
      tells = record { yes = takes; no = took_it };
      stood = λ it g begun. stood_as g begun;
    }

module _ (secrets : Secrets) (setup : Setup) (now : ℕ) (e : Event) (before past : Past) (plain : List ℕ) (arrival : Arrival) (u : IsUnderway secrets setup now e before past) (a : ArrivesIn secrets setup before (receive_in e.call) plain arrival) where
  -- ---- it opens in no session

  not_taken : (o : Option ReceiveCall) → receive_in e.call ≡ o → (arrival ≡ InSession → ⊥) → IsTaken secrets setup past o false
  not_taken None is outside = tt
  not_taken (Some r) is outside = λ thing stands session. record {
    tells = record {
      yes = λ it. absurd (never_true it);
      no = λ k. absurd (elim (u.sessions (sid_of r.datagram) thing stands session) [
        | inl s ↦
            let arrives : IsArrivalOf secrets setup before r.datagram plain arrival = subst (λ (o : Option ReceiveCall). ArrivesIn secrets setup before o plain arrival) is a in
            outside (arrives.goes_on (sid_of r.datagram) s.was (opens_before secrets setup now e before past u (sid_of r.datagram) thing session s r k)).0
        | inr b ↦ nothing_first (record { moment = k.moment; datagram = r.datagram }) k.before (sym b.taken ∙ k.last)
      ]);
    };
    stood = λ it. absurd (never_true it);
  }

  -- ---- it opens in one

  module _ (first : Held) (near generation n : ℕ) (fits : Bool) (c : KeptContexts) (took : Bool) where
    by_session : (r : ReceiveCall) → receive_in e.call ≡ Some r → datagram_in (OfEvent e) ≡ Some r.datagram → OpensThere secrets setup before near first generation r.datagram n fits →
        HearsThere secrets setup before now e near first generation r.datagram c took → (thing : Held) → StandsUnder past near thing → IsSession thing → IsTakenBy secrets setup past r thing near took
    by_session r is given there hears thing stands session = elim (u.sessions near thing stands session) [
      | inl s ↦ taken_by secrets setup now e before past u near thing session s r given first generation n fits c took there hears
      | inr b ↦
          let arrives : IsArrivalOf secrets setup before r.datagram plain arrival = subst (λ (o : Option ReceiveCall). ArrivesIn secrets setup before o plain arrival) is a in
          let at : OpensInSession secrets setup before near first r.datagram = record {
            stands = there.stands;
            is_session = there.is_session;
            generation = generation;
            begun = there.begun;
            plain = there.opens.plain;
            opens = there.opens.opens;
          } in
          absurd (not_begun secrets setup now e before past plain arrival u a near (arrives.goes_on near first at).0 b)
    ]

    heard_so : (datagram : List ℕ) (o : Option ReceiveCall) → receive_in e.call ≡ o → datagram_in (OfEvent e) ≡ Some datagram → OpensThere secrets setup before near first generation datagram n fits →
        HearsThere secrets setup before now e near first generation datagram c took → IsTaken secrets setup past o took
    heard_so datagram None is given there hears = tt
    heard_so datagram (Some r) is given there hears = λ thing stands session.
        let bytes : datagram ≡ r.datagram = one_datagram datagram r.datagram (sym (through (was_gone_through e.answer) (datagram_of (receive_in e.call)) datagram given) ∙ ap datagram_of is) in
        let id : near ≡ sid_of r.datagram = sym there.opens.opens.id ∙ ap sid_of bytes in
        subst (λ (it : ℕ). IsTakenBy secrets setup past r thing it took) id
        (by_session r is (given ∙ ap (λ (b : List ℕ). Some b) bytes) (subst (λ (b : List ℕ). OpensThere secrets setup before near first generation b n fits) bytes there)
        (subst (λ (b : List ℕ). HearsThere secrets setup before now e near first generation b c took) bytes hears) thing (subst (λ (it : ℕ). StandsUnder past it thing) (sym id) stands) session)

-- ---- when a session took the last datagram

ended_so : (secrets : Secrets) (setup : Setup) (now : ℕ) (e : Event) (past : Past) (peer : List ℕ) (near : ℕ) (why : Why) (arrival : Arrival) (born : Bool) (c : KeptContexts) → AreContextsOf secrets setup past c →
    IsFoundFor secrets setup now e.call past arrival born (last_in (get c.sessions near)) (Ended peer near why)
ended_so secrets setup now e past peer near why arrival born c are = λ idle thing is_held id session.
    let told = kept_tells.session secrets setup past c near thing are (inl (record { peer = peer; is_held = is_held; id = id })) session in
    record { generation = told.generation; begun = told.begun; took = told.took; within = told.within }

-- ---- the laws

pub arrivals_so : ArrivalsStay
arrivals_so = record { arrives = arrives_so; asked = asked_so; startup = startup_so }

pub births_so : BirthsAreTold
births_so = record {
  begins = λ secrets setup now e before past rest entry plain arrival u a line. begins_so secrets setup now e before past plain arrival u a rest entry line;
  none = λ secrets setup now e before past rest entry plain u a line. none_so secrets setup now e before past plain InSession u a rest entry refl line;
}

pub takings_so : TakingsAreTold
takings_so = record {
  heard = λ secrets setup now e before past plain datagram arrival near generation n thing fits c took u a given there hears.
      heard_so secrets setup now e before past plain arrival u a thing near generation n fits c took datagram (receive_in e.call) refl given there hears;
  none = λ secrets setup now e before past plain arrival u a outside. not_taken secrets setup now e before past plain arrival u a (receive_in e.call) refl outside;
}

pub found_so : FactsAreFound
found_so = record {
  confirmed = λ secrets setup now e before past plain peer near arrival born last u a. confirmed_so secrets setup now e before past plain arrival u a peer near born last;
  ended = ended_so;
}

pub causes_so : CausesAreTold
causes_so secrets setup now e before past nonce why u call a = record {
  arrives = subst (λ (it : Call). ArrivesIn secrets setup (before_event past) (receive_in it) why.plain.now why.arrival) call (asked_so secrets setup now e before past why.plain.now why.arrival u a);
  stays = λ r given. contexts_stay secrets setup now e before past u (receives_keeps e.call r (ap receive_in call ∙ given));
}
