-- What a lawful fact of an honest event has heard: the tell that it asks for was sent.
use Rattle.std.proofs.Common.{ℕ, ◌<◌, ◌^◌, List, [], ◌∷◌, length, Option, Some, ◌≡◌, ◌⊎◌, inl, inr, refl, sym, ap, subst, ◌∙◌, true, arith, None}
use Rattle.packet_scramble.specs.Datagram.{sid_of}
use Rattle.rtmfp_forms.specs.Address.{AddressParts}
use Rattle.rtmfp_packet.specs.Walk.{Placed}
use Rattle.crypto_profile.specs.declared.keys.Context.{Context}
use Rattle.crypto_profile.specs.declared.keys.Context.TheVariants.{Startup}
use Rattle.glare_core.specs.declared.facts.Why.{Why}
use Rattle.glare_core.specs.declared.facts.Why.TheVariants.{Cancelled, Expired, Glare, Override, Unconfirmed, Near, Far, Idle}
use Rattle.glare_core.specs.declared.facts.Fact.{Fact}
use Rattle.glare_core.specs.declared.facts.Fact.TheVariants.{Started, Born, Opened, Confirmed, Ended}
use Rattle.glare_core.specs.declared.facts.Held.{Held}
use Rattle.glare_core.specs.declared.facts.Held.TheVariants.{Opening, HalfOpen}
use Rattle.glare_core.specs.declared.facts.Joined.{Joined}
use Rattle.glare_core.specs.Standing.{held, seen, count}
use Rattle.glare_core.specs.Stands.{Stands}
use Rattle.glare_core.specs.Tells.{Tell, Keying, Answer, Under, as_responder}
use Rattle.glare_core.specs.Steps.{Item, Told, Did, Step, view, facts, holding, IsTail}
use Rattle.glare_core.specs.Table.{HasHeard}
use Rattle.glare_core.specs.Told.{WasSent}
use Rattle.glare_core.proofs.Views.{seen_item}
use Rattle.glare_core.proofs.Sound.{IsCalledFor}
use Rattle.endpoint_model.proofs.Apart.{opens_alone, receives_alone}
use Rattle.sha2.proofs.Facts256.{length-sha256}
use Rattle.endpoint_model.specs.Views.{Sending, NamedSearch, EndedSearch, fact_in, out_in, closed_in, sought_in, unsought_in, learnt_in, advanced_in}
use Rattle.endpoint_model.specs.declared.config.Draws.{Draws}
use Rattle.endpoint_model.specs.declared.entry.Entry.{Entry}
use Rattle.endpoint_model.specs.declared.entry.Entry.TheVariants.{Fact as FactEntry}
use Rattle.endpoint_model.specs.Event.{Setup, own_of, Call, Open, Receive, OpenCall, ReceiveCall, open_in, receive_in}
use Rattle.endpoint_model.specs.Keying.{IsFirst, IsAmong, chunks_of}
use Rattle.endpoint_laws.specs.Past.{Past, stamped, facts_of, before_event, last_call, receive_of}
use Rattle.endpoint_laws.specs.Contexts.{Secrets, session_context, startup_contexts, OpensUnder, OpensFirst, OpensInStartup, CallOpensIn, EventOpenedIn, StandsUnder, ContextsOf}
use Rattle.endpoint_laws.specs.Admissible.{Admissible, Offer}
use Rattle.endpoint_laws.specs.Lawful.{Opens, Bears, FactLine, BornLine, ConfirmedLine, EndedLine, WayMade, AnswersAttempt, OpensInSession, BornFollows, IsCounted, EntriesLawful, IsBornIn, LineOf, OpensIn, BearsIn, TakesAnswerIn, TakesHelloIn, TakesUnderIn}
use Rattle.endpoint_laws.specs.Laws.{IsCall}
use Rattle.endpoint_laws.specs.Agreed.{IsNumberOf}
use Rattle.endpoint_laws.proofs.HeldTold.{EndTold, BornSizes, FactSizes, tail_sent, born_stays}
use Rattle.endpoint_laws.proofs.Unique.{call_one, opened_one}
use Rattle.endpoint_laws.proofs.Carried.{Carried, keying_carried, answer_carried, under_carried}

-- The datagram of a call was sent in the context in which it opens, if it opens in one.
abbrev pub CarriedIn : Secrets → Setup → Past → List Step → Option ReceiveCall → Type 0
CarriedIn secrets setup begin steps None = Unit {0}
CarriedIn secrets setup begin steps (Some r) = (contexts : List Context) (context : Context) (plain : List ℕ) → ContextsOf secrets setup begin (sid_of r.datagram) contexts →
    OpensFirst secrets contexts (sid_of r.datagram) r.datagram context plain → Carried secrets r.datagram context steps

abbrev pub WasCarried : Secrets → Setup → Past → List Step → Call → Type 0
WasCarried secrets setup begin steps call = CarriedIn secrets setup begin steps (receive_in call)

-- No generation changes in the event of a call that takes a datagram.
abbrev pub SameIn : Setup → Past → Past → Option ReceiveCall → Type 0
SameIn setup begin past None = Unit {0}
SameIn setup begin past (Some r) = startup_contexts setup past ≡ startup_contexts setup begin

-- what the table and the cause Override ask to have been told
abbrev pub IsHeardBy : ℕ → List ℕ → List Item → Fact → Type 0
IsHeardBy g own log fact = HasHeard own log fact g × IsCalledFor own log fact

-- It was told before, or a tell that was sent is all that it asks for more.
abbrev pub Hears : ℕ → List ℕ → List Step → Fact → Type 0
Hears g own steps fact = IsHeardBy g own (view own steps) fact ⊎ ((t : Tell) × WasSent t steps × IsHeardBy g own (Told t ∷ view own steps) fact)

first_among : (c : Placed) (cs : List Placed) → IsFirst c cs → IsAmong c cs
first_among c [] first = absurd first
first_among c (x ∷ cs) (inl e) = inl e
first_among c (x ∷ cs) (inr r) = inr (first_among c cs r.1)

-- ---- the three tells

-- where a datagram with an admissible keying opened
pub keying_opens : (secrets : Secrets) (setup : Setup) (begin past : Past) (now : ℕ) (from : AddressParts) (datagram : List ℕ) (offer : Offer) → startup_contexts setup past ≡ startup_contexts setup begin →
    (a : Admissible secrets setup past now from datagram offer) → OpensInStartup secrets setup begin datagram a.generation
keying_opens secrets setup begin past now from datagram offer same a =
    let id : sid_of datagram ≡ 0 = a.reads.opens.id in
    record {
      contexts = startup_contexts setup begin;
      named = inl (id, refl);
      plain = a.reads.plain;
      opens =
          subst (λ (s : ℕ). OpensFirst secrets (startup_contexts setup begin) s datagram (Startup a.generation) a.reads.plain) (sym id)
          (subst (λ (cs : List Context). OpensFirst secrets cs 0 datagram (Startup a.generation) a.reads.plain) same a.opens);
    }

keying_told : (secrets : Secrets) (setup : Setup) (begin past : Past) (now : ℕ) (base : List Step) (from : AddressParts) (datagram : List ℕ) (draws : Draws) (offer : Offer) →
    WasCarried secrets setup begin base (Receive from datagram draws) → startup_contexts setup past ≡ startup_contexts setup begin →
    (a : Admissible secrets setup past now from datagram offer) → WasSent (Keying offer.peer (own_of setup) offer.n offer.ni offer.far a.generation) base
unfolding keying_opens
keying_told secrets setup begin past now base from datagram draws offer carried same a =
    let o = keying_opens secrets setup begin past now from datagram offer same a in
    let there = carried o.contexts (Startup a.generation) o.plain (inl o.named) o.opens in
    subst (λ (p : List ℕ). WasSent (Keying p (own_of setup) offer.n offer.ni offer.far a.generation) base) (sym a.peer)
    (keying_carried secrets datagram base a.generation there 0 a.reads.plain a.reads.opens a.packet a.reads.reads a.chunk offer.far a.cookie a.cert offer.ni offer.n (own_of setup) a.sign
    (first_among a.chunk (chunks_of a.packet) a.first) a.spells a.nonce_size a.number)

answer_told : (secrets : Secrets) (setup : Setup) (begin : Past) (base : List Step) (from : AddressParts) (datagram : List ℕ) (draws : Draws) (j : Joined) (generation : ℕ) →
    WasCarried secrets setup begin base (Receive from datagram draws) → IsCall (Receive from datagram draws) → OpensInStartup secrets setup begin datagram generation → length j.peer ≡ 32 → length j.ni ≡ 16 →
    AnswersAttempt secrets generation j datagram → WasSent (Answer j.near j.peer j.far j.nr j.k j.ni generation) base
answer_told secrets setup begin base from datagram draws j generation carried is_call o peer_size ni_size a =
    let there = carried o.contexts (Startup generation) o.plain (inl o.named) o.opens in
    answer_carried secrets datagram base generation there j.near a.reads.plain a.reads.opens a.packet a.reads.reads a.chunk j.far j.nr j.k j.peer j.ni a.sign a.among a.spells is_call.0 peer_size ni_size a.number

under_told : (secrets : Secrets) (setup : Setup) (begin : Past) (base : List Step) (from : AddressParts) (datagram : List ℕ) (draws : Draws) (near : ℕ) (j : Joined) →
    WasCarried secrets setup begin base (Receive from datagram draws) → (o : OpensInSession secrets setup begin near (HalfOpen j) datagram) → WasSent (Under (as_responder (own_of setup) j) true o.generation) base
under_told secrets setup begin base from datagram draws near j carried o =
    let context : Context = session_context o.generation (as_responder (own_of setup) j) true in
    let id : sid_of datagram ≡ near = o.opens.id in
    let opens : OpensUnder secrets context (sid_of datagram) datagram o.plain = subst (λ (s : ℕ). OpensUnder secrets context s datagram o.plain) (sym id) o.opens in
    let stands : StandsUnder begin (sid_of datagram) (HalfOpen j) = subst (λ (s : ℕ). StandsUnder begin s (HalfOpen j)) (sym id) o.stands in
    under_carried secrets datagram o.generation (as_responder (own_of setup) j) base
    (carried (context ∷ []) context o.plain (inr (HalfOpen j, o.generation, stands, o.is_session, o.begun, refl)) (inl (refl, opens)))

pub way_contexts : (setup : Setup) (now : ℕ) (before at : Past) (peer : List ℕ) → WayMade now at before peer → startup_contexts setup before ≡ startup_contexts setup at
way_contexts setup now before at peer (inl e) = ap (startup_contexts setup) (sym e)
way_contexts setup now before at peer (inr way) = ap (startup_contexts setup) (sym way.3)

-- ---- a fact

module _ (secrets : Secrets) (setup : Setup) (now : ℕ) (begin past : Past) (base steps : List Step) (tail : IsTail base steps) (stated : facts (view (own_of setup) steps) ≡ facts_of past)
    (first : EndTold secrets setup begin base) (told : EndTold secrets setup past steps) (origin : before_event past ≡ begin) (call : Call) (last : last_call past ≡ Some call)
    (same : SameIn setup begin past (receive_in call)) (carried : WasCarried secrets setup begin base call) where
  abbrev own : List ℕ
  own = own_of setup

  grows : (t : Tell) → WasSent t base → WasSent t steps
  grows t w = tail_sent t base steps tail w

  holding_is : (peer : List ℕ) (h : Held) → held peer (facts_of past) ≡ Some h → holding own peer steps ≡ Some h
  holding_is peer h e = ap (held peer) stated ∙ e

  -- the generation in which the call's datagram opened
  its_number : (g : ℕ) → EventOpenedIn secrets setup past g → CallOpensIn secrets setup begin (receive_in call) g
  its_number g o =
      subst (λ (c : Option Call). CallOpensIn secrets setup begin (receive_of c) g) last
      (subst (λ (p : Past). CallOpensIn secrets setup p (receive_of (last_call past)) g) origin o)

  called_by : (peer : List ℕ) (near : ℕ) (why : Why) (j : Joined) (g : ℕ) → j.peer ≡ peer → seen j.peer (Ended peer near why ∷ facts_of past) < j.n →
      IsCalledFor own (Told (Keying j.peer own j.n j.ni j.far g) ∷ view own steps) (Ended peer near why)
  called_by peer near why j g is above e =
      let more = seen_item peer (Did (Ended peer near why) g) (view own steps) in
      let here : seen peer (Ended peer near why ∷ facts (view own steps)) < j.n =
      subst (λ (fs : List Fact). seen peer (Ended peer near why ∷ fs) < j.n) (sym stated) (subst (λ (p : List ℕ). seen p (Ended peer near why ∷ facts_of past) < j.n) is above) in
      record {
        n = j.n;
        ni = j.ni;
        near_i = j.far;
        generation = g;
        told = inl (ap (λ (p : List ℕ). Told (Keying p own j.n j.ni j.far g)) (sym is));
        above = omega (arith, more, here);
      }

  abbrev offer_of : Joined → Offer
  offer_of j = record { peer = j.peer; n = j.n; ni = j.ni; far = j.far }

  -- the keying of which a session is born, and the generation in which it came
  record Borne (j : Joined) : Type 0 where
    generation : ℕ
    came : CallOpensIn secrets setup begin (receive_in call) generation
    sent : WasSent (Keying j.peer own j.n j.ni j.far generation) steps

  bears : (before : Past) (j : Joined) → startup_contexts setup before ≡ startup_contexts setup past → BearsIn secrets setup before now (receive_in call) (offer_of j) j.nr → Borne j
  bears before j way by = in_receive (receive_in call) refl carried same by
    where
      in_receive : (o : Option ReceiveCall) → receive_in call ≡ o → CarriedIn secrets setup begin base o → SameIn setup begin past o → BearsIn secrets setup before now o (offer_of j) j.nr → Borne j
      in_receive None e sent alike bearing = absurd bearing
      in_receive (Some r) e sent alike bearing = record {
        generation = bearing.0.generation;
        came = subst (λ (o : Option ReceiveCall). CallOpensIn secrets setup begin o bearing.0.generation) (sym e) (keying_opens secrets setup begin before now r.from r.datagram (offer_of j) (way ∙ alike) bearing.0);
        sent = grows (Keying j.peer own j.n j.ni j.far bearing.0.generation) (keying_told secrets setup begin before now base r.from r.datagram r.draws (offer_of j) sent (way ∙ alike) bearing.0);
      }

  hears_born : (j : Joined) (g : ℕ) → EventOpenedIn secrets setup past g → BornLine secrets setup now call past j → Hears g own steps (Born j)
  hears_born j g opened line =
      let b = bears line.before j (way_contexts setup now line.before past j.peer line.way) line.by in
      let one : b.generation ≡ g = call_one secrets setup begin (receive_in call) b.generation g b.came (its_number g opened) in
      inr (Keying j.peer own j.n j.ni j.far g, subst (λ (k : ℕ). WasSent (Keying j.peer own j.n j.ni j.far k) steps) one b.sent, (inl refl, tt))

  hears_opened : (j : Joined) (g : ℕ) → EventOpenedIn secrets setup past g → IsCall call → held j.peer (facts_of past) ≡ Some (Opening j.n j.near j.ni) → TakesAnswerIn secrets setup past (receive_in call) j → Hears g own steps (Opened j)
  hears_opened j g opened is_call stands line = in_receive (receive_in call) refl carried line (its_number g opened)
    where
      in_receive : (o : Option ReceiveCall) → receive_in call ≡ o → CarriedIn secrets setup begin base o → TakesAnswerIn secrets setup past o j → CallOpensIn secrets setup begin o g → Hears g own steps (Opened j)
      in_receive None e sent answer came = absurd answer
      in_receive (Some r) e sent answer came =
          let sizes = told.sized j.peer j.n j.near j.ni stands in
          let there : OpensInStartup secrets setup begin r.datagram answer.0 = subst (λ (p : Past). OpensInStartup secrets setup p r.datagram answer.0) origin answer.1 in
          let one : answer.0 ≡ g = opened_one secrets setup begin r.datagram answer.0 g there came in
          let t : Tell = Answer j.near j.peer j.far j.nr j.k j.ni g in
          let was : WasSent t base = subst (λ (k : ℕ). WasSent (Answer j.near j.peer j.far j.nr j.k j.ni k) base) one
          (answer_told secrets setup begin base r.from r.datagram r.draws j answer.0 sent (subst IsCall (receives_alone call r e) is_call) there sizes.0 sizes.1 answer.2) in
          inr (t, grows t was, (inl refl, tt))

  hears_confirmed : (peer : List ℕ) (near g : ℕ) → ConfirmedLine secrets setup call past peer near → Hears g own steps (Confirmed peer near)
  hears_confirmed peer near g line = in_receive (receive_in call) carried line.by
    where
      j : Joined
      j = line.j

      in_receive : (o : Option ReceiveCall) → CarriedIn secrets setup begin base o → TakesUnderIn secrets setup past o near (HalfOpen j) → Hears g own steps (Confirmed peer near)
      in_receive None sent by = absurd by
      in_receive (Some r) sent by =
          let o : OpensInSession secrets setup begin near (HalfOpen j) r.datagram = subst (λ (p : Past). OpensInSession secrets setup p near (HalfOpen j) r.datagram) origin by in
          let t : Tell = Under (as_responder own j) true o.generation in
          let was = born_stays setup base steps j o.generation tail (first.born j o.generation o.begun) in
          inr (t, grows t (under_told secrets setup begin base r.from r.datagram r.draws near j sent o), (record { j = j; session = holding_is peer (HalfOpen j) line.session; generation = o.generation; born = inr was.stated; told = inl refl }, tt))

  -- what was done, and then an Ended
  abbrev ended_on : List ℕ → ℕ → Why → Past
  ended_on peer near why = stamped now (FactEntry (Ended peer near why)) ∷ past

  -- an Ended for Override has heard the keying of the Born that follows
  hears_way : (peer : List ℕ) (near : ℕ) (why : Why) (g : ℕ) (rest : List Entry) → BornFollows peer rest →
      EntriesLawful secrets setup now call (stamped now (FactEntry (Ended peer near why)) ∷ past) rest → Hears g own steps (Ended peer near why)
  hears_way peer near why g [] follows lawful = absurd follows
  hears_way peer near why g (entry ∷ rest) follows lawful = by (fact_in entry) (out_in entry) (closed_in entry) (sought_in entry) (unsought_in entry) (learnt_in entry) (advanced_in entry) follows lawful.0
    where
      by : (o : Option Fact) (sent : Option Sending) (over : Option ℕ) (sought : Option NamedSearch) (ended : Option EndedSearch) (learnt advanced : Option ℕ) → IsBornIn peer o → LineOf secrets setup now call (ended_on peer near why) rest o sent over sought ended learnt advanced → Hears g own steps (Ended peer near why)
      by None sent over sought ended learnt advanced born line = absurd born
      by (Some (Born j)) sent over sought ended learnt advanced born line =
          let b = bears line.1.before j (way_contexts setup now line.1.before (ended_on peer near why) j.peer line.1.way) line.1.by in
          inr (Keying j.peer own j.n j.ni j.far b.generation, b.sent, (tt, called_by peer near why j b.generation born line.0.above))
      by (Some (Started p n m ni)) sent over sought ended learnt advanced born line = absurd born
      by (Some (Opened j)) sent over sought ended learnt advanced born line = absurd born
      by (Some (Confirmed p m)) sent over sought ended learnt advanced born line = absurd born
      by (Some (Ended p m w)) sent over sought ended learnt advanced born line = absurd born

  hears_ended : (peer : List ℕ) (near : ℕ) (why : Why) (g : ℕ) (rest : List Entry) → EndedLine secrets setup now call past rest peer near why →
      EntriesLawful secrets setup now call (stamped now (FactEntry (Ended peer near why)) ∷ past) rest → Hears g own steps (Ended peer near why)
  hears_ended peer near Cancelled g rest line lawful = inl (tt, λ e. absurd (cc))
  hears_ended peer near Expired g rest line lawful = inl (tt, λ e. absurd (cc))
  hears_ended peer near Glare g rest line lawful = inl (tt, λ e. absurd (cc))
  hears_ended peer near Override g rest line lawful = hears_way peer near Override g rest line lawful
  hears_ended peer near Unconfirmed g rest line lawful = inl (tt, λ e. absurd (cc))
  hears_ended peer near Near g rest line lawful = inl (tt, λ e. absurd (cc))
  hears_ended peer near Far g rest line lawful = inl (tt, λ e. absurd (cc))
  hears_ended peer near Idle g rest line lawful = inl (tt, λ e. absurd (cc))

  -- each fact has heard what it asks for
  pub hears : (fact : Fact) (g : ℕ) (rest : List Entry) → IsCall call → IsNumberOf secrets setup past fact g → Stands own (count (facts_of past)) (facts_of past) fact →
      FactLine secrets setup now call past rest fact → EntriesLawful secrets setup now call (stamped now (FactEntry fact) ∷ past) rest → Hears g own steps fact
  hears (Started peer n near ni) g rest is_call number stands line lawful = inl (tt, tt)
  hears (Born j) g rest is_call number stands line lawful = hears_born j g number line
  hears (Opened j) g rest is_call number stands line lawful = hears_opened j g number is_call stands line
  hears (Confirmed peer near) g rest is_call number stands line lawful = hears_confirmed peer near g line
  hears (Ended peer near why) g rest is_call number stands line lawful = hears_ended peer near why g rest line lawful

-- ---- the sizes of a fact

born_sizes : (secrets : Secrets) (setup : Setup) (now : ℕ) (call : Call) (before : Past) (j : Joined) → IsCall call → j.k < 2 ^ 64 → Bears secrets setup before now call (record { peer = j.peer; n = j.n; ni = j.ni; far = j.far }) j.nr → BornSizes j
born_sizes secrets setup now call before j is_call few by = in_receive (receive_in call) refl by
  where
    in_receive : (o : Option ReceiveCall) → receive_in call ≡ o → BearsIn secrets setup before now o (record { peer = j.peer; n = j.n; ni = j.ni; far = j.far }) j.nr → BornSizes j
    in_receive None e bears = absurd bears
    in_receive (Some r) e bears =
        let sizes : IsCall (Receive r.from r.datagram r.draws) = subst IsCall (receives_alone call r e) is_call in
        record { nr = ap length bears.1 ∙ sizes.1; ni = bears.0.nonce_size; k = few; far = bears.0.spells.1.3.0 }

started_sizes : (call : Call) (peer : List ℕ) (n : ℕ) (ni : List ℕ) → IsCall call → n < 2 ^ 64 → Opens call peer ni → (length peer ≡ 32) × (length ni ≡ 16) × (n < 2 ^ 64)
started_sizes call peer n ni is_call fits by = in_open (open_in call) refl by
  where
    in_open : (o : Option OpenCall) → open_in call ≡ o → OpensIn o peer ni → (length peer ≡ 32) × (length ni ≡ 16) × (n < 2 ^ 64)
    in_open None e opens = absurd opens
    in_open (Some o) e opens =
        let sizes : IsCall (Open o.peer o.candidates o.draws) = subst IsCall (opens_alone call o e) is_call in
        (sym (ap length opens.0) ∙ sizes.0, ap length opens.1 ∙ sizes.1, fits)

-- an attempt that was a search has the sizes that its line says
hello_sizes : (secrets : Secrets) (setup : Setup) (past : Past) (peer : List ℕ) (n near : ℕ) (ni : List ℕ) (o : Option ReceiveCall) → TakesHelloIn secrets setup past o peer n near ni → (length peer ≡ 32) × (length ni ≡ 16) × (n < 2 ^ 64)
hello_sizes secrets setup past peer n near ni None hello = absurd hello
hello_sizes secrets setup past peer n near ni (Some r) hello = (ap length hello.2.peer_is ∙ length-sha256 hello.2.cert, hello.2.nonce_size, hello.2.number)

pub sizes_of : (secrets : Secrets) (setup : Setup) (now : ℕ) (call : Call) (past : Past) (rest : List Entry) (fact : Fact) → IsCall call → count (facts_of past) < 2 ^ 64 →
    Stands (own_of setup) (count (facts_of past)) (facts_of past) fact → FactLine secrets setup now call past rest fact → IsCounted fact → FactSizes fact
sizes_of secrets setup now call past rest (Started peer n near ni) is_call few stands (inl by_open) fits = started_sizes call peer n ni is_call fits by_open.0
sizes_of secrets setup now call past rest (Started peer n near ni) is_call few stands (inr hello) fits = hello_sizes secrets setup past peer n near ni (receive_in call) hello
sizes_of secrets setup now call past rest (Born j) is_call few stands line fits = born_sizes secrets setup now call line.before j is_call (subst (λ (k : ℕ). k < 2 ^ 64) (sym stands.counted) few) line.by
sizes_of secrets setup now call past rest (Opened j) is_call few stands line fits = tt
sizes_of secrets setup now call past rest (Confirmed peer near) is_call few stands line fits = tt
sizes_of secrets setup now call past rest (Ended peer near why) is_call few stands line fits = tt
