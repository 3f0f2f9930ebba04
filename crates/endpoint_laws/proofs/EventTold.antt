-- An event is told: its facts are steps that are sound, each with what it heard before it and what its end tells after it.
use Rattle.std.proofs.Common.{ℕ, ◌<◌, ◌^◌, List, [], ◌∷◌, Option, Some, None, ◌≡◌, inl, inr, refl, sym, ap, subst, ◌∙◌, true}
use Rattle.crypto_profile.specs.declared.keys.Context.{Context}
use Rattle.crypto_profile.specs.declared.keys.Context.TheVariants.{Startup, Session}
use Rattle.glare_core.specs.declared.facts.Fact.{Fact}
use Rattle.glare_core.specs.declared.facts.Fact.TheVariants.{Born, Opened}
use Rattle.glare_core.specs.declared.facts.Held.TheVariants.{Opening, HalfOpen, KeptAsInitiator}
use Rattle.glare_core.specs.Standing.{held, count}
use Rattle.glare_core.specs.Stands.{Stands}
use Rattle.glare_core.specs.Tells.{Tell, Keying, Answer, Under, as_initiator}
use Rattle.glare_core.specs.Steps.{Item, Told, Did, Step, step, Among, view, facts, IsTail}
use Rattle.glare_core.specs.Told.{WasSent, nonces, with_nonce, AllDifferent}
use Rattle.glare_core.proofs.Views.{view_same}
use Rattle.glare_core.proofs.Tails.{tail_self, tail_trans}
use Rattle.rtmfp_forms.specs.Address.{AddressParts}
use Rattle.endpoint_model.proofs.Apart.{IsOther, kind_of}
use Rattle.endpoint_model.specs.Views.{fact_in, learnt_in, advanced_in}
use Rattle.endpoint_model.specs.declared.entry.Entry.{Entry}
use Rattle.endpoint_model.specs.declared.entry.Entry.TheVariants.{Fact as FactEntry, Learnt, Advanced, Out}
use Rattle.endpoint_model.specs.Event.{Setup, own_of, Call, Receive, ReceiveCall, receive_in, learn_in, is_advance}
use Rattle.endpoint_laws.specs.Past.{Past, stamped, facts_of, fact_and, onto, before_event, last_call, current_of, next_of, current_after, next_after, next_left}
use Rattle.endpoint_laws.specs.Contexts.{Secrets, startup_contexts, next_contexts, Begins}
use Rattle.endpoint_laws.specs.Lawful.{IsCounted, Line, EntriesLawful, LearnsIn}
use Rattle.endpoint_laws.specs.History.{HasOut, IsOut}
use Rattle.endpoint_laws.specs.Laws.{IsCall}
use Rattle.endpoint_laws.specs.Agreed.{IsNumberOf, IsStatedOn, IsStatedOnto}
use Rattle.endpoint_laws.proofs.FactsAlone.{alone}
use Rattle.endpoint_laws.proofs.Fresh.{nonces_alone, different_before, is_new}
use Rattle.endpoint_laws.proofs.HeldTold.{EndTold, FactSizes, AreSized, told_stays, born_stays, tail_sent, sized_more}
use Rattle.endpoint_laws.proofs.Telling.{Telling, Quietly, quiet_told, keyings_sent, fact_tell, Grown, grown}
use Rattle.endpoint_laws.proofs.Carried.{Carried}
use Rattle.endpoint_laws.proofs.Heard.{WasCarried, SameIn, IsHeardBy, Hears, hears, sizes_of}
use Rattle.endpoint_laws.proofs.Unique.{event_one}
use Rattle.endpoint_laws.proofs.Counted.{count_more}

-- ---- a call that takes a datagram changes no generation

receives_none : (call : Call) (r : ReceiveCall) → receive_in call ≡ Some r → (LearnsIn (learn_in call) → ⊥) × (is_advance call ≡ true → ⊥)
receives_none (Receive from datagram draws) r e = (λ l. l, λ a. absurd (cc))
receives_none call r e = absurd (cc)

no_generation_line : (secrets : Secrets) (setup : Setup) (now : ℕ) (call : Call) (past : Past) (rest : List Entry) (entry : Entry) → (LearnsIn (learn_in call) → ⊥) × (is_advance call ≡ true → ⊥) → Line secrets setup now call past rest entry →
    (learnt_in entry ≡ None) × (advanced_in entry ≡ None)
no_generation_line secrets setup now call past rest (Learnt generation) none line = absurd (none.0 line.1.by)
no_generation_line secrets setup now call past rest (Advanced generation) none line = absurd (none.1 line.1.by)
no_generation_line secrets setup now call past rest entry none line = (refl, refl)

same_more : (setup : Setup) (begin past : Past) (now : ℕ) (entry : Entry) → (learnt_in entry ≡ None) × (advanced_in entry ≡ None) → startup_contexts setup past ≡ startup_contexts setup begin →
    startup_contexts setup (stamped now entry ∷ past) ≡ startup_contexts setup begin
same_more setup begin past now entry none same =
    ap (λ (o : Option ℕ). Startup (current_after o (current_of setup past)) ∷ next_contexts (next_after (learnt_in entry) (next_left (advanced_in entry) (next_of past)))) none.1
    ∙ ap (λ (o : Option ℕ). Startup (current_of setup past) ∷ next_contexts (next_after o (next_left (advanced_in entry) (next_of past)))) none.0
    ∙ ap (λ (o : Option ℕ). Startup (current_of setup past) ∷ next_contexts (next_left o (next_of past))) none.1
    ∙ same

pub alike_more : (secrets : Secrets) (setup : Setup) (now : ℕ) (call : Call) (begin past : Past) (rest : List Entry) (entry : Entry) → Line secrets setup now call past rest entry → SameIn setup begin past (receive_in call) → SameIn setup begin (stamped now entry ∷ past) (receive_in call)
alike_more secrets setup now call begin past rest entry line same = by (receive_in call) refl same
  where
    by : (o : Option ReceiveCall) → receive_in call ≡ o → SameIn setup begin past o → SameIn setup begin (stamped now entry ∷ past) o
    by None e s = tt
    by (Some r) e s = same_more setup begin past now entry (no_generation_line secrets setup now call past rest entry (receives_none call r e) line) s

-- How far an event has come: after these entries of its end, the facts of all ends are these, and they are told in these steps.
pub record Far (secrets : Secrets) (setup : Setup) (call : Call) (begin : Past) (base : List Step) (past : Past) (so_far steps : List Step) : Type 0 where
  pub telling : Telling steps
  pub is : alone steps ≡ so_far
  pub stated : facts (view (own_of setup) steps) ≡ facts_of past
  pub tail : IsTail base steps
  pub told : EndTold secrets setup past steps
  pub origin : before_event past ≡ begin
  pub last : last_call past ≡ Some call
  pub same : SameIn setup begin past (receive_in call)

-- the steps after the rest of the entries, in which their datagrams carry what was told
pub record Reached (secrets : Secrets) (setup : Setup) (now : ℕ) (past : Past) (entries : List Entry) (after steps : List Step) : Type 0 where
  pub last : List Step
  pub telling : Telling last
  pub is : alone last ≡ after
  pub tail : IsTail steps last
  pub outs : (sent : List ℕ) (context : Context) → HasOut sent context entries → Carried secrets sent context last
  pub told : EndTold secrets setup (onto now entries past) last

module _ (secrets : Secrets) (setup : Setup) (now : ℕ) (call : Call) (begin : Past) (base : List Step) (is_call : IsCall call) (carried : WasCarried secrets setup begin base call) (first : EndTold secrets setup begin base) where
  abbrev own : List ℕ
  own = own_of setup

  abbrev FarTo : Past → List Step → List Step → Type 0
  FarTo past so_far steps = Far secrets setup call begin base past so_far steps

  -- what an entry leaves
  record Next (past : Past) (entry : Entry) (after steps : List Step) : Type 0 where
    next : List Step
    far : FarTo (stamped now entry ∷ past) after next
    more : IsTail steps next

  -- more steps, with the same facts
  quiet_far : (past : Past) (so_far steps next : List Step) → FarTo past so_far steps → Quietly steps next → FarTo past so_far next
  quiet_far past so_far steps next far q = record {
    telling = q.telling;
    is = q.is ∙ far.is;
    stated = q.same own ∙ far.stated;
    tail = tail_trans base steps next far.tail q.tail;
    told = told_stays secrets setup past steps next q.tail far.told;
    origin = far.origin;
    last = far.last;
    same = far.same;
  }

  -- ---- a fact

  -- what was told after it
  fact_told : (fact : Fact) (g : ℕ) (past : Past) (so_far steps : List Step) → FarTo past so_far steps → IsNumberOf secrets setup past fact g → FactSizes fact → (n : Grown own fact g steps) → EndTold secrets setup (stamped now (FactEntry fact) ∷ past) n.next
  fact_told fact g past so_far steps far number sizes n = record {
    born = λ j h b. elim b [
      | inl here ↦
          (let is : fact ≡ Born j = here.0 in
          let one : g ≡ h = event_one secrets setup past g h (subst (λ (f : Fact). IsNumberOf secrets setup past f g) is number) here.1 in
          let tell : fact_tell own fact g ≡ Some (Answer j.far own j.near j.nr j.k j.ni h) = ap (λ (f : Fact). fact_tell own f g) is ∙ ap (λ (k : ℕ). fact_tell own (Born j) k) one in
          record {
            stated = subst (λ (k : ℕ). Among (Did (Born j) k) (view own n.next)) one (subst (λ (f : Fact). Among (Did f g) (view own n.next)) is n.among);
            sent = n.sent (Answer j.far own j.near j.nr j.k j.ni h) tell;
            sizes = subst FactSizes is sizes;
          })
      | inr older ↦ born_stays setup steps n.next j h n.tail (far.told.born j h older.1)
    ];
    opened = λ j h b. elim b [
      | inl here ↦
          (let is : fact ≡ Opened j = here.0 in
          let one : g ≡ h = event_one secrets setup past g h (subst (λ (f : Fact). IsNumberOf secrets setup past f g) is number) here.1 in
          n.sent (Under (as_initiator own j) true h) (ap (λ (f : Fact). fact_tell own f g) is ∙ ap (λ (k : ℕ). fact_tell own (Opened j) k) one))
      | inr older ↦ tail_sent (Under (as_initiator own j) true h) steps n.next n.tail (far.told.opened j h older.1)
    ];
    sized = sized_more fact (facts_of past) sizes far.told.sized;
  }

  -- it has heard in these steps what it asks for
  fact_grows : (fact : Fact) (g : ℕ) (past : Past) (so_far steps : List Step) → FarTo past so_far steps → Stands own (count (facts_of past)) (facts_of past) fact → IsCounted fact →
      IsHeardBy g own (view own steps) fact → AllDifferent (with_nonce (Did fact g) (nonces so_far)) → Grown own fact g steps
  fact_grows fact g past so_far steps far stands fits heard new =
      let same : facts_of past ≡ facts (view own steps) = sym far.stated in
      let few : count (facts_of past) < 2 ^ 64 = subst (λ (fs : List Fact). count fs < 2 ^ 64) far.stated (far.telling.few own) in
      grown own fact g steps far.telling
      (record {
        fits = record { stands = subst (λ (fs : List Fact). Stands own (count fs) fs fact) same stands; heard = heard.0 };
        fresh = is_new g fact steps (nonces so_far) (sym (nonces_alone steps) ∙ ap nonces far.is) new;
        called = heard.1;
      })
      (subst (λ (fs : List Fact). count (fact ∷ fs) < 2 ^ 64) same (count_more own (facts_of past) fact few stands fits))

  after_fact : (fact : Fact) (g : ℕ) (past : Past) (rest : List Entry) (so_far steps older : List Step) → FarTo past so_far steps → Line secrets setup now call past rest (FactEntry fact) → IsNumberOf secrets setup past fact g → FactSizes fact →
      IsTail older steps → Grown own fact g steps → Next past (FactEntry fact) (step own (Did fact g) ∷ so_far) older
  after_fact fact g past rest so_far steps older far line number sizes more n = record {
    next = n.next;
    far = record {
      telling = n.telling;
      is = n.is ∙ ap (λ (r : List Step). step own (Did fact g) ∷ r) far.is;
      stated = n.stated ∙ ap (λ (fs : List Fact). fact ∷ fs) far.stated;
      tail = tail_trans base steps n.next far.tail n.tail;
      told = fact_told fact g past so_far steps far number sizes n;
      origin = far.origin;
      last = far.last;
      same = alike_more secrets setup now call begin past rest (FactEntry fact) line far.same;
    };
    more = tail_trans older steps n.next more n.tail;
  }

  fact_next : (fact : Fact) (g : ℕ) (past : Past) (rest : List Entry) (so_far steps : List Step) → FarTo past so_far steps → (line : Line secrets setup now call past rest (FactEntry fact)) → IsNumberOf secrets setup past fact g →
      AllDifferent (with_nonce (Did fact g) (nonces so_far)) → Hears g own steps fact → Next past (FactEntry fact) (step own (Did fact g) ∷ so_far) steps
  fact_next fact g past rest so_far steps far line number new hearing =
      let few : count (facts_of past) < 2 ^ 64 = subst (λ (fs : List Fact). count fs < 2 ^ 64) far.stated (far.telling.few own) in
      let sizes : FactSizes fact = sizes_of secrets setup now call past rest fact is_call few line.0 line.1 line.2 in
      elim hearing [
        | inl heard ↦ after_fact fact g past rest so_far steps steps far line number sizes (tail_self steps) (fact_grows fact g past so_far steps far line.0 line.2 heard new)
        | inr told ↦
            (let t : Tell = told.0 in
            let more : List Step = step own (Told t) ∷ steps in
            let q : Quietly steps more = quiet_told own t steps far.telling told.1 in
            let far' : FarTo past so_far more = quiet_far past so_far steps more far q in
            after_fact fact g past rest so_far more steps far' line number sizes q.tail
            (fact_grows fact g past so_far more far' line.0 line.2 (subst (λ (log : List Item). IsHeardBy g own log fact) (sym (view_same own (Told t) steps)) told.2) new))
      ]

  -- ---- other entries

  beside : (entry : Entry) (past : Past) (rest : List Entry) (so_far steps : List Step) → fact_in entry ≡ None → Line secrets setup now call past rest entry → FarTo past so_far steps → FarTo (stamped now entry ∷ past) so_far steps
  beside entry past rest so_far steps none line far =
      let same : facts_of (stamped now entry ∷ past) ≡ facts_of past = ap (λ (o : Option Fact). fact_and o (facts_of past)) none in
      record {
        telling = far.telling;
        is = far.is;
        stated = far.stated ∙ sym same;
        tail = far.tail;
        told = record {
          born = λ j h b. elim b [
            | inl here ↦ absurd (subst (λ (o : Option Fact). Begins (HalfOpen j) o) none here.0)
            | inr older ↦ far.told.born j h older.1
          ];
          opened = λ j h b. elim b [
            | inl here ↦ absurd (subst (λ (o : Option Fact). Begins (KeptAsInitiator j) o) none here.0)
            | inr older ↦ far.told.opened j h older.1
          ];
          sized = subst AreSized (sym same) far.told.sized;
        };
        origin = far.origin;
        last = far.last;
        same = alike_more secrets setup now call begin past rest entry line far.same;
      }

  -- the keyings of its attempts, before a datagram in a startup context goes out
  record KeyingsTold (context : Context) (past : Past) (so_far steps : List Step) : Type 0 where
    next : List Step
    far : FarTo past so_far next
    more : IsTail steps next
    sent : (peer : List ℕ) (n near : ℕ) (ni : List ℕ) (g : ℕ) → held peer (facts_of past) ≡ Some (Opening n near ni) → context ≡ Startup g → WasSent (Keying own peer n ni near g) next

  startup_one : (g h : ℕ) → Startup g ≡ Startup h → g ≡ h
  startup_one g h e = cc

  keyings_told : (context : Context) (past : Past) (so_far steps : List Step) → FarTo past so_far steps → KeyingsTold context past so_far steps
  keyings_told (Startup g) past so_far steps far =
      let k = keyings_sent g own steps far.telling in
      record {
        next = k.next;
        far = quiet_far past so_far steps k.next far k.quiet;
        more = k.quiet.tail;
        sent = λ peer n near ni h is_held e. subst (λ (m : ℕ). WasSent (Keying own peer n ni near m) k.next) (startup_one g h e) (k.sent peer n near ni (ap (held peer) far.stated ∙ is_held));
      }
  keyings_told (Session g ni nr fp_i fp_r sid_i sid_r to_responder) past so_far steps far =
      record { next = steps; far = far; more = tail_self steps; sent = λ peer n near nonce h is_held e. absurd (cc) }

  -- ---- what the rest of the entries reach, after one entry

  abbrev ReachedBy : List Entry → Past → List Step → List Step → List Step → Type 0
  ReachedBy entries past so_far after steps = FarTo past so_far steps → EntriesLawful secrets setup now call past entries → IsStatedOnto secrets setup now past entries so_far after → AllDifferent (nonces after) →
      Reached secrets setup now past entries after steps

  -- whatever the past, the facts and the steps so far
  abbrev ReachesOn : List Entry → Type 0
  ReachesOn entries = (past : Past) (so_far after steps : List Step) → ReachedBy entries past so_far after steps

  reached_fact : (fact : Fact) (rest : List Entry) → ReachesOn rest → (past : Past) (so_far after steps : List Step) → ReachedBy (FactEntry fact ∷ rest) past so_far after steps
  reached_fact fact rest later past so_far after steps far lawful is new =
      let line = lawful.0 in
      let g : ℕ = is.1.0 in
      let below : AllDifferent (nonces (step own (Did fact g) ∷ so_far)) =
      subst (λ (r : List Step). AllDifferent (nonces r)) is.1.2 (different_before secrets setup now (stamped now (FactEntry fact) ∷ past) rest is.0 after is.2 new) in
      let heard = hears secrets setup now begin past base steps far.tail far.stated first far.told far.origin call far.last far.same carried fact g rest is_call is.1.1 line.0 line.1 lawful.1 in
      let one = fact_next fact g past rest so_far steps far line is.1.1 below heard in
      let r = later (stamped now (FactEntry fact) ∷ past) (step own (Did fact g) ∷ so_far) after one.next one.far lawful.1
      (subst (λ (s : List Step). IsStatedOnto secrets setup now (stamped now (FactEntry fact) ∷ past) rest s after) is.1.2 is.2) new in
      record {
        last = r.last;
        telling = r.telling;
        is = r.is;
        tail = tail_trans steps one.next r.last one.more r.tail;
        outs = λ sent context out. elim out [ inl none ↦ absurd none | inr more ↦ r.outs sent context more ];
        told = r.told;
      }

  reached_out : (to : AddressParts) (datagram : List ℕ) (context : Context) (rest : List Entry) → ReachesOn rest → (past : Past) (so_far after steps : List Step) →
      ReachedBy (Out to datagram context ∷ rest) past so_far after steps
  reached_out to datagram context rest later past so_far after steps far lawful is new =
      let k = keyings_told context past so_far steps far in
      let r = later (stamped now (Out to datagram context) ∷ past) so_far after k.next (beside (Out to datagram context) past rest so_far k.next refl lawful.0 k.far) lawful.1
      (subst (λ (s : List Step). IsStatedOnto secrets setup now (stamped now (Out to datagram context) ∷ past) rest s after) is.1 is.2) new in
      let here : Carried secrets datagram context r.last = record {
        setup = setup;
        call = call;
        past = past;
        line = lawful.0;
        attempts = λ peer n near ni g is_held e. tail_sent (Keying own peer n ni near g) k.next r.last r.tail (k.sent peer n near ni g is_held e);
        told = told_stays secrets setup past k.next r.last r.tail k.far.told;
      } in
      record {
        last = r.last;
        telling = r.telling;
        is = r.is;
        tail = tail_trans steps k.next r.last k.more r.tail;
        outs = λ sent sealed_for out. elim out [
          | inl it ↦ subst (λ (b : List ℕ). Carried secrets b sealed_for r.last) it.0 (subst (λ (c : Context). Carried secrets datagram c r.last) it.1 here)
          | inr more ↦ r.outs sent sealed_for more
        ];
        told = r.told;
      }

  reached_other : (entry : Entry) → IsOther entry → (rest : List Entry) → ReachesOn rest → (past : Past) (so_far after steps : List Step) → ReachedBy (entry ∷ rest) past so_far after steps
  reached_other entry other rest later past so_far after steps far lawful is new =
      let as_none : is.0 ≡ so_far = subst (λ (o : Option Fact). IsStatedOn secrets setup past o so_far is.0) other.no_fact is.1 in
      let r = later (stamped now entry ∷ past) so_far after steps (beside entry past rest so_far steps other.no_fact lawful.0 far) lawful.1
      (subst (λ (s : List Step). IsStatedOnto secrets setup now (stamped now entry ∷ past) rest s after) as_none is.2) new in
      record {
        last = r.last;
        telling = r.telling;
        is = r.is;
        tail = r.tail;
        outs = λ sent context out. elim out [ inl it ↦ absurd (subst (IsOut sent context) other.no_out it) | inr more ↦ r.outs sent context more ];
        told = r.told;
      }

  pub reached : (entries : List Entry) → ReachesOn entries
  reached [] = λ past so_far after steps far lawful is new. record { last = steps; telling = far.telling; is = far.is ∙ sym is; tail = tail_self steps; outs = λ sent context none. absurd none; told = far.told }
  reached (entry ∷ rest) = λ past so_far after steps. elim (kind_of entry) [
    | inl fact ↦ subst (λ (e : Entry). ReachedBy (e ∷ rest) past so_far after steps) (sym fact.1) (reached_fact fact.0 rest (reached rest) past so_far after steps)
    | inr not ↦ elim not [
      | inl out ↦ subst (λ (e : Entry). ReachedBy (e ∷ rest) past so_far after steps) (sym out.1) (reached_out out.0.to out.0.datagram out.0.context rest (reached rest) past so_far after steps)
      | inr other ↦ reached_other entry other rest (reached rest) past so_far after steps
    ]
  ]
