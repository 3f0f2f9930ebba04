-- What is found of a datagram, by the context in which it opens.
use Rattle.std.proofs.Common.{ℕ, ◌≡◌, nat_lt, length, drop, Bool, true, false, ◌&&◌, if◌then◌else◌, List, [], ◌∷◌, Option, Some, None, inl, inr, refl, sym, ap, subst, ◌∙◌}
use Rattle.crypto_profile.specs.declared.keys.Context.{Context}
use Rattle.crypto_profile.specs.declared.keys.Context.TheVariants.{Startup, Session}
use Rattle.crypto_profile.specs.Sealing.{number_of}
use Rattle.packet_scramble.specs.Datagram.{sid_of}
use Rattle.glare_core.specs.declared.facts.Held.{Held}
use Rattle.glare_core.specs.declared.facts.Held.TheVariants.{Opening, HalfOpen, KeptAsResponder, KeptAsInitiator}
use Rattle.glare_core.specs.Things.{IsSession}
use Rattle.endpoint_model.specs.Event.{Setup, own_of}
use Rattle.endpoint_laws.specs.Past.{Past}
use Rattle.endpoint_laws.specs.Contexts.{Secrets, ContextsOf, OpensUnder, OpensFirst, StandsUnder, StartupContextsOf, inward, next_contexts}
use Rattle.endpoint_laws.specs.Lawful.{OpensInSession}
use Rattle.log_packets.specs.Opening.{sid_in, is_sid, fits, part_for}
use Rattle.log_packets.proofs.Opens.{one_of, not_there}
use Rattle.log_contexts.specs.declared.taking.Taking.{Taking}
use Rattle.log_contexts.specs.declared.taking.Taking.TheVariants.{Nothing, Startup as AsStartup, Attempt, Session as InThing}
use Rattle.log_contexts.specs.Taking.{IsOutside, IsTakingOf, contexts_in}
use Rattle.log_arrivals.specs.declared.arrival.Arrival.TheVariants.{Nowhere, Startup as InStartup, Session as InSession}
use Rattle.log_arrivals.specs.Arrivals.{IsArrivalOf, GoesOnAt}
use Rattle.log_arrivals.specs.Contexts.{IsOpenedFirst, arrival_of, contexts_to}
use Rattle.log_arrivals.specs.Arrived.{IsArrived, IsContextOf}
use Rattle.log_arrivals.proofs.Found.{contexts_are}

-- ---- the session ID

id_if : (short : Bool) (id sid : ℕ) → (if short then None else Some id) ≡ Some sid → id ≡ sid
id_if true id sid e = absurd (let clash : None ≡ Some sid = e in cc)
id_if false id sid e = one_of id sid e

pub id_is : (datagram : List ℕ) (sid : ℕ) → sid_in datagram ≡ Some sid → sid_of datagram ≡ sid
id_is datagram sid e = id_if (nat_lt (length datagram) 36) (sid_of datagram) sid e

pub short_never : (secrets : Secrets) (context : Context) (sid : ℕ) (datagram plain : List ℕ) → sid_in datagram ≡ None → OpensUnder secrets context sid datagram plain → ⊥
short_never secrets context sid datagram plain short o =
    let none : part_for context sid datagram ≡ None =
    ap (λ (id : Option ℕ). if is_sid id sid && fits context (number_of (drop 4 datagram)) then Some (drop 4 datagram) else None) short in
    let clash : false ≡ true = ((not_there secrets context sid datagram plain none).no plain o).0 in cc

-- what opens has one
pub opens_long : (secrets : Secrets) (context : Context) (sid : ℕ) (datagram plain : List ℕ) → OpensUnder secrets context sid datagram plain → sid_in datagram ≡ Some (sid_of datagram)
opens_long secrets context sid datagram plain o = by (nat_lt (length datagram) 36) refl
  where
    by : (short : Bool) → nat_lt (length datagram) 36 ≡ short → sid_in datagram ≡ Some (sid_of datagram)
    by true e = absurd (short_never secrets context sid datagram plain (ap (λ (b : Bool). if b then None else Some (sid_of datagram)) e) o)
    by false e = ap (λ (b : Bool). if b then None else Some (sid_of datagram)) e

-- ---- a context and where it is

startup_found : (found : Option Context) (generation : ℕ) → arrival_of found ≡ InStartup generation → found ≡ Some (Startup generation)
startup_found None generation e = absurd cc
startup_found (Some (Startup g)) generation e = cc
startup_found (Some (Session g ni nr fp_i fp_r sid_i sid_r to_responder)) generation e = absurd cc

-- It is that of a session.
abbrev InOne : Context → Type 0
InOne (Startup generation) = ⊥
InOne (Session generation ni nr fp_i fp_r sid_i sid_r to_responder) = Unit {0}

session_found : (found : Option Context) → arrival_of found ≡ InSession → (context : Context) × (found ≡ Some context) × InOne context
session_found None e = absurd cc
session_found (Some (Startup g)) e = absurd cc
session_found (Some (Session g ni nr fp_i fp_r sid_i sid_r to_responder)) e = (Session g ni nr fp_i fp_r sid_i sid_r to_responder, refl, tt)

no_startup : (context : Context) (generation : ℕ) → Startup generation ≡ context → InOne context → ⊥
no_startup context generation e one = subst InOne (sym e) one

inward_session : (setup : Setup) (generation : ℕ) (thing : Held) → IsSession thing → InOne (inward setup generation thing)
inward_session setup generation (Opening n near ni) is = is
inward_session setup generation (HalfOpen j) is = tt
inward_session setup generation (KeptAsResponder j) is = tt
inward_session setup generation (KeptAsInitiator j) is = tt

session_arrives : (setup : Setup) (generation : ℕ) (thing : Held) → IsSession thing → arrival_of (Some (inward setup generation thing)) ≡ InSession
session_arrives setup generation (Opening n near ni) is = absurd is
session_arrives setup generation (HalfOpen j) is = refl
session_arrives setup generation (KeptAsResponder j) is = refl
session_arrives setup generation (KeptAsInitiator j) is = refl

-- ---- what is found

module _ (secrets : Secrets) (setup : Setup) (past : Past) (datagram plain : List ℕ) (taking : Taking) (found : Option Context) (is : IsTakingOf secrets setup past (sid_of datagram) taking) (opened : IsOpenedFirst secrets (contexts_in setup taking) (sid_of datagram) datagram found plain) where
  abbrev First : Taking → Context → List ℕ → Type 0
  First t context other = OpensFirst secrets (contexts_in setup t) (sid_of datagram) datagram context other

  -- what opens in startup is taken outside of sessions
  outside_where : (t : Taking) → taking ≡ t → (generation : ℕ) → First t (Startup generation) plain → IsOutside t
  outside_where Nothing e generation o = absurd o
  outside_where (AsStartup current next) e generation o = tt
  outside_where (Attempt g) e generation o = tt
  outside_where (InThing thing g) e generation (inl here) = absurd (no_startup (inward setup g thing) generation (sym here.0) (inward_session setup g thing (is.inside thing g e).1))
  outside_where (InThing thing g) e generation (inr later) = absurd later.1

  -- and what opens in a session's context, in the session
  next_never : (next : Option ℕ) (context : Context) (other : List ℕ) → InOne context → OpensFirst secrets (next_contexts next) (sid_of datagram) datagram context other → ⊥
  next_never None context other one o = o
  next_never (Some g) context other one (inl here) = no_startup context g here.0 one
  next_never (Some g) context other one (inr later) = later.1

  session_where : (t : Taking) → taking ≡ t → (context : Context) → InOne context → First t context plain → (thing : Held) × GoesOnAt secrets setup past datagram thing plain
  session_where Nothing e context one o = absurd o
  session_where (AsStartup current next) e context one (inl here) = absurd (no_startup context current here.0 one)
  session_where (AsStartup current next) e context one (inr later) = absurd (next_never next context plain one later.1)
  session_where (Attempt g) e context one (inl here) = absurd (no_startup context g here.0 one)
  session_where (Attempt g) e context one (inr later) = absurd later.1
  session_where (InThing thing g) e context one (inl here) = let stood = is.inside thing g e in (
    thing,
    record {
      at = record {
        stands = stood.0;
        is_session = stood.1;
        generation = g;
        begun = stood.2;
        plain = plain;
        opens = subst (λ (c : Context). OpensUnder secrets c (sid_of datagram) datagram plain) (sym here.0) here.1;
      };
      plain_is = refl;
    },
  )
  session_where (InThing thing g) e context one (inr later) = absurd later.1

  -- the contexts of its session ID are those in which it is taken
  contexts_named : (contexts : List Context) → ContextsOf secrets setup past (sid_of datagram) contexts → contexts ≡ contexts_in setup taking
  contexts_named contexts (inl s) = (is.startup contexts s).1
  contexts_named contexts (inr s) = s.5 ∙ ap (contexts_in setup) (sym (is.session s.0 s.1 s.2 s.3 s.4))

  named : (t : Taking) → taking ≡ t → (context : Context) (other : List ℕ) → First t context other → ContextsOf secrets setup past (sid_of datagram) (contexts_in setup t)
  named Nothing e context other o = absurd o
  named (AsStartup current next) e context other o = inl (subst (λ (t : Taking). IsOutside t → StartupContextsOf secrets setup past (sid_of datagram) (contexts_in setup t)) e is.outside tt)
  named (Attempt g) e context other o = inl (subst (λ (t : Taking). IsOutside t → StartupContextsOf secrets setup past (sid_of datagram) (contexts_in setup t)) e is.outside tt)
  named (InThing thing g) e context other o = let stood = is.inside thing g e in inr (thing, g, stood.0, stood.1, stood.2, refl)

  -- where it opens in a session
  in_session : (near : ℕ) (thing : Held) (at : OpensInSession secrets setup past near thing datagram) → (found ≡ Some (inward setup at.generation thing)) × (near ≡ sid_of datagram) × (at.plain ≡ plain)
  in_session near thing at =
      let id : near ≡ sid_of datagram = sym at.opens.id in
      let it : taking ≡ InThing thing at.generation = is.session thing at.generation (subst (λ (n : ℕ). StandsUnder past n thing) id at.stands) at.is_session at.begun in
      let o : First taking (inward setup at.generation thing) at.plain =
      subst (λ (t : Taking). First t (inward setup at.generation thing) at.plain) (sym it)
      (inl (refl, subst (λ (n : ℕ). OpensUnder secrets (inward setup at.generation thing) n datagram at.plain) id at.opens)) in
      let n = opened.no (inward setup at.generation thing) at.plain o in (n.0, id, n.1)

  where_it_opens : IsArrivalOf secrets setup past datagram plain (arrival_of found)
  where_it_opens = record {
    startup = λ generation e.
        let o : First taking (Startup generation) plain = opened.yes (Startup generation) (startup_found found generation e) in
        record { contexts = contexts_in setup taking; named = is.outside (outside_where taking refl generation o); opens = o };
    starts = λ generation other s.
        let o : First taking (Startup generation) other =
        subst (λ (cs : List Context). OpensFirst secrets cs (sid_of datagram) datagram (Startup generation) other) (is.startup s.contexts s.named).1 s.opens in
        let n = opened.no (Startup generation) other o in (ap arrival_of n.0, n.1);
    session = λ e. let f = session_found found e in session_where taking refl f.0 f.2 (opened.yes f.0 f.1);
    goes_on = λ near thing at.
        let n = in_session near thing at in (ap arrival_of n.0 ∙ session_arrives setup at.generation thing at.is_session, n.1, n.2);
  }

  context_is : IsContextOf secrets setup past datagram found
  context_is = record {
    there = λ contexts context other cs o. (opened.no context other (subst (λ (ds : List Context). OpensFirst secrets ds (sid_of datagram) datagram context other) (contexts_named contexts cs) o)).0;
    is = λ context e. let o = opened.yes context e in (contexts_in setup taking, plain, named taking refl context plain o, o);
  }

  pub arrived_here : IsArrived secrets setup past datagram plain (record { arrival = arrival_of found; context = found; taking = taking })
  arrived_here = record {
    arrival = where_it_opens;
    context = context_is;
    arrival_is = refl;
    taking = λ sid e. subst (λ (n : ℕ). IsTakingOf secrets setup past n taking) (id_is datagram sid e) is;
  }

-- by the fingerprint and the session ID that the datagram has
pub arrived : (secrets : Secrets) (setup : Setup) (past : Past) (datagram plain own : List ℕ) (sid : ℕ) (taking : Taking) (found : Option Context) → own_of setup ≡ own → sid_in datagram ≡ Some sid → IsTakingOf secrets setup past sid taking →
    IsOpenedFirst secrets (contexts_to own taking) sid datagram found plain → IsArrived secrets setup past datagram plain (record { arrival = arrival_of found; context = found; taking = taking })
arrived secrets setup past datagram plain own sid taking found owns long is opened =
    let id : sid ≡ sid_of datagram = sym (id_is datagram sid long) in
    let contexts : contexts_to own taking ≡ contexts_in setup taking = ap (λ (p : List ℕ). contexts_to p taking) (sym owns) ∙ contexts_are setup taking in
    arrived_here secrets setup past datagram plain taking found (subst (λ (n : ℕ). IsTakingOf secrets setup past n taking) id is)
    (subst (λ (n : ℕ). IsOpenedFirst secrets (contexts_in setup taking) n datagram found plain) id
    (subst (λ (cs : List Context). IsOpenedFirst secrets cs sid datagram found plain) contexts opened))
