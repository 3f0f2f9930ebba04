-- Logs and facts of the ends of a history, event by event.
use Rattle.std.proofs.Common.{◌≡◌, ℕ, ◌==◌, List, [], ◌∷◌, ◌++◌, Bool, false, if◌then◌else◌}
use Rattle.std.proofs.Common.{Option, Some, None, inl, inr, ◌⊎◌, refl, sym, ap, subst, ◌∙◌}
use Rattle.glare_core.specs.declared.facts.Fact.{Fact}
use Rattle.glare_core.specs.declared.facts.Fact.TheVariants.{Started, Born, Opened, Confirmed}
use Rattle.glare_core.specs.declared.facts.Fact.TheVariants.{Ended}
use Rattle.glare_core.specs.Steps.{Among}
use Rattle.glare_core.specs.Told.{AllDifferent}
use Rattle.glare_core.specs.Account.{AreLawful}
use Rattle.endpoint_model.specs.declared.entry.Entry.{Entry}
use Rattle.endpoint_model.specs.declared.entry.Entry.TheVariants.{Learnt}
use Rattle.endpoint_model.specs.Views.{fact_in}
use Rattle.endpoint_model.specs.Event.{Setup, Learn, Event, learn_in, moment_at}
use Rattle.endpoint_model.specs.State.{State}
use Rattle.endpoint_model.specs.Log.{Step, Leads}
use Rattle.endpoint_laws.specs.Past.{Past, stamped, onto, fact_and, facts_of, begun, with_event}
use Rattle.endpoint_laws.specs.Past.{last_moment, past_of, past_of_log, WasLearnt}
use Rattle.endpoint_laws.specs.Contexts.{Secrets, Knows}
use Rattle.endpoint_laws.specs.Lawful.{nonces_of}
use Rattle.endpoint_laws.specs.Laws.{AreCalls, IsCall}
use Rattle.endpoint_laws.specs.History.{Happened, History, log_of, facts_at, nonces_in, TakesPart}
use Rattle.flow_history.proofs.Keeps.{tested}
use Rattle.flow_history.proofs.Names.{number_self}
use Rattle.endpoint_handing.specs.Told.{facts_onto}

-- ---- the log of an end

pub log_mine : (x : Happened) (earlier : History) → log_of x.who (x ∷ earlier) ≡ log_of x.who earlier ++ x.event ∷ []
log_mine x earlier = ap (λ (b : Bool). if b then log_of x.who earlier ++ x.event ∷ [] else log_of x.who earlier) (number_self x.who)

pub log_beside : (x : Happened) (earlier : History) (a : ℕ) → (x.who == a) ≡ false → log_of a (x ∷ earlier) ≡ log_of a earlier
log_beside x earlier a other = ap (λ (b : Bool). if b then log_of a earlier ++ x.event ∷ [] else log_of a earlier) other

-- the state before the last event
pub record Before (s : State) (log : List Event) (e : Event) (t : State) : Type 0 where
  pub middle : State
  pub leads : Leads s log middle
  pub step : Step middle e t

pub leads_before : (log : List Event) (e : Event) (s t : State) → Leads s (log ++ e ∷ []) t → Before s log e t
leads_before [] e s t leads = record { middle = s; leads = refl; step = subst (λ (u : State). Step s e u) leads.2 leads.1 }
leads_before (x ∷ log) e s t leads =
    let rest = leads_before log e leads.0 t leads.2 in
    record { middle = rest.middle; leads = (leads.0, leads.1, rest.leads); step = rest.step }

pub calls_before : (log : List Event) (e : Event) → AreCalls (log ++ e ∷ []) → AreCalls log × IsCall e.call
calls_before [] e calls = (tt, calls.0)
calls_before (x ∷ log) e calls = let rest = calls_before log e calls.1 in ((calls.0, rest.0), rest.1)

-- ---- its facts

past_more : (last : ℕ) (past : Past) (log : List Event) (e : Event) → past_of last past (log ++ e ∷ []) ≡ with_event (moment_at (last_moment last log) e) e (past_of last past log)
past_more last past [] e = refl
past_more last past (x ∷ log) e = past_more (moment_at last x) (with_event (moment_at last x) x past) log e

learnt_more : (generation : ℕ) (secret : List ℕ) (moment : ℕ) (entries : List Entry) (past : Past) → WasLearnt generation secret past → WasLearnt generation secret (onto moment entries past)
learnt_more generation secret moment [] past was = was
learnt_more generation secret moment (entry ∷ rest) past was = learnt_more generation secret moment rest (stamped moment entry ∷ past) (inr was)

-- what has all secrets after an event had them before
pub knows_before : (secrets : Secrets) (setup : Setup) (log : List Event) (e : Event) → Knows secrets setup (past_of_log (log ++ e ∷ [])) → Knows secrets setup (past_of_log log)
knows_before secrets setup log e knows =
    let moment : ℕ = moment_at (last_moment 0 log) e in
    record {
      first = knows.first;
      learnt = λ generation secret was. knows.learnt generation secret
          (subst (WasLearnt generation secret) (sym (past_more 0 [] log e)) (learnt_more generation secret moment e.entries (begun moment e ∷ past_of 0 [] log) (inr was)));
    }

-- an event learns what its call tells it
pub learnt_by : (log : List Event) (e : Event) (generation : ℕ) (secret : List ℕ) → e.call ≡ Learn secret → e.entries ≡ Learnt generation ∷ [] → WasLearnt generation secret (past_of_log (log ++ e ∷ []))
learnt_by log e generation secret is are =
    let moment : ℕ = moment_at (last_moment 0 log) e in
    let before : Past = begun moment e ∷ past_of 0 [] log in
    subst (WasLearnt generation secret) (sym (past_more 0 [] log e))
    (subst (λ (es : List Entry). WasLearnt generation secret (onto moment es before)) (sym are) (inl (refl, ap learn_in is)))

facts_more : (moment : ℕ) (entries : List Entry) (past : Past) → facts_of (onto moment entries past) ≡ facts_onto entries (facts_of past)
facts_more moment [] past = refl
facts_more moment (entry ∷ rest) past = facts_more moment rest (stamped moment entry ∷ past)

pub facts_mine : (x : Happened) (earlier : History) → facts_at x.who (x ∷ earlier) ≡ facts_onto x.event.entries (facts_at x.who earlier)
facts_mine x earlier =
    let log : List Event = log_of x.who earlier in
    let moment : ℕ = moment_at (last_moment 0 log) x.event in
    ap (λ (l : List Event). facts_of (past_of 0 [] l)) (log_mine x earlier) ∙ ap facts_of (past_more 0 [] log x.event)
    ∙ facts_more moment x.event.entries (begun moment x.event ∷ past_of 0 [] log)

pub facts_beside : (x : Happened) (earlier : History) (a : ℕ) → (x.who == a) ≡ false → facts_at a (x ∷ earlier) ≡ facts_at a earlier
facts_beside x earlier a other = ap (λ (l : List Event). facts_of (past_of 0 [] l)) (log_beside x earlier a other)

-- An end that states a fact takes part.
pub takes_part : (a : ℕ) (history : History) → TakesPart a history ⊎ (log_of a history ≡ [])
takes_part a [] = inr refl
takes_part a (x ∷ earlier) = elim (tested x.who a) [
  | inl same ↦ inl (inl (sym same.0))
  | inr other ↦ elim (takes_part a earlier) [ inl there ↦ inl (inr there) | inr none ↦ inr (log_beside x earlier a other.1 ∙ none) ]
]

-- ---- nonces

nonces_joined : (xs ys : List Fact) → nonces_of (xs ++ ys) ≡ nonces_of xs ++ nonces_of ys
nonces_joined [] ys = refl
nonces_joined (Started peer n near ni ∷ xs) ys = ap (λ (l : List (List ℕ)). ni ∷ l) (nonces_joined xs ys)
nonces_joined (Born j ∷ xs) ys = ap (λ (l : List (List ℕ)). j.nr ∷ l) (nonces_joined xs ys)
nonces_joined (Opened j ∷ xs) ys = nonces_joined xs ys
nonces_joined (Confirmed peer near ∷ xs) ys = nonces_joined xs ys
nonces_joined (Ended peer near why ∷ xs) ys = nonces_joined xs ys

and_joined : (o : Option Fact) (xs ys : List Fact) → fact_and o xs ++ ys ≡ fact_and o (xs ++ ys)
and_joined None xs ys = refl
and_joined (Some fact) xs ys = refl

onto_joined : (entries : List Entry) (xs ys : List Fact) → facts_onto entries (xs ++ ys) ≡ facts_onto entries xs ++ ys
onto_joined [] xs ys = refl
onto_joined (entry ∷ rest) xs ys =
    ap (facts_onto rest) (sym (and_joined (fact_in entry) xs ys)) ∙ onto_joined rest (fact_and (fact_in entry) xs) ys

-- the nonces of an event, and those before it
pub nonces_mine : (x : Happened) (earlier : History) → nonces_of (facts_at x.who (x ∷ earlier)) ≡ nonces_of (facts_of (past_of 0 [] (x.event ∷ []))) ++ nonces_of (facts_at x.who earlier)
nonces_mine x earlier =
    let moment : ℕ = moment_at 0 x.event in
    let facts : List Fact = facts_at x.who earlier in
    ap nonces_of (facts_mine x earlier) ∙ ap nonces_of (onto_joined x.event.entries [] facts) ∙ nonces_joined (facts_onto x.event.entries []) facts
    ∙ ap (λ (l : List Fact). nonces_of l ++ nonces_of facts) (sym (facts_more moment x.event.entries (begun moment x.event ∷ [])))

among_first : (x : List ℕ) (xs ys : List (List ℕ)) → Among x (xs ++ ys) → Among x xs ⊎ Among x ys
among_first x [] ys a = inr a
among_first x (y ∷ xs) ys (inl is) = inl (inl is)
among_first x (y ∷ xs) ys (inr a) = elim (among_first x xs ys a) [ inl there ↦ inl (inr there) | inr there ↦ inr there ]

among_either : (x : List ℕ) (xs ys : List (List ℕ)) → Among x xs ⊎ Among x ys → Among x (xs ++ ys)
among_either x [] ys (inl none) = absurd none
among_either x [] ys (inr a) = a
among_either x (y ∷ xs) ys (inl (inl is)) = inl is
among_either x (y ∷ xs) ys (inl (inr a)) = inr (among_either x xs ys (inl a))
among_either x (y ∷ xs) ys (inr a) = inr (among_either x xs ys (inr a))

pub different_behind : (xs ys : List (List ℕ)) → AllDifferent (xs ++ ys) → AllDifferent ys
different_behind [] ys d = d
different_behind (x ∷ xs) ys d = different_behind xs ys d.1

different_less : (xs ys less : List (List ℕ)) → AllDifferent (xs ++ ys) → ((x : List ℕ) → Among x less → Among x ys) → AllDifferent less → AllDifferent (xs ++ less)
different_less [] ys less d sub k = k
different_less (x ∷ xs) ys less d sub k = (
  (λ a. d.0 (among_either x xs ys (elim (among_first x xs less a) [ inl there ↦ inl there | inr there ↦ inr (sub x there) ]))),
  different_less xs ys less d.1 sub k,
)

nonces_known : (a : ℕ) (history : History) (x : List ℕ) → Among x (nonces_of (facts_at a history)) → Among x (nonces_in history)
nonces_known a [] x among = among
nonces_known a (y ∷ earlier) x among = elim (tested y.who a) [
  | inl same ↦ (let front : List (List ℕ) = nonces_of (facts_of (past_of 0 [] (y.event ∷ []))) in
      let here : Among x (nonces_of (facts_at y.who (y ∷ earlier))) = subst (λ (w : ℕ). Among x (nonces_of (facts_at w (y ∷ earlier)))) (sym same.0) among in
      let parts = among_first x front (nonces_of (facts_at y.who earlier)) (subst (λ (l : List (List ℕ)). Among x l) (nonces_mine y earlier) here) in
      among_either x front (nonces_in earlier) (elim parts [ inl new ↦ inl new | inr old ↦ inr (nonces_known y.who earlier x old) ]))
  | inr other ↦ among_either x (nonces_of (facts_of (past_of 0 [] (y.event ∷ [])))) (nonces_in earlier)
      (inr (nonces_known a earlier x (subst (λ (l : List Fact). Among x (nonces_of l)) (facts_beside y earlier a other.1) among)))
]

-- those of one end are different, too
pub nonces_different : (a : ℕ) (history : History) → AllDifferent (nonces_in history) → AllDifferent (nonces_of (facts_at a history))
nonces_different a [] d = d
nonces_different a (y ∷ earlier) d =
    let front : List (List ℕ) = nonces_of (facts_of (past_of 0 [] (y.event ∷ []))) in
    let before : AllDifferent (nonces_in earlier) = different_behind front (nonces_in earlier) d in
    elim (tested y.who a) [
      | inl same ↦ (let mine : AllDifferent (nonces_of (facts_at y.who (y ∷ earlier))) =
          subst (λ (l : List (List ℕ)). AllDifferent l) (sym (nonces_mine y earlier))
          (different_less front (nonces_in earlier) (nonces_of (facts_at y.who earlier)) d (nonces_known y.who earlier) (nonces_different y.who earlier before)) in
          subst (λ (w : ℕ). AllDifferent (nonces_of (facts_at w (y ∷ earlier)))) same.0 mine)
      | inr other ↦ subst (λ (l : List Fact). AllDifferent (nonces_of l)) (sym (facts_beside y earlier a other.1)) (nonces_different a earlier before)
    ]

-- ---- facts before others

pub lawful_before : (own : List ℕ) (from : ℕ) (o : Option Fact) (facts : List Fact) → AreLawful own from (fact_and o facts) → AreLawful own from facts
lawful_before own from None facts l = l
lawful_before own from (Some fact) facts l = l.2

pub lawful_under : (own : List ℕ) (from : ℕ) (entries : List Entry) (facts : List Fact) → AreLawful own from (facts_onto entries facts) → AreLawful own from facts
lawful_under own from [] facts l = l
lawful_under own from (x ∷ rest) facts l = lawful_before own from (fact_in x) facts (lawful_under own from rest (fact_and (fact_in x) facts) l)

different_before : (o : Option Fact) (facts : List Fact) → AllDifferent (nonces_of (fact_and o facts)) → AllDifferent (nonces_of facts)
different_before None facts d = d
different_before (Some (Started peer n near ni)) facts d = d.1
different_before (Some (Born j)) facts d = d.1
different_before (Some (Opened j)) facts d = d
different_before (Some (Confirmed peer near)) facts d = d
different_before (Some (Ended peer near why)) facts d = d

pub different_under : (entries : List Entry) (facts : List Fact) → AllDifferent (nonces_of (facts_onto entries facts)) → AllDifferent (nonces_of facts)
different_under [] facts d = d
different_under (x ∷ rest) facts d = different_before (fact_in x) facts (different_under rest (fact_and (fact_in x) facts) d)
