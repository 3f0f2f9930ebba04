-- The list of all facts holds those of each end, and all nonces; and a log by its last event.
use Rattle.std.proofs.Common.{ℕ, List, [], ◌∷◌, ◌++◌, ◌≡◌, inl, inr, refl, sym, ap, subst, ◌∙◌, if◌then◌else◌, Bool, Option, Some, None}
use Rattle.glare_core.specs.declared.facts.Fact.{Fact}
use Rattle.glare_core.specs.declared.facts.Fact.TheVariants.{Started, Born, Opened, Confirmed, Ended}
use Rattle.glare_core.specs.Steps.{Did, Step, view, facts}
use Rattle.glare_core.specs.Told.{with_nonce, nonces}
use Rattle.glare_core.proofs.Views.{view_same, view_other}
use Rattle.endpoint_model.specs.Views.{fact_in}
use Rattle.endpoint_model.specs.declared.entry.Entry.{Entry}
use Rattle.endpoint_model.specs.Event.{Setup, own_of, Event, moment_at}
use Rattle.endpoint_laws.specs.Past.{Past, stamped, onto, facts_of, last_moment, past_of, fact_and, begun, with_event}
use Rattle.endpoint_laws.specs.Lawful.{EntriesLawful, LawfulFrom, nonces_of}
use Rattle.endpoint_laws.specs.Laws.{IsCall, AreCalls}
use Rattle.endpoint_laws.specs.History.{History, log_of, past_at, facts_at, TakesPart, nonces_in}
use Rattle.endpoint_laws.specs.Agreed.{IsStatedOn, IsStatedOnto, EventStates, AreStated}
use Rattle.endpoint_model.proofs.Members.{tested}
use Rattle.endpoint_laws.specs.Contexts.{Secrets}

-- ---- a log and one event more

pub past_more : (last : ℕ) (past : Past) (log : List Event) (e : Event) → past_of last past (log ++ e ∷ []) ≡ with_event (moment_at (last_moment last log) e) e (past_of last past log)
past_more last past [] e = refl
past_more last past (x ∷ log) e = past_more (moment_at last x) (with_event (moment_at last x) x past) log e

-- what is lawful before the last event, and that it is
pub record LastLawful (secrets : Secrets) (setup : Setup) (last : ℕ) (past : Past) (log : List Event) (e : Event) : Type 0 where
  pub before : LawfulFrom secrets setup last past log
  pub here : EntriesLawful secrets setup (moment_at (last_moment last log) e) e.call (begun (moment_at (last_moment last log) e) e ∷ past_of last past log) e.entries

pub lawful_more : (secrets : Secrets) (setup : Setup) (last : ℕ) (past : Past) (log : List Event) (e : Event) → LawfulFrom secrets setup last past (log ++ e ∷ []) → LastLawful secrets setup last past log e
lawful_more secrets setup last past [] e l = record { before = tt; here = l.0 }
lawful_more secrets setup last past (x ∷ log) e l =
    let rest = lawful_more secrets setup (moment_at last x) (with_event (moment_at last x) x past) log e l.1 in
    record { before = (l.0, rest.before); here = rest.here }

pub record LastCall (log : List Event) (e : Event) : Type 0 where
  pub before : AreCalls log
  pub here : IsCall e.call

pub calls_more : (log : List Event) (e : Event) → AreCalls (log ++ e ∷ []) → LastCall log e
calls_more [] e l = record { before = tt; here = l.0 }
calls_more (x ∷ log) e l = let rest = calls_more log e l.1 in record { before = (l.0, rest.before); here = rest.here }

-- ---- the facts of one end

facts_on : (secrets : Secrets) (setup : Setup) (at : Past) (o : Option Fact) (before steps : List Step) (past : List Fact) → IsStatedOn secrets setup at o before steps → facts (view (own_of setup) before) ≡ past → facts (view (own_of setup) steps) ≡ fact_and o past
facts_on secrets setup at None before steps past is e = ap (λ (r : List Step). facts (view (own_of setup) r)) is ∙ e
facts_on secrets setup at (Some fact) before steps past is e =
    ap (λ (r : List Step). facts (view (own_of setup) r)) is.2 ∙ ap facts (view_same (own_of setup) (Did fact is.0) before) ∙ ap (λ (fs : List Fact). fact ∷ fs) e

facts_onto : (secrets : Secrets) (setup : Setup) (m : ℕ) (past : Past) (entries : List Entry) (before steps : List Step) → IsStatedOnto secrets setup m past entries before steps → facts (view (own_of setup) before) ≡ facts_of past →
    facts (view (own_of setup) steps) ≡ facts_of (onto m entries past)
facts_onto secrets setup m past [] before steps is e = ap (λ (r : List Step). facts (view (own_of setup) r)) is ∙ e
facts_onto secrets setup m past (entry ∷ rest) before steps is e =
    facts_onto secrets setup m (stamped m entry ∷ past) rest is.0 steps is.2 (facts_on secrets setup past (fact_in entry) before is.0 (facts_of past) is.1 e)

beside_on : (own : List ℕ) (secrets : Secrets) (setup : Setup) (at : Past) (o : Option Fact) (before steps : List Step) → IsStatedOn secrets setup at o before steps → (own_of setup ≡ own → ⊥) → facts (view own steps) ≡ facts (view own before)
beside_on own secrets setup at None before steps is ne = ap (λ (r : List Step). facts (view own r)) is
beside_on own secrets setup at (Some fact) before steps is ne = ap (λ (r : List Step). facts (view own r)) is.2 ∙ ap facts (view_other own (own_of setup) (Did fact is.0) before ne)

facts_beside : (own : List ℕ) (secrets : Secrets) (setup : Setup) (m : ℕ) (past : Past) (entries : List Entry) (before steps : List Step) → IsStatedOnto secrets setup m past entries before steps → (own_of setup ≡ own → ⊥) →
    facts (view own steps) ≡ facts (view own before)
facts_beside own secrets setup m past [] before steps is ne = ap (λ (r : List Step). facts (view own r)) is
facts_beside own secrets setup m past (entry ∷ rest) before steps is ne =
    facts_beside own secrets setup m (stamped m entry ∷ past) rest is.0 steps is.2 ne ∙ beside_on own secrets setup past (fact_in entry) before is.0 is.1 ne

-- an end that has its fingerprint alone
pub view_stated : (secrets : Secrets) (ends : ℕ → Setup) (who : ℕ) (history : History) (steps : List Step) → AreStated secrets ends history steps → ((a : ℕ) → TakesPart a history → own_of (ends a) ≡ own_of (ends who) → a ≡ who) →
    facts (view (own_of (ends who)) steps) ≡ facts_at who history
view_stated secrets ends who [] steps is alone = ap (λ (r : List Step). facts (view (own_of (ends who)) r)) is
view_stated secrets ends who (h ∷ earlier) steps is alone =
    let own : List ℕ = own_of (ends who) in
    let log : List Event = log_of who earlier in
    let ih : facts (view own is.0) ≡ facts_of (past_of 0 [] log) = view_stated secrets ends who earlier is.0 is.1 (λ a part e. alone a (inr part) e) in
    elim (tested h.who who) [
      | inl d ↦
          let m : ℕ = moment_at (last_moment 0 log) h.event in
          let here : EventStates secrets (ends who) log h.event is.0 steps = subst (λ (w : ℕ). EventStates secrets (ends w) (log_of w earlier) h.event is.0 steps) d.0 is.2 in
          facts_onto secrets (ends who) m (begun m h.event ∷ past_of 0 [] log) h.event.entries is.0 steps here ih ∙ ap facts_of (sym (past_more 0 [] log h.event))
          ∙ ap (λ (b : Bool). facts_of (past_of 0 [] (if b then log ++ h.event ∷ [] else log))) (sym d.1)
      | inr d ↦
          let m : ℕ = moment_at (last_moment 0 (log_of h.who earlier)) h.event in
          facts_beside own secrets (ends h.who) m (begun m h.event ∷ past_at h.who earlier) h.event.entries is.0 steps is.2 (λ e. d.0 (alone h.who (inl refl) e)) ∙ ih
          ∙ ap (λ (b : Bool). facts_of (past_of 0 [] (if b then log ++ h.event ∷ [] else log))) (sym d.1)
    ]

-- ---- all nonces

nonce_more : (g : ℕ) (fact : Fact) (drawn : List (List ℕ)) (past : List Fact) (older : List (List ℕ)) → drawn ≡ nonces_of past ++ older → with_nonce (Did fact g) drawn ≡ nonces_of (fact ∷ past) ++ older
nonce_more g (Started peer n near ni) drawn past older e = ap (λ (ns : List (List ℕ)). ni ∷ ns) e
nonce_more g (Born j) drawn past older e = ap (λ (ns : List (List ℕ)). j.nr ∷ ns) e
nonce_more g (Opened j) drawn past older e = e
nonce_more g (Confirmed peer near) drawn past older e = e
nonce_more g (Ended peer near why) drawn past older e = e

nonces_with : (secrets : Secrets) (setup : Setup) (at : Past) (o : Option Fact) (before steps : List Step) (past : List Fact) (older : List (List ℕ)) → IsStatedOn secrets setup at o before steps → nonces before ≡ nonces_of past ++ older →
    nonces steps ≡ nonces_of (fact_and o past) ++ older
nonces_with secrets setup at None before steps past older is e = ap nonces is ∙ e
nonces_with secrets setup at (Some fact) before steps past older is e = ap nonces is.2 ∙ nonce_more is.0 fact (nonces before) past older e

nonces_onto : (secrets : Secrets) (setup : Setup) (m k : ℕ) (at past : Past) (entries : List Entry) (before steps : List Step) (older : List (List ℕ)) → IsStatedOnto secrets setup m at entries before steps → nonces before ≡ nonces_of (facts_of past) ++ older →
    nonces steps ≡ nonces_of (facts_of (onto k entries past)) ++ older
nonces_onto secrets setup m k at past [] before steps older is e = ap nonces is ∙ e
nonces_onto secrets setup m k at past (entry ∷ rest) before steps older is e =
    nonces_onto secrets setup m k (stamped m entry ∷ at) (stamped k entry ∷ past) rest is.0 steps older is.2 (nonces_with secrets setup at (fact_in entry) before is.0 (facts_of past) older is.1 e)

pub nonces_stated : (secrets : Secrets) (ends : ℕ → Setup) (history : History) (steps : List Step) → AreStated secrets ends history steps → nonces steps ≡ nonces_in history
nonces_stated secrets ends [] steps is = ap nonces is
nonces_stated secrets ends (h ∷ earlier) steps is =
    let m : ℕ = moment_at (last_moment 0 (log_of h.who earlier)) h.event in
    nonces_onto secrets (ends h.who) m (moment_at 0 h.event) (begun m h.event ∷ past_at h.who earlier) (begun (moment_at 0 h.event) h.event ∷ []) h.event.entries is.0 steps (nonces_in earlier) is.2 (nonces_stated secrets ends earlier is.0 is.1)
