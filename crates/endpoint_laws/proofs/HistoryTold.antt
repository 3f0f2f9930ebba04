-- A history that is lawful, honest and fresh is told in steps that are sound.
use Rattle.std.proofs.Common.{ℕ, ◌==◌, List, [], ◌∷◌, ◌++◌, ◌≡◌, inl, inr, refl, sym, ap, subst, ◌∙◌, if◌then◌else◌, Bool, true, false, Option, Some, None}
use Rattle.crypto_profile.specs.declared.keys.Context.{Context}
use Rattle.glare_core.specs.Tells.{Keying}
use Rattle.glare_core.specs.Steps.{Step, view, facts}
use Rattle.glare_core.specs.Told.{nonces, AllDifferent}
use Rattle.endpoint_model.specs.Event.{Setup, own_of, Call, Event, moment_at, ReceiveCall, receive_in}
use Rattle.endpoint_laws.specs.Past.{Past, facts_of, last_moment, past_of, begun, with_event}
use Rattle.endpoint_laws.specs.Lawful.{IsLawful}
use Rattle.endpoint_laws.specs.Laws.{AreCalls}
use Rattle.endpoint_laws.specs.History.{Happened, History, log_of, AreLawful, WasSent as WentOut, IsHonestCall, IsHonest, TakesPart, IsHonestReceive, past_at}
use Rattle.endpoint_laws.specs.Agreed.{AreStated}
use Rattle.endpoint_model.proofs.Members.{tested}
use Rattle.endpoint_laws.specs.Contexts.{Secrets}
use Rattle.glare_core.specs.Steps.{IsTail}
use Rattle.glare_core.proofs.Tails.{tail_self}
use Rattle.endpoint_laws.proofs.FactsAlone.{alone, facts_alone}
use Rattle.endpoint_laws.proofs.Fresh.{different_before}
use Rattle.endpoint_laws.proofs.HeldTold.{EndTold, tail_sent, told_stays, nothing_told}
use Rattle.endpoint_laws.proofs.Telling.{Telling, telling_new}
use Rattle.endpoint_laws.proofs.Carried.{Carried}
use Rattle.endpoint_laws.proofs.Heard.{WasCarried, CarriedIn}
use Rattle.endpoint_laws.proofs.EventTold.{Far, reached}
use Rattle.endpoint_laws.proofs.Stating.{same_at_first, lawful_before}
use Rattle.endpoint_laws.proofs.StatedFacts.{lawful_more, calls_more, view_stated, past_more}

-- ---- what is said of the ends

-- Each has its fingerprint alone, and its calls and its log are as they are to be.
pub record Ends (secrets : Secrets) (ends : ℕ → Setup) (history : History) : Type 0 where
  pub prints : (a b : ℕ) → TakesPart a history → TakesPart b history → own_of (ends a) ≡ own_of (ends b) → a ≡ b
  pub calls : (who : ℕ) → AreCalls (log_of who history)
  pub lawful : AreLawful secrets ends history

calls_before : (who : ℕ) (h : Happened) (earlier : History) → AreCalls (log_of who (h ∷ earlier)) → AreCalls (log_of who earlier)
calls_before who h earlier are = go (h.who == who) are
  where
    go : (b : Bool) → AreCalls (if b then log_of who earlier ++ h.event ∷ [] else log_of who earlier) → AreCalls (log_of who earlier)
    go true l = (calls_more (log_of who earlier) h.event l).before
    go false l = l

ends_before : (secrets : Secrets) (ends : ℕ → Setup) (h : Happened) (earlier : History) → Ends secrets ends (h ∷ earlier) → Ends secrets ends earlier
ends_before secrets ends h earlier e = record {
  prints = λ a b pa pb same. e.prints a b (inr pa) (inr pb) same;
  calls = λ who. calls_before who h earlier (e.calls who);
  lawful = λ who. lawful_before secrets (ends who) who h earlier (e.lawful who);
}

-- the log of the end of the newest event
log_here : (h : Happened) (earlier : History) → log_of h.who (h ∷ earlier) ≡ log_of h.who earlier ++ h.event ∷ []
log_here h earlier = elim (tested h.who h.who) [
  | inl d ↦ ap (λ (b : Bool). if b then log_of h.who earlier ++ h.event ∷ [] else log_of h.who earlier) d.1
  | inr d ↦ absurd (d.0 refl)
]

-- ---- datagrams

carried_stays : (secrets : Secrets) (sent : List ℕ) (context : Context) (steps last : List Step) → IsTail steps last → Carried secrets sent context steps → Carried secrets sent context last
carried_stays secrets sent context steps last tail c = record {
  setup = c.setup;
  call = c.call;
  past = c.past;
  line = c.line;
  attempts = λ peer n near ni g is_held e. tail_sent (Keying (own_of c.setup) peer n ni near g) steps last tail (c.attempts peer n near ni g is_held e);
  told = told_stays secrets c.setup c.past steps last tail c.told;
}

was_carried : (secrets : Secrets) (setup : Setup) (begin : Past) (earlier : History) (steps : List Step) (call : Call) → IsHonestCall secrets setup begin earlier call →
    ((sent : List ℕ) (context : Context) → WentOut sent context earlier → Carried secrets sent context steps) → WasCarried secrets setup begin steps call
was_carried secrets setup begin earlier steps call honest outs = in_receive (receive_in call) honest
  where
    in_receive : (o : Option ReceiveCall) → IsHonestReceive secrets setup begin earlier o → CarriedIn secrets setup begin steps o
    in_receive None h = tt
    in_receive (Some r) h = λ contexts context plain named opens. outs r.datagram context (h contexts context plain named opens)

-- ---- all of it

-- Steps whose facts are these, in which each datagram that went out carries what its end told.
pub record HistoryTold (secrets : Secrets) (ends : ℕ → Setup) (history : History) (stated : List Step) : Type 0 where
  pub steps : List Step
  pub telling : Telling steps
  pub is : alone steps ≡ stated
  pub outs : (sent : List ℕ) (context : Context) → WentOut sent context history → Carried secrets sent context steps
  pub told : (who : ℕ) → EndTold secrets (ends who) (past_at who history) steps

-- what each end told, after an event of one
told_after : (secrets : Secrets) (ends : ℕ → Setup) (h : Happened) (earlier : History) (steps last : List Step) → ((who : ℕ) → EndTold secrets (ends who) (past_at who earlier) steps) → IsTail steps last →
    EndTold secrets (ends h.who) (with_event (moment_at (last_moment 0 (log_of h.who earlier)) h.event) h.event (past_at h.who earlier)) last → (who : ℕ) → EndTold secrets (ends who) (past_at who (h ∷ earlier)) last
told_after secrets ends h earlier steps last before tail here who = elim (tested h.who who) [
  | inl d ↦
      subst (λ (w : ℕ). EndTold secrets (ends w) (past_of 0 [] (if h.who == w then log_of w earlier ++ h.event ∷ [] else log_of w earlier)) last) d.0
      (subst (λ (l : List Event). EndTold secrets (ends h.who) (past_of 0 [] l) last) (sym (log_here h earlier))
      (subst (λ (p : Past). EndTold secrets (ends h.who) p last) (sym (past_more 0 [] (log_of h.who earlier) h.event)) here))
  | inr d ↦
      subst (λ (b : Bool). EndTold secrets (ends who) (past_of 0 [] (if b then log_of who earlier ++ h.event ∷ [] else log_of who earlier)) last) (sym d.1)
      (told_stays secrets (ends who) (past_at who earlier) steps last tail (before who))
]

-- as the event begins
begun_told : (secrets : Secrets) (setup : Setup) (past : Past) (m : ℕ) (e : Event) (steps : List Step) → EndTold secrets setup past steps → EndTold secrets setup (begun m e ∷ past) steps
begun_told secrets setup past m e steps told = record {
  born = λ j g b. elim b [ inl none ↦ absurd none.0 | inr older ↦ told.born j g older.1 ];
  opened = λ j g b. elim b [ inl none ↦ absurd none.0 | inr older ↦ told.opened j g older.1 ];
  sized = told.sized;
}

pub history_told : (secrets : Secrets) (ends : ℕ → Setup) (history : History) (stated : List Step) → AreStated secrets ends history stated → Ends secrets ends history → IsHonest secrets ends history → AllDifferent (nonces stated) → HistoryTold secrets ends history stated
history_told secrets ends [] stated is e honest new =
    record { steps = []; telling = telling_new; is = sym is; outs = λ sent context none. absurd none; told = λ who. nothing_told secrets (ends who) [] }
history_told secrets ends (h ∷ earlier) stated is e honest new =
    let setup : Setup = ends h.who in
    let own : List ℕ = own_of setup in
    let log : List Event = log_of h.who earlier in
    let past : Past = past_of 0 [] log in
    let m : ℕ = moment_at (last_moment 0 log) h.event in
    let start : Past = begun m h.event ∷ past in
    let before = history_told secrets ends earlier is.0 is.1 (ends_before secrets ends h earlier e) honest.1 (different_before secrets setup m start h.event.entries is.0 stated is.2 new) in
    let is_call = (calls_more log h.event (subst AreCalls (log_here h earlier) (e.calls h.who))).here in
    let lawful = (lawful_more secrets setup 0 [] log h.event (subst (IsLawful secrets setup) (log_here h earlier) (e.lawful h.who))).here in
    let carried : WasCarried secrets setup past before.steps h.event.call = was_carried secrets setup past earlier before.steps h.event.call honest.0 before.outs in
    let view_is : facts (view own before.steps) ≡ facts_of past =
    sym (facts_alone own before.steps) ∙ ap (λ (r : List Step). facts (view own r)) before.is ∙ view_stated secrets ends h.who earlier is.0 is.1 (λ a part same. e.prints a h.who (inr part) (inl refl) same) in
    let far : Far secrets setup h.event.call past before.steps start is.0 before.steps = record {
      telling = before.telling;
      is = before.is;
      stated = view_is;
      tail = tail_self before.steps;
      told = begun_told secrets setup past m h.event before.steps (before.told h.who);
      origin = refl;
      last = refl;
      same = same_at_first setup past m h.event (receive_in h.event.call);
    } in
    let r = reached secrets setup m h.event.call past before.steps is_call carried (before.told h.who) h.event.entries start is.0 stated before.steps far lawful is.2 new in
    record {
      steps = r.last;
      telling = r.telling;
      is = r.is;
      outs = λ sent context out. elim out [
        | inl here ↦ r.outs sent context here
        | inr old ↦ carried_stays secrets sent context before.steps r.last r.tail (before.outs sent context old)
      ];
      told = told_after secrets ends h earlier before.steps r.last before.told r.tail r.told;
    }
