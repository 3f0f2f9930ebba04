-- The facts of a lawful history are one list of steps: each Born and Opened says in its line in which generation its datagram opened.
use Rattle.std.proofs.Common.{ℕ, List, [], ◌∷◌, ◌++◌, ◌==◌, ◌≡◌, inl, inr, refl, sym, subst, ◌∙◌, Bool, true, false, Option, Some, None, if◌then◌else◌}
use Rattle.glare_core.specs.declared.facts.Fact.{Fact}
use Rattle.glare_core.specs.declared.facts.Fact.TheVariants.{Started, Born, Opened, Confirmed, Ended}
use Rattle.glare_core.specs.Steps.{Did, Step, step}
use Rattle.endpoint_model.specs.Views.{fact_in}
use Rattle.endpoint_model.specs.declared.entry.Entry.{Entry}
use Rattle.endpoint_model.specs.declared.entry.Entry.TheVariants.{Fact as FactEntry}
use Rattle.endpoint_model.specs.Event.{Setup, own_of, Call, ReceiveCall, receive_in, Event, moment_at}
use Rattle.endpoint_laws.specs.Past.{Past, stamped, begun, last_moment, past_of, before_event, last_call, receive_of}
use Rattle.endpoint_laws.specs.Contexts.{Secrets, CallOpensIn, EventOpenedIn}
use Rattle.endpoint_laws.specs.Lawful.{FactLine, BearsIn, TakesAnswerIn, Line, EntriesLawful, IsLawful}
use Rattle.endpoint_laws.specs.History.{History, Happened, log_of, AreLawful}
use Rattle.endpoint_laws.specs.Agreed.{IsNumberOf, IsStatedOn, IsStatedOnto, AreStated}
use Rattle.endpoint_model.proofs.Apart.{kind_of}
use Rattle.endpoint_model.proofs.Members.{tested}
use Rattle.endpoint_laws.proofs.Heard.{SameIn, keying_opens, way_contexts}
use Rattle.endpoint_laws.proofs.EventTold.{alike_more}
use Rattle.endpoint_laws.proofs.StatedFacts.{lawful_more}

abbrev pub IsList : Secrets → (ℕ → Setup) → History → Type 0
IsList secrets ends history = (steps : List Step) × AreStated secrets ends history steps

module _ (secrets : Secrets) (setup : Setup) (now : ℕ) (call : Call) (begin : Past) where
  -- as the event goes on
  pub record Since (past : Past) : Type 0 where
    pub origin : before_event past ≡ begin
    pub last : last_call past ≡ Some call
    pub same : SameIn setup begin past (receive_in call)

  opened_at : (past : Past) (g : ℕ) → Since past → CallOpensIn secrets setup begin (receive_in call) g → EventOpenedIn secrets setup past g
  opened_at past g at o =
      subst (λ (p : Past). CallOpensIn secrets setup p (receive_of (last_call past)) g) (sym at.origin)
      (subst (λ (c : Option Call). CallOpensIn secrets setup begin (receive_of c) g) (sym at.last) o)

  -- the number of a fact
  number_of : (past : Past) (rest : List Entry) (fact : Fact) → Since past → FactLine secrets setup now call past rest fact → (g : ℕ) × IsNumberOf secrets setup past fact g
  number_of past rest (Started peer n near ni) at line = (0, refl)
  number_of past rest (Born j) at line = by (receive_in call) refl at.same line.by
    where
      by : (o : Option ReceiveCall) → receive_in call ≡ o → SameIn setup begin past o → BearsIn secrets setup line.before now o (record { peer = j.peer; n = j.n; ni = j.ni; far = j.far }) j.nr → (g : ℕ) × EventOpenedIn secrets setup past g
      by None e same bears = absurd bears
      by (Some r) e same bears = (
        bears.0.generation,
        opened_at past bears.0.generation at (subst (λ (o : Option ReceiveCall). CallOpensIn secrets setup begin o bears.0.generation) (sym e)
            (keying_opens secrets setup begin line.before now r.from r.datagram (record { peer = j.peer; n = j.n; ni = j.ni; far = j.far }) (way_contexts setup now line.before past j.peer line.way ∙ same) bears.0)),
      )
  number_of past rest (Opened j) at line = by (receive_in call) refl line
    where
      by : (o : Option ReceiveCall) → receive_in call ≡ o → TakesAnswerIn secrets setup past o j → (g : ℕ) × EventOpenedIn secrets setup past g
      by None e takes = absurd takes
      by (Some r) e takes = (takes.0, opened_at past takes.0 at (subst (λ (o : Option ReceiveCall). CallOpensIn secrets setup begin o takes.0) (sym e) (subst (λ (p : Past). CallOpensIn secrets setup p (Some r) takes.0) at.origin takes.1)))
  number_of past rest (Confirmed peer near) at line = (0, refl)
  number_of past rest (Ended peer near why) at line = (0, refl)

  abbrev pub Listed : List Entry → Past → List Step → Type 0
  Listed entries past before = (steps : List Step) × IsStatedOnto secrets setup now past entries before steps

  since_more : (past : Past) (rest : List Entry) (entry : Entry) → Line secrets setup now call past rest entry → Since past → Since (stamped now entry ∷ past)
  since_more past rest entry line at = record { origin = at.origin; last = at.last; same = alike_more secrets setup now call begin past rest entry line at.same }

  on_entry : (entry : Entry) (past : Past) (rest : List Entry) (before : List Step) → Since past → Line secrets setup now call past rest entry → (next : List Step) × IsStatedOn secrets setup past (fact_in entry) before next
  on_entry entry past rest before at line = elim (kind_of entry) [
    | inl fact ↦
        subst (λ (e : Entry). (next : List Step) × IsStatedOn secrets setup past (fact_in e) before next) (sym fact.1)
        (let there : Line secrets setup now call past rest (FactEntry fact.0) = subst (λ (e : Entry). Line secrets setup now call past rest e) fact.1 line in
        let n = number_of past rest fact.0 at there.1 in
        (step (own_of setup) (Did fact.0 n.0) ∷ before, (n.0, n.1, refl)))
    | inr not ↦ (
      before,
      elim not [
        | inl out ↦ subst (λ (e : Entry). IsStatedOn secrets setup past (fact_in e) before before) (sym out.1) refl
        | inr other ↦ subst (λ (o : Option Fact). IsStatedOn secrets setup past o before before) (sym other.no_fact) refl
      ],
    )
  ]

  pub listed : (entries : List Entry) (past : Past) (before : List Step) → Since past → EntriesLawful secrets setup now call past entries → Listed entries past before
  listed [] past before at lawful = (before, refl)
  listed (entry ∷ rest) past before at lawful =
      let one = on_entry entry past rest before at lawful.0 in
      let more = listed rest (stamped now entry ∷ past) one.0 (since_more past rest entry lawful.0 at) lawful.1 in
      (more.0, (one.0, one.1, more.1))

pub same_at_first : (setup : Setup) (past : Past) (m : ℕ) (e : Event) (o : Option ReceiveCall) → SameIn setup past (begun m e ∷ past) o
same_at_first setup past m e None = tt
same_at_first setup past m e (Some r) = refl

pub lawful_before : (secrets : Secrets) (setup : Setup) (who : ℕ) (h : Happened) (earlier : History) → IsLawful secrets setup (log_of who (h ∷ earlier)) → IsLawful secrets setup (log_of who earlier)
lawful_before secrets setup who h earlier is = go (h.who == who) is
  where
    go : (b : Bool) → IsLawful secrets setup (if b then log_of who earlier ++ h.event ∷ [] else log_of who earlier) → IsLawful secrets setup (log_of who earlier)
    go true l = (lawful_more secrets setup 0 [] (log_of who earlier) h.event l).before
    go false l = l

pub list_of : (secrets : Secrets) (ends : ℕ → Setup) (history : History) → AreLawful secrets ends history → IsList secrets ends history
list_of secrets ends [] lawful = ([], refl)
list_of secrets ends (h ∷ earlier) lawful = elim (tested h.who h.who) [
  | inl d ↦
      (let setup : Setup = ends h.who in
      let log : List Event = log_of h.who earlier in
      let past : Past = past_of 0 [] log in
      let m : ℕ = moment_at (last_moment 0 log) h.event in
      let before = list_of secrets ends earlier (λ who. lawful_before secrets (ends who) who h earlier (lawful who)) in
      let here = (lawful_more secrets setup 0 [] log h.event (subst (λ (b : Bool). IsLawful secrets setup (if b then log ++ h.event ∷ [] else log)) d.1 (lawful h.who))).here in
      let more = listed secrets setup m h.event.call past h.event.entries (begun m h.event ∷ past) before.0 (record { origin = refl; last = refl; same = same_at_first setup past m h.event (receive_in h.event.call) }) here in
      (more.0, (before.0, before.1, more.1)))
  | inr d ↦ absurd (d.0 refl)
]
