-- A history of calls and datagrams goes with a history of flows, event by event.
use Rattle.std.proofs.Common.{◌≡◌, ℕ, ◌+◌, ◌==◌, List, [], ◌∷◌, ◌++◌, Bool, true, false, cond}
use Rattle.std.proofs.Common.{Option, Some, None, inl, inr, ◌⊎◌, refl, sym, ap, subst, ◌∙◌, arith}
use Rattle.std.specs.Ordering.{nat_cmp}
use Rattle.std.specs.FinMap.{get, empty, get-empty}
use Rattle.rtmfp_base.proofs.Maps.{none_is_some}
use Rattle.crypto_profile.specs.declared.keys.Context.{Context as Sealing}
use Rattle.glare_core.specs.declared.facts.Fact.{Fact}
use Rattle.glare_core.specs.Account.{AreLawful}
use Rattle.glare_core.specs.Told.{AllDifferent}
use Rattle.session_core.specs.Session.{context_of}
use Rattle.session_flows.specs.Told.{begins_with_a}
use Rattle.endpoint_model.specs.declared.row.Row.{Row}
use Rattle.endpoint_model.specs.declared.entry.Entry.{Entry}
use Rattle.endpoint_model.specs.Views.{Sending, fact_in, out_in}
use Rattle.endpoint_model.specs.Event.{Setup, own_of, Call}
use Rattle.endpoint_model.specs.Event.{Learn, OnFlows, Receive, Event}
use Rattle.rtmfp_forms.specs.Address.{AddressParts}
use Rattle.endpoint_model.specs.declared.config.Draws.{Draws}
use Rattle.endpoint_model.specs.FlowCall.{FlowCall, OpenFlow, Queue, Abandon, Finish}
use Rattle.endpoint_model.specs.State.{State, fresh, at_moment}
use Rattle.endpoint_model.specs.OnFlows.{flow_called_by, flow_called}
use Rattle.endpoint_model.specs.Succession.{next_group, learning}
use Rattle.endpoint_model.specs.Log.{Step, Answers, StandsFor}
use Rattle.endpoint_laws.specs.Past.{fact_and, past_of, past_of_log, facts_of, WasLearnt}
use Rattle.endpoint_laws.specs.Laws.{IsSetup, IsCall, AreCalls}
use Rattle.endpoint_laws.specs.Lawful.{nonces_of}
use Rattle.endpoint_laws.specs.OpensIn.{OpensAt}
use Rattle.endpoint_laws.specs.History.{Happened, History, log_of, past_at, facts_at, IsOut, HasOut}
use Rattle.endpoint_laws.specs.History.{WasSent as WasOut}
use Rattle.endpoint_laws.specs.History.{IsHonestCall, IsHonest as IsHonestHistory, nonces_in}
use Rattle.endpoint_laws.specs.History.{TakesPart, IsFresh}
use Rattle.endpoint_laws.proofs.Logged.{log_is}
use Rattle.endpoint_laws.proofs.Opened.{opens_in_told}
use Rattle.endpoint_laws.specs.Groups.{HasSecret}
use Rattle.endpoint_laws.specs.Contexts.{Secrets, Knows, generation_of}
use Rattle.endpoint_laws.specs.Agreed.{HaveOneMap}
use Rattle.endpoint_handing.proofs.Bodies.{session_generation}
use Rattle.flow_history.specs.Deeds.{Context, back, Part, Name, History as Flowing}
use Rattle.flow_history.specs.Lawful.{HasBegun, IsLawful, WasSent, WasSplitBy, IsHonest}
use Rattle.flow_history.specs.Log.{HasOrder, log_of as told_of}
use Rattle.flow_history.proofs.Keeps.{tested}
use Rattle.flow_history.proofs.Names.{number_self}
use Rattle.endpoint_handing.specs.Once.{SendsIn, HasBegun as HasStated}
use Rattle.endpoint_handing.specs.Told.{sending_context, facts_onto, told_onto, told, AllTold}
use Rattle.endpoint_handing.proofs.Opening.{opened_in_order}
use Rattle.endpoint_handing.specs.Orders.{OpensIt, HasOrder as IsOrdered}
use Rattle.endpoint_handing.proofs.Once.{begins_once, names_sender}
use Rattle.endpoint_handing.proofs.Pieces.{pieces_in}
use Rattle.endpoint_laws.proofs.Kin.{HoldsSecrets, holds_still}
use Rattle.endpoint_handing.proofs.Kept.{End, away, session_of, FlowsKept, HasKeys, PartCame, RowKept, StateKept, AreSplitsSent}
use Rattle.endpoint_handing.proofs.PartsHeld.{AllHeld, held_wider}
use Rattle.endpoint_handing.proofs.Kept.{HasStarted}
use Rattle.endpoint_handing.proofs.Kept.{Stands, IsNew, AreNew}
use Rattle.endpoint_handing.proofs.Kept.{Grows, WentIn, OutWent, OutsWent, Hands}
use Rattle.endpoint_handing.proofs.Deeding.{kept_beside}
use Rattle.endpoint_laws.proofs.Made.{held_is_there}
use Rattle.endpoint_handing.proofs.Owed.{FlowsHand, OpensAsAsked}
use Rattle.endpoint_handing.proofs.Receiving.{with_begins, session_back, Arrives}
use Rattle.endpoint_handing.proofs.Stepping.{GivenWith, answers_hand}
use Rattle.endpoint_handing.proofs.Logs.{log_mine, log_beside, Before, leads_before, calls_before}
use Rattle.endpoint_handing.proofs.Logs.{knows_before, learnt_by}
use Rattle.endpoint_handing.proofs.Logs.{facts_mine, facts_beside, takes_part}
use Rattle.endpoint_handing.proofs.Logs.{different_behind, nonces_different, lawful_under}
use Rattle.endpoint_handing.proofs.Logs.{different_under}

-- ---- what is given of a history

pub record Given (secrets : Secrets) (ends : ℕ → Setup) (history : History) : Type 0 where
  pub setup : (who : ℕ) → TakesPart who history → IsSetup (ends who)
  pub calls : (who : ℕ) → AreCalls (log_of who history)
  pub group : HaveOneMap secrets ends history
  pub honest : IsHonestHistory secrets ends history
  pub fresh : IsFresh ends history

calls_less : (x : Happened) (earlier : History) (a : ℕ) → AreCalls (log_of a (x ∷ earlier)) → AreCalls (log_of a earlier)
calls_less x earlier a calls = elim (tested x.who a) [
  | inl same ↦ subst (λ (w : ℕ). AreCalls (log_of w earlier)) same.0
      (calls_before (log_of x.who earlier) x.event (subst AreCalls (log_mine x earlier) (subst (λ (w : ℕ). AreCalls (log_of w (x ∷ earlier))) (sym same.0) calls))).0
  | inr other ↦ subst AreCalls (log_beside x earlier a other.1) calls
]

knows_less : (secrets : Secrets) (setup : Setup) (x : Happened) (earlier : History) (a : ℕ) → Knows secrets setup (past_at a (x ∷ earlier)) → Knows secrets setup (past_at a earlier)
knows_less secrets setup x earlier a knows = elim (tested x.who a) [
  | inl same ↦ subst (λ (w : ℕ). Knows secrets setup (past_at w earlier)) same.0
      (knows_before secrets setup (log_of x.who earlier) x.event
      (subst (λ (l : List Event). Knows secrets setup (past_of_log l)) (log_mine x earlier) (subst (λ (w : ℕ). Knows secrets setup (past_at w (x ∷ earlier))) (sym same.0) knows)))
  | inr other ↦ subst (λ (l : List Event). Knows secrets setup (past_of_log l)) (log_beside x earlier a other.1) knows
]

pub given_less : (secrets : Secrets) (ends : ℕ → Setup) (x : Happened) (earlier : History) → Given secrets ends (x ∷ earlier) → Given secrets ends earlier
given_less secrets ends x earlier g = record {
  setup = λ who part. g.setup who (inr part);
  calls = λ who. calls_less x earlier who (g.calls who);
  group = λ who part. knows_less secrets (ends who) x earlier who (g.group who (inr part));
  honest = g.honest.1;
  fresh = record {
    nonces = different_behind (nonces_of (facts_of (past_of 0 [] (x.event ∷ [])))) (nonces_in earlier) g.fresh.nonces;
    prints = λ a b p q same. g.fresh.prints a b (inr p) (inr q) same;
  };
}

-- ---- what goes with it

abbrev pub plain_end : Secrets → (ℕ → Setup) → ℕ → End
plain_end secrets ends who = record {
  who = who;
  own = own_of (ends who);
  secrets = secrets;
  elsewhere = λ c. ⊥;
  begins = Unit {0};
  orders = λ b n. Unit {0};
}

-- at some end a session has begun to send in this context
pub record Somewhere (ends : ℕ → Setup) (history : History) (c : Context) : Type 0 where
  pub who : ℕ
  pub stated : HasStated (SendsIn (own_of (ends who)) c) (facts_at who history)

pub record Carried (secrets : Secrets) (ends : ℕ → Setup) (history : History) (states : ℕ → State) : Type 0 where
  pub flows : Flowing
  pub lawful : IsLawful flows
  pub honest : IsHonest flows
  pub begun : (c : Context) → HasBegun c flows → Somewhere ends history c
  pub splits : AreSplitsSent flows
  pub kept : (a : ℕ) → StateKept (plain_end secrets ends a) (facts_at a history) (states a) flows
  pub log : told_of flows ≡ told ends history
  -- under the secret of its generation
  pub outs : (sealing : Sealing) (c : Context) (secret datagram : List ℕ) → session_of sealing ≡ Some c → get secrets (generation_of sealing) ≡ Some secret → WasOut datagram sealing history → WasSent c (pieces_in secret c datagram) flows
  pub order : (b : Bool) (n : Name) → IsOrdered b n ends history → HasOrder b n flows
  pub back : (b : Bool) (n : Name) → HasOrder b n flows → IsOrdered b n ends history
  pub named : AllTold ends history

-- ---- of another end, or as another one

row_as : (e f : End) (facts : List Fact) (near : ℕ) (row : Row) (h : Flowing) → e.who ≡ f.who → e.own ≡ f.own → e.secrets ≡ f.secrets → RowKept e facts near row h → RowKept f facts near row h
row_as e f facts near row h who own secrets k = record {
  id = k.id;
  own = k.own ∙ own;
  keyed = subst (λ (given : Secrets). HasKeys given row.session) secrets k.keyed;
  named = ap (λ (o : List ℕ). sending_context o near facts) (sym own) ∙ k.named;
  flows = subst (λ (w : ℕ). FlowsKept w (away row.session) row.flows h) who k.flows;
  held = subst (λ (w : ℕ). AllHeld (PartCame w (away row.session) h) row.gathering) who k.held;
  split = λ id was. k.split id (subst (λ (w : ℕ). WasSplitBy w (away row.session) id h) (sym who) was);
}

state_as : (e f : End) (facts : List Fact) (s : State) (h : Flowing) → e.who ≡ f.who → e.own ≡ f.own → e.secrets ≡ f.secrets → StateKept e facts s h → StateKept f facts s h
state_as e f facts s h who own secrets k = record {
  own = k.own ∙ own;
  rows = λ near row there. row_as e f facts near row h who own secrets (k.rows near row there);
}

-- what another end's deeds leave
state_beside : (e : End) (who : ℕ) (facts : List Fact) (s : State) (h after : Flowing) → (e.who ≡ who → ⊥) → Grows who h after → StateKept e facts s h → StateKept e facts s after
state_beside e who facts s h after ne grows k = record {
  own = k.own;
  rows = λ near row there.
      (let r = k.rows near row there in
      record {
        id = r.id;
        own = r.own;
        keyed = r.keyed;
        named = r.named;
        flows = kept_beside who e.who (away row.session) row.flows h after ne grows r.flows;
        held = held_wider (PartCame e.who (away row.session) h) (PartCame e.who (away row.session) after) row.gathering (λ id x came. grows.came e.who (back (away row.session)) (Part id x) came) r.held;
        split = λ id was. r.split id (grows.others e.who (away row.session) id ne was);
      });
}

fresh_kept : (secrets : Secrets) (ends : ℕ → Setup) (a : ℕ) (h : Flowing) → StateKept (plain_end secrets ends a) [] (fresh (ends a)) h
fresh_kept secrets ends a h = record {
  own = refl;
  rows = λ near row there. absurd (none_is_some row (get {R = nat_cmp} empty near) (get-empty nat_cmp near) there);
}

-- ---- a session begins in a new context

some_stated : (begins : Fact → Type 0) (P : Type 0) (facts : List Fact) → ((fact : Fact) → begins fact → P) → HasStated begins facts → P
some_stated begins P [] f was = absurd was
some_stated begins P (fact ∷ earlier) f (inl is) = f fact is
some_stated begins P (fact ∷ earlier) f (inr was) = some_stated begins P earlier f was

module _ (e : End) (from : ℕ) (apart : (fact : Fact) (c : Context) → SendsIn e.own c fact → e.elsewhere c → ⊥) where
  one_new : (o : Option Fact) (facts : List Fact) → AreLawful e.own from (fact_and o facts) → AllDifferent (nonces_of (fact_and o facts)) → IsNew e facts o
  one_new None facts lawful different = tt
  one_new (Some fact) facts lawful different = λ c sends started. elim started [
    | inl other ↦ apart fact c sends other
    | inr own ↦ (begins_once e.own from fact facts c lawful different).0 sends own
  ]

  pub are_new : (entries : List Entry) (facts : List Fact) → AreLawful e.own from (facts_onto entries facts) → AllDifferent (nonces_of (facts_onto entries facts)) → AreNew e facts entries
  are_new [] facts lawful different = tt
  are_new (x ∷ rest) facts lawful different =
      let more : List Fact = fact_and (fact_in x) facts in
      (one_new (fact_in x) facts (lawful_under e.own from rest more lawful) (different_under rest more different), are_new rest more lawful different)

-- ---- what was sent

module _ (secrets : Secrets) (sealing : Sealing) (c : Context) (secret datagram : List ℕ) (is_of : session_of sealing ≡ Some c) (known : get secrets (generation_of sealing) ≡ Some secret) where
  went_so : (h : Flowing) → WentIn secrets sealing datagram (Some c) h → WasSent c (pieces_in secret c datagram) h
  went_so h went =
      let both : Some went.0 ≡ Some secret = sym went.1 ∙ known in
      let one : went.0 ≡ secret = cc in
      subst (λ (given : List ℕ). WasSent c (pieces_in given c datagram) h) one went.2

  out_went : (o : Option Sending) (h : Flowing) → IsOut datagram sealing o → OutWent secrets o h → WasSent c (pieces_in secret c datagram) h
  out_went None h none went = absurd none
  out_went (Some out) h is went =
      went_so h
      (subst (λ (o : Option Context). WentIn secrets sealing datagram o h) is_of
      (subst (λ (d : List ℕ). WentIn secrets sealing d (session_of sealing) h) is.0
      (subst (λ (x : Sealing). WentIn secrets x out.datagram (session_of x) h) is.1 went)))

  outs_went : (entries : List Entry) (h : Flowing) → HasOut datagram sealing entries → OutsWent secrets entries h → WasSent c (pieces_in secret c datagram) h
  outs_went [] h none went = absurd none
  outs_went (entry ∷ rest) h (inl is) went = out_went (out_in entry) h is went.0
  outs_went (entry ∷ rest) h (inr later) went = outs_went rest h later went.1

-- ---- one event

module _ (secrets : Secrets) (ends : ℕ → Setup) (owed : (e : End) → FlowsHand e) (x : Happened) (earlier : History) (given : Given secrets ends (x ∷ earlier)) (states : ℕ → State) (carried : Carried secrets ends earlier states) (t : State)
    (standing : StandsFor (ends x.who) (log_of x.who earlier) (states x.who)) (step : Step (states x.who) x.event t) (later : StandsFor (ends x.who) (log_of x.who (x ∷ earlier)) t) where
  abbrev who : ℕ
  who = x.who

  abbrev own : List ℕ
  own = own_of (ends who)

  abbrev facts : List Fact
  facts = facts_at who earlier

  abbrev entries : List Entry
  entries = x.event.entries

  abbrev noted : State
  noted = at_moment (states who) x.event.moment

  -- the end of the event
  abbrev it : End
  it = record {
    who = who;
    own = own;
    secrets = secrets;
    elsewhere = λ c. (a : ℕ) × (a ≡ who → ⊥) × HasStated (SendsIn (own_of (ends a)) c) (facts_at a earlier);
    begins = Unit {0};
    orders = λ b n. (metadata : List ℕ) → OpensIt n own facts x.event metadata → begins_with_a metadata ≡ b;
  }

  in_group : Knows secrets (ends who) (past_at who (x ∷ earlier))
  in_group = given.group who (inl refl)

  in_group_before : Knows secrets (ends who) (past_at who earlier)
  in_group_before = knows_less secrets (ends who) x earlier who in_group

  sized : IsSetup (ends who)
  sized = given.setup who (inl refl)

  calls : AreCalls (log_of who earlier) × IsCall x.event.call
  calls = calls_before (log_of who earlier) x.event (subst AreCalls (log_mine x earlier) (given.calls who))

  started : (c : Context) → HasBegun c carried.flows → HasStarted it facts c
  started c was =
      let some = carried.begun c was in
      elim (tested some.who who) [
        | inl same ↦ inr (subst (λ (w : ℕ). HasStated (SendsIn (own_of (ends w)) c) (facts_at w earlier)) same.0 some.stated)
        | inr other ↦ inl (some.who, other.0, some.stated)
      ]

  kept_now : StateKept it facts noted carried.flows
  kept_now =
      let k = carried.kept who in
      state_as (plain_end secrets ends who) it facts noted carried.flows refl refl refl (record { own = k.own; rows = k.rows })

  holds_now : HoldsSecrets secrets noted
  holds_now =
      let tied = (log_is secrets (ends who) (log_of who earlier) (states who) in_group_before sized calls.0 standing).holds.tied in
      holds_still secrets (states who) noted tied.holds refl refl refl

  stands : Stands it facts noted carried.flows
  stands = record { lawful = carried.lawful; honest = carried.honest; begun = started; splits = carried.splits; state = kept_now; holds = holds_now }

  -- ---- what begins is new

  apart : (fact : Fact) (c : Context) → SendsIn own c fact → it.elsewhere c → ⊥
  apart fact c sends other = there (takes_part other.0 earlier)
    where
      print : own ≡ own_of (ends other.0)
      print = some_stated (SendsIn (own_of (ends other.0)) c) (own ≡ own_of (ends other.0)) (facts_at other.0 earlier) (λ f begins. names_sender own (own_of (ends other.0)) c fact f sends begins) other.2

      there : TakesPart other.0 earlier ⊎ (log_of other.0 earlier ≡ []) → ⊥
      there (inl part) = other.1 (given.fresh.prints other.0 who (inr part) (inl refl) (sym print))
      there (inr none) = subst (λ (l : List Event). HasStated (SendsIn (own_of (ends other.0)) c) (facts_of (past_of 0 [] l))) none other.2

  lawful_facts : AreLawful own 0 (facts_onto entries facts)
  lawful_facts =
      let tied = (log_is secrets (ends who) (log_of who (x ∷ earlier)) t in_group sized (given.calls who) later).holds.tied in
      subst (λ (l : List Fact). AreLawful own 0 l) (facts_mine x earlier) (subst (λ (o : List ℕ). AreLawful o 0 (facts_at who (x ∷ earlier))) tied.own tied.account.lawful)

  new : AreNew it facts entries
  new = are_new it 0 apart entries facts lawful_facts (subst (λ (l : List Fact). AllDifferent (nonces_of l)) (facts_mine x earlier) (nonces_different who (x ∷ earlier) given.fresh.nonces))

  -- ---- what is given with the call

  arrives : (from : AddressParts) (datagram : List ℕ) (draws : Draws) → x.event.call ≡ Receive from datagram draws → Arrives it noted datagram carried.flows
  arrives from datagram draws is near row there opens secret known =
      let c : Context = back (away row.session) in
      let at : OpensAt secrets (ends who) (past_at who earlier) datagram (context_of row.session false) =
      opens_in_told secrets (ends who) (log_of who earlier) (states who) datagram in_group_before sized calls.0 standing (context_of row.session false) opens in
      let ours : IsHonestCall secrets (ends who) (past_at who earlier) earlier (Receive from datagram draws) = subst (λ (call : Call). IsHonestCall secrets (ends who) (past_at who earlier) earlier call) is given.honest.0 in
      let was : WasOut datagram (context_of row.session false) earlier = ours at.contexts (context_of row.session false) at.plain at.named at.opens in
      let under : get secrets (generation_of (context_of row.session false)) ≡ Some secret = ap (get secrets) (session_generation row.session false) ∙ known in
      carried.outs (context_of row.session false) c secret datagram (session_back row.session) under was

  opens_as_asked : (near : ℕ) (call : FlowCall) → x.event.call ≡ OnFlows near call → entries ≡ (flow_called noted near call).entries → OpensAsAsked it noted near call
  opens_as_asked near (OpenFlow priority metadata answers) is are = λ row held b asked. asked metadata (record {
    near = near;
    priority = priority;
    answers = answers;
    call = is;
    opened = are ∙ ap (λ (o : Option Row). (flow_called_by noted near (OpenFlow priority metadata answers) o).entries) held;
    context = (kept_now.rows near row (held_is_there (get noted.sessions near) row held)).named;
  })
  opens_as_asked near (Queue flow message options) is are = tt
  opens_as_asked near (Abandon flow seq) is are = tt
  opens_as_asked near (Finish flow) is are = tt

  -- the map has what the event learns
  learn_known : (secret : List ℕ) → x.event.call ≡ Learn secret → entries ≡ (learning noted secret).entries → HasSecret secrets (next_group noted secret)
  learn_known secret is are =
      in_group.learnt (noted.group.generation + 1) secret
      (subst (λ (l : List Event). WasLearnt (noted.group.generation + 1) secret (past_of_log l)) (sym (log_mine x earlier))
      (learnt_by (log_of who earlier) x.event (noted.group.generation + 1) secret is are))

  given_with : (call : Call) → x.event.call ≡ call → GivenWith it (λ A. owed (with_begins it A)) facts noted t entries carried.flows call
  given_with (Receive from datagram draws) is =
      let ours : IsCall (Receive from datagram draws) = subst IsCall is calls.1 in
      (arrives from datagram draws is, omega (arith, ours.3))
  given_with (Learn secret) is = λ are. learn_known secret is are
  given_with (OnFlows near call) is = λ none are. opens_as_asked near call is are
  given_with call is = tt

  hands : Hands it facts (record { state = t; entries = entries }) carried.flows
  hands = answers_hand it (λ A. owed (with_begins it A)) facts noted t entries carried.flows stands new x.event.call x.event.answer (given_with x.event.call refl) step

  -- ---- and so it goes on

  begun_now : (c : Context) → HasBegun c hands.after → Somewhere ends (x ∷ earlier) c
  begun_now c was = by (hands.stands.begun c was)
    where
      mine : List Fact → Type 0
      mine l = HasStated (SendsIn own c) l

      by : HasStarted it (facts_onto entries facts) c → Somewhere ends (x ∷ earlier) c
      by (inl other) = elim (tested who other.0) [
        | inl same ↦ absurd (other.1 (sym same.0))
        | inr apart ↦ record { who = other.0; stated = subst (λ (l : List Fact). HasStated (SendsIn (own_of (ends other.0)) c) l) (sym (facts_beside x earlier other.0 apart.1)) other.2 }
      ]
      by (inr ours) = record { who = who; stated = subst (λ (l : List Fact). HasStated (SendsIn own c) l) (sym (facts_mine x earlier)) ours }

  opened_back : (b : Bool) (n : Name) → HasOrder b n hands.after → (metadata : List ℕ) → OpensIt n own facts x.event metadata → begins_with_a metadata ≡ b
  opened_back b n order metadata opens =
      opened_in_order it facts noted t hands.after opens.near opens.priority metadata opens.answers
      (subst (λ (es : List Entry). StateKept it (facts_onto es facts) t hands.after) opens.opened hands.stands.state) x.event.answer n b entries
      (subst (λ (call : Call). Answers noted call x.event.answer entries t) opens.call step) opens.opened opens.context order

  outs_now : (sealing : Sealing) (c : Context) (secret datagram : List ℕ) → session_of sealing ≡ Some c → get secrets (generation_of sealing) ≡ Some secret → WasOut datagram sealing (x ∷ earlier) →
      WasSent c (pieces_in secret c datagram) hands.after
  outs_now sealing c secret datagram is_of known (inl now) = outs_went secrets sealing c secret datagram is_of known entries hands.after now hands.outs
  outs_now sealing c secret datagram is_of known (inr before) = hands.grows.sent c (pieces_in secret c datagram) (carried.outs sealing c secret datagram is_of known before)

  module _ (states_now : ℕ → State) (mine : states_now who ≡ t) (beside : (a : ℕ) → (who == a) ≡ false → states_now a ≡ states a) where
    kept_by_it : StateKept (plain_end secrets ends who) (facts_at who (x ∷ earlier)) (states_now who) hands.after
    kept_by_it =
        subst (λ (u : State). StateKept (plain_end secrets ends who) (facts_at who (x ∷ earlier)) u hands.after) (sym mine)
        (subst (λ (l : List Fact). StateKept (plain_end secrets ends who) l t hands.after) (sym (facts_mine x earlier))
        (state_as it (plain_end secrets ends who) (facts_onto entries facts) t hands.after refl refl refl hands.stands.state))

    kept_beside_it : (a : ℕ) → (a ≡ who → ⊥) → (who == a) ≡ false → StateKept (plain_end secrets ends a) (facts_at a (x ∷ earlier)) (states_now a) hands.after
    kept_beside_it a ne other =
        subst (λ (u : State). StateKept (plain_end secrets ends a) (facts_at a (x ∷ earlier)) u hands.after) (sym (beside a other))
        (subst (λ (l : List Fact). StateKept (plain_end secrets ends a) l (states a) hands.after) (sym (facts_beside x earlier a other))
        (state_beside (plain_end secrets ends a) who (facts_at a earlier) (states a) carried.flows hands.after ne hands.grows (carried.kept a)))

    kept_all : (a : ℕ) → StateKept (plain_end secrets ends a) (facts_at a (x ∷ earlier)) (states_now a) hands.after
    kept_all a = elim (tested who a) [
      | inl is ↦ subst (λ (b : ℕ). StateKept (plain_end secrets ends b) (facts_at b (x ∷ earlier)) (states_now b) hands.after) is.0 kept_by_it
      | inr other ↦ kept_beside_it a (λ is. other.0 (sym is)) other.1
    ]

    pub carried_on : Carried secrets ends (x ∷ earlier) states_now
    carried_on = record {
      flows = hands.after;
      lawful = hands.stands.lawful;
      honest = hands.stands.honest;
      begun = begun_now;
      splits = hands.stands.splits;
      kept = kept_all;
      log = hands.log ∙ ap (told_onto own facts entries) carried.log;
      outs = outs_now;
      order = λ b n asked. hands.order b n asked.0 (carried.order b n asked.1);
      back = λ b n order. (opened_back b n order, carried.back b n (hands.grows.ordered b n order));
      named = (hands.named, carried.named);
    }

-- ---- all events

abbrev pub AllStand : (ℕ → Setup) → History → (ℕ → State) → Type 0
AllStand ends history states = (a : ℕ) → StandsFor (ends a) (log_of a history) (states a)

chosen : (b : Bool) (s t : State) → b ≡ true → cond b s t ≡ s
chosen true s t e = refl
chosen false s t e = absurd cc

not_chosen : (b : Bool) (s t : State) → b ≡ false → cond b s t ≡ t
not_chosen true s t e = absurd cc
not_chosen false s t e = refl

pub carried : (secrets : Secrets) (ends : ℕ → Setup) → ((e : End) → FlowsHand e) → (history : History) → Given secrets ends history → (states : ℕ → State) → AllStand ends history states → Carried secrets ends history states
carried secrets ends owed [] given states stand = record {
  flows = [];
  lawful = tt;
  honest = tt;
  begun = λ c none. absurd none;
  splits = λ c id size packet none. absurd none;
  kept = λ a. subst (λ (s : State). StateKept (plain_end secrets ends a) [] s []) (stand a) (fresh_kept secrets ends a []);
  log = refl;
  outs = λ sealing c secret datagram is_of known none. absurd none;
  order = λ b n asked. tt;
  back = λ b n order. tt;
  named = tt;
}
carried secrets ends owed (x ∷ earlier) given states stand =
    let ours : StandsFor (ends x.who) (log_of x.who earlier ++ x.event ∷ []) (states x.who) = subst (λ (l : List Event). StandsFor (ends x.who) l (states x.who)) (log_mine x earlier) (stand x.who) in
    let before : Before (fresh (ends x.who)) (log_of x.who earlier) x.event (states x.who) = leads_before (log_of x.who earlier) x.event (fresh (ends x.who)) (states x.who) ours in
    let then_states : ℕ → State = λ a. cond (x.who == a) before.middle (states a) in
    let mine : then_states x.who ≡ before.middle = chosen (x.who == x.who) before.middle (states x.who) (number_self x.who) in
    let stand_then : AllStand ends earlier then_states = λ a. elim (tested x.who a) [
      | inl same ↦ subst (λ (b : ℕ). StandsFor (ends b) (log_of b earlier) (then_states b)) same.0 (subst (λ (s : State). StandsFor (ends x.who) (log_of x.who earlier) s) (sym mine) before.leads)
      | inr other ↦ subst (λ (s : State). StandsFor (ends a) (log_of a earlier) s) (sym (not_chosen (x.who == a) before.middle (states a) other.1))
          (subst (λ (l : List Event). StandsFor (ends a) l (states a)) (log_beside x earlier a other.1) (stand a))
    ] in
    carried_on secrets ends owed x earlier given then_states (carried secrets ends owed earlier (given_less secrets ends x earlier given) then_states stand_then) (states x.who) (stand_then x.who)
    (subst (λ (s : State). Step s x.event (states x.who)) (sym mine) before.step) (stand x.who) states refl
    (λ a other. sym (not_chosen (x.who == a) before.middle (states a) other))
