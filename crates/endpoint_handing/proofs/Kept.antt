-- What an end keeps of the flows of its sessions, beside a history of flows; and what one thing
-- that the end does adds to both.
use Rattle.std.proofs.Common.{◌≡◌, ℕ, ◌≤◌, List, [], ◌∷◌, ◌++◌, Bool}
use Rattle.std.proofs.Common.{Option, Some, None, inl, inr, ◌⊎◌, refl, sym, ap, subst, ◌∙◌}
use Rattle.std.specs.FinMap.{get}
use Rattle.crypto_profile.specs.declared.keys.Context.{Context as Sealing}
use Rattle.crypto_profile.specs.declared.keys.Context.TheVariants.{Startup, Session}
use Rattle.glare_core.specs.declared.facts.Fact.{Fact}
use Rattle.session_core.specs.Session.{SessionState, IsKeyed}
use Rattle.session_flows.specs.Keeping.{FlowsState}
use Rattle.endpoint_model.specs.declared.row.Row.{Row}
use Rattle.endpoint_model.specs.declared.entry.Entry.{Entry}
use Rattle.endpoint_model.specs.Views.{Sending, fact_in, out_in}
use Rattle.endpoint_model.specs.State.{State, Did, nothing, after_entries, then_do}
use Rattle.endpoint_laws.specs.Past.{fact_and}
use Rattle.endpoint_laws.specs.Contexts.{Secrets, generation_of}
use Rattle.endpoint_laws.proofs.Kin.{HoldsSecrets}
use Rattle.flow_history.specs.Flow.{Carried, sending_at, taking_at}
use Rattle.flow_history.specs.Said.{WasGiven, WasTold}
use Rattle.flow_history.specs.Deeds.{Context, back, Name, name, Piece, Part, History, steps_of}
use Rattle.flow_history.specs.Lawful.{HasBegun, CameIn, WasSplit, WasSplitBy, IsLawful, WasSent, IsHonest}
use Rattle.flow_history.specs.Log.{Entry as Tell, HasOrder, log_of}
use Rattle.flow_history.specs.Keeping.{Flows}
use Rattle.flow_send.specs.Acks.{Told}
use Rattle.endpoint_handing.specs.Once.{SendsIn, HasBegun as HasStated}
use Rattle.endpoint_handing.specs.Told.{AllHaveContext, sends_in, sending_context, told_at}
use Rattle.endpoint_handing.specs.Told.{facts_onto, told_onto}
use Rattle.endpoint_handing.proofs.Pieces.{pieces_in, pieces_plain}
use Rattle.endpoint_handing.proofs.PartsHeld.{AllHeld}
use Rattle.rtmfp_fragments.specs.Pieces.{PieceParts}
use Rattle.session_deeds.specs.Shows.{Shows}

-- ---- what is kept

-- An end whose things are gone through: its number, its fingerprint and the secrets of its group;
-- the contexts in which sessions of other ends have begun to send; whether sessions may begin now;
-- and what is asked of the flows that it opens.
pub record End : Type 1 where
  pub who : ℕ
  pub own : List ℕ
  pub secrets : Secrets
  pub elsewhere : Context → Type 0
  pub begins : Type 0
  pub orders : Bool → Name → Type 0

-- the context in which a session sends
abbrev pub away : SessionState → Context
away session = sends_in session.role session.own session.joined

-- A session that sends in this context has these flows, and just those does the history say.
pub record FlowsKept (who : ℕ) (c : Context) (flows : FlowsState) (h : History) : Type 0 where
  pub kept : Flows
  pub shows : Shows flows kept
  pub sends : (f : ℕ) → sending_at (steps_of (name c f) h) who ≡ Some (kept.opened f)
  pub takes : (f : ℕ) → taking_at (steps_of (name (back c) f) h) who ≡ Some (kept.made f)

-- The session's keys are under the secret that the group has in the session's generation.
pub record HasKeys (secrets : Secrets) (session : SessionState) : Type 0 where
  pub secret : List ℕ
  pub known : get secrets session.generation ≡ Some secret
  pub keyed : IsKeyed secret session

-- the piece came in the context towards a session that sends in this one
abbrev pub PartCame : ℕ → Context → History → ℕ → PieceParts → Type 0
PartCame who c h id x = CameIn who (back c) (Part id x) h

-- The row of a session is of this end, the last that began under its ID, and has its flows. The
-- pieces that it holds came, and no packet was split under an ID above its last one.
pub record RowKept (e : End) (facts : List Fact) (near : ℕ) (row : Row) (h : History)
    : Type 0 where
  pub id : row.session.joined.near ≡ near
  pub own : row.session.own ≡ e.own
  pub keyed : HasKeys e.secrets row.session
  pub named : sending_context e.own near facts ≡ Some (away row.session)
  pub flows : FlowsKept e.who (away row.session) row.flows h
  pub held : AllHeld (PartCame e.who (away row.session) h) row.gathering
  pub split : (id : ℕ) → WasSplitBy e.who (away row.session) id h → id ≤ row.packets

pub record StateKept (e : End) (facts : List Fact) (s : State) (h : History) : Type 0 where
  pub own : s.startup.ledger.own ≡ e.own
  pub rows : (near : ℕ) (row : Row) → get s.sessions near ≡ Some row →
      RowKept e facts near row h

-- A session has begun to send in this context, of another end or of this one.
abbrev pub HasStarted : End → List Fact → Context → Type 0
HasStarted e facts c = e.elsewhere c ⊎ HasStated (SendsIn e.own c) facts

-- What a packet that was split has of flows went out.
abbrev pub AreSplitsSent : History → Type 0
AreSplitsSent h = (c : Context) (id size : ℕ) (packet : List ℕ) → WasSplit c id size packet h →
    WasSent c (pieces_plain packet) h

pub record Stands (e : End) (facts : List Fact) (s : State) (h : History) : Type 0 where
  pub lawful : IsLawful h
  pub honest : IsHonest h
  pub begun : (c : Context) → HasBegun c h → HasStarted e facts c
  pub splits : AreSplitsSent h
  pub state : StateKept e facts s h
  pub holds : HoldsSecrets e.secrets s

-- ---- a longer history, by deeds of one end

pub record Grows (who : ℕ) (h after : History) : Type 0 where
  pub sends : (n : Name) (other : ℕ) → (other ≡ who → ⊥) →
      sending_at (steps_of n after) other ≡ sending_at (steps_of n h) other
  pub takes : (n : Name) (other : ℕ) → (other ≡ who → ⊥) →
      taking_at (steps_of n after) other ≡ taking_at (steps_of n h) other
  pub sent : (c : Context) (pieces : List Piece) → WasSent c pieces h → WasSent c pieces after
  pub came : (other : ℕ) (c : Context) (piece : Piece) → CameIn other c piece h →
      CameIn other c piece after
  pub given : (n : Name) (x : Carried) → WasGiven (steps_of n h) x → WasGiven (steps_of n after) x
  pub told : (n : Name) (a : Told) → WasTold (steps_of n h) a → WasTold (steps_of n after) a
  pub split : (c : Context) (id size : ℕ) (packet : List ℕ) → WasSplit c id size packet h →
      WasSplit c id size packet after
  pub others : (other : ℕ) (c : Context) (id : ℕ) → (other ≡ who → ⊥) →
      WasSplitBy other c id after → WasSplitBy other c id h
  pub ordered : (b : Bool) (n : Name) → HasOrder b n after → HasOrder b n h

pub grows_not : (who : ℕ) (h : History) → Grows who h h
grows_not who h = record {
  sends = λ n other ne. refl;
  takes = λ n other ne. refl;
  sent = λ c pieces w. w;
  came = λ other c piece w. w;
  given = λ n x w. w;
  told = λ n a w. w;
  split = λ c id size packet w. w;
  others = λ other c id ne w. w;
  ordered = λ b n o. o;
}

pub grows_then : (who : ℕ) (a b c : History) → Grows who a b → Grows who b c → Grows who a c
grows_then who a b c p q = record {
  sends = λ n other ne. q.sends n other ne ∙ p.sends n other ne;
  takes = λ n other ne. q.takes n other ne ∙ p.takes n other ne;
  sent = λ d pieces w. q.sent d pieces (p.sent d pieces w);
  came = λ other d piece w. q.came other d piece (p.came other d piece w);
  given = λ n x w. q.given n x (p.given n x w);
  told = λ n x w. q.told n x (p.told n x w);
  split = λ d id size packet w. q.split d id size packet (p.split d id size packet w);
  others = λ other d id ne w. p.others other d id ne (q.others other d id ne w);
  ordered = λ b n o. p.ordered b n (q.ordered b n o);
}

-- ---- what a thing is given

-- A fact begins a session in a new context.
abbrev pub IsNew : End → List Fact → Option Fact → Type 0
IsNew e facts None = Unit {0}
IsNew e facts (Some fact) = (c : Context) → SendsIn e.own c fact → HasStarted e facts c → ⊥

abbrev pub AreNew : End → List Fact → List Entry → Type 0
AreNew e facts [] = Unit {0}
AreNew e facts (entry ∷ rest) = IsNew e facts (fact_in entry)
    × AreNew e (fact_and (fact_in entry) facts) rest

pub facts_append : (xs ys : List Entry) (facts : List Fact) →
    facts_onto (xs ++ ys) facts ≡ facts_onto ys (facts_onto xs facts)
facts_append [] ys facts = refl
facts_append (x ∷ xs) ys facts = facts_append xs ys (fact_and (fact_in x) facts)

pub new_split : (e : End) (xs ys : List Entry) (facts : List Fact) → AreNew e facts (xs ++ ys) →
    AreNew e facts xs × AreNew e (facts_onto xs facts) ys
new_split e [] ys facts new = (tt, new)
new_split e (x ∷ xs) ys facts new =
    let k = new_split e xs ys (fact_and (fact_in x) facts) new.1 in ((new.0, k.0), k.1)

-- ---- what it tells and sends

pub told_append : (own : List ℕ) (xs ys : List Entry) (facts : List Fact) (before : List Tell) →
    told_onto own facts (xs ++ ys) before
    ≡ told_onto own (facts_onto xs facts) ys (told_onto own facts xs before)
told_append own [] ys facts before = refl
told_append own (x ∷ xs) ys facts before =
    told_append own xs ys (fact_and (fact_in x) facts) (told_at own facts x ++ before)

named_append : (own : List ℕ) (xs ys : List Entry) (facts : List Fact) →
    AllHaveContext own facts xs → AllHaveContext own (facts_onto xs facts) ys →
    AllHaveContext own facts (xs ++ ys)
named_append own [] ys facts p q = q
named_append own (x ∷ xs) ys facts p q =
    (p.0, named_append own xs ys (fact_and (fact_in x) facts) p.1 q)

-- the context of a session that a datagram was sealed for, in whatever generation
abbrev pub session_of : Sealing → Option Context
session_of (Startup generation) = None
session_of (Session generation ni nr initiator responder near_i near_r to_responder) = Some (record {
  session = record {
    ni = ni;
    nr = nr;
    initiator = initiator;
    responder = responder;
    near_i = near_i;
    near_r = near_r;
  };
  to_responder = to_responder;
})

-- It went out with its pieces under the secret that the group has in its generation.
abbrev pub WentIn : Secrets → Sealing → List ℕ → Option Context → History → Type 0
WentIn secrets sealing datagram None h = Unit {0}
WentIn secrets sealing datagram (Some c) h = (secret : List ℕ)
    × (get secrets (generation_of sealing) ≡ Some secret)
    × WasSent c (pieces_in secret c datagram) h

abbrev pub OutWent : Secrets → Option Sending → History → Type 0
OutWent secrets None h = Unit {0}
OutWent secrets (Some out) h = WentIn secrets out.context out.datagram (session_of out.context) h

-- Each datagram that goes out in a session is in the history, with its pieces.
abbrev pub OutsWent : Secrets → List Entry → History → Type 0
OutsWent secrets [] h = Unit {0}
OutsWent secrets (entry ∷ rest) h = OutWent secrets (out_in entry) h × OutsWent secrets rest h

went_in_later : (who : ℕ) (secrets : Secrets) (sealing : Sealing) (datagram : List ℕ) (o : Option Context) (h after : History) →
    Grows who h after → WentIn secrets sealing datagram o h → WentIn secrets sealing datagram o after
went_in_later who secrets sealing datagram None h after grows went = tt
went_in_later who secrets sealing datagram (Some c) h after grows went =
    (went.0, went.1, grows.sent c (pieces_in went.0 c datagram) went.2)

pub went_later : (who : ℕ) (secrets : Secrets) (o : Option Sending) (h after : History) →
    Grows who h after → OutWent secrets o h → OutWent secrets o after
went_later who secrets None h after grows went = tt
went_later who secrets (Some out) h after grows went =
    went_in_later who secrets out.context out.datagram (session_of out.context) h after grows went

pub all_later : (who : ℕ) (secrets : Secrets) (entries : List Entry) (h after : History) →
    Grows who h after → OutsWent secrets entries h → OutsWent secrets entries after
all_later who secrets [] h after grows went = tt
all_later who secrets (entry ∷ rest) h after grows went =
    (went_later who secrets (out_in entry) h after grows went.0, all_later who secrets rest h after grows went.1)

outs_append : (secrets : Secrets) (xs ys : List Entry) (h : History) → OutsWent secrets xs h →
    OutsWent secrets ys h → OutsWent secrets (xs ++ ys) h
outs_append secrets [] ys h p q = q
outs_append secrets (x ∷ xs) ys h p q = (p.0, outs_append secrets xs ys h p.1 q)

-- ---- session IDs that stay

-- The session ID has the context that it had.
abbrev pub IsStill : List ℕ → ℕ → List Fact → List Fact → Type 0
IsStill own near facts more = sending_context own near more ≡ sending_context own near facts

still_then : (begins : Type 0) (own : List ℕ) (near : ℕ) (a b c : List Fact) →
    begins ⊎ IsStill own near a b → begins ⊎ IsStill own near b c → begins ⊎ IsStill own near a c
still_then begins own near a b c (inl may) q = inl may
still_then begins own near a b c (inr p) (inl may) = inl may
still_then begins own near a b c (inr p) (inr q) = inr (q ∙ p)

-- ---- one thing

-- After a history there is a longer one, by deeds of this end, beside which stands what the thing
-- leaves, and which states what the thing states.
pub record Hands (e : End) (facts : List Fact) (d : Did) (h : History) : Type 0 where
  pub after : History
  pub grows : Grows e.who h after
  pub stands : Stands e (facts_onto d.entries facts) d.state after
  pub log : log_of after ≡ told_onto e.own facts d.entries (log_of h)
  pub named : AllHaveContext e.own facts d.entries
  pub outs : OutsWent e.secrets d.entries after
  pub still : (near : ℕ) → e.begins ⊎ IsStill e.own near facts (facts_onto d.entries facts)
  pub order : (b : Bool) (n : Name) → e.orders b n → HasOrder b n h → HasOrder b n after

-- so it is after each history beside which the state stands
abbrev pub Does : End → List Fact → State → Did → Type 0
Does e facts s d = (h : History) → Stands e facts s h → AreNew e facts d.entries →
    Hands e facts d h

module _ (e : End) (facts : List Fact) where
  pub hands_after : (t : State) (entries : List Entry) (d : Did) (h : History) →
      (first : Hands e facts (record { state = t; entries = entries }) h) →
      Hands e (facts_onto entries facts) d first.after → Hands e facts (after_entries entries d) h
  hands_after t entries d h first later = record {
    after = later.after;
    grows = grows_then e.who h first.after later.after first.grows later.grows;
    stands = subst (λ f. Stands e f d.state later.after)
        (sym (facts_append entries d.entries facts)) later.stands;
    log = later.log ∙ ap (told_onto e.own (facts_onto entries facts) d.entries) first.log
        ∙ sym (told_append e.own entries d.entries facts (log_of h));
    named = named_append e.own entries d.entries facts first.named later.named;
    outs = outs_append e.secrets entries d.entries later.after
        (all_later e.who e.secrets entries first.after later.after later.grows first.outs) later.outs;
    still = λ near. subst (λ f. e.begins ⊎ IsStill e.own near facts f)
        (sym (facts_append entries d.entries facts))
        (still_then e.begins e.own near facts (facts_onto entries facts)
        (facts_onto d.entries (facts_onto entries facts)) (first.still near) (later.still near));
    order = λ b n asked was. later.order b n asked (first.order b n asked was);
  }

  pub does_after : (s t : State) (entries : List Entry) (d : Did) →
      Does e facts s (record { state = t; entries = entries }) →
      Does e (facts_onto entries facts) t d → Does e facts s (after_entries entries d)
  does_after s t entries d first later h stands new =
      let parts = new_split e entries d.entries facts new in
      let one = first h stands parts.0 in
      hands_after t entries d h one (later one.after one.stands parts.1)

  pub does_then : (s : State) (d : Did) (next : State → Did) → Does e facts s d →
      Does e (facts_onto d.entries facts) d.state (next d.state) → Does e facts s (then_do d next)
  does_then s d next first later = does_after s d.state d.entries (next d.state) first later

  pub does_nothing : (s : State) → Does e facts s (nothing s)
  does_nothing s h stands new = record {
    after = h;
    grows = grows_not e.who h;
    stands = stands;
    log = refl;
    named = tt;
    outs = tt;
    still = λ near. inr refl;
    order = λ b n asked was. was;
  }
