-- Things that say nothing of flows: no session begins, nothing goes out in one, and no message is
-- told.
use Rattle.std.proofs.Common.{◌≡◌, ℕ, ◌≤◌, arith, List, [], ◌∷◌, ◌++◌}
use Rattle.std.proofs.Common.{Option, Some, None, inl, inr, refl, sym, ap, subst, ◌∙◌}
use Rattle.std.specs.FinMap.{get, insert, remove}
use Rattle.rtmfp_base.proofs.Maps.{found_inserted, found_left}
use Rattle.glare_core.specs.declared.facts.Fact.{Fact}
use Rattle.glare_core.specs.declared.facts.Joined.{Joined}
use Rattle.session_core.specs.declared.stage.Role.{Role}
use Rattle.session_core.specs.Session.{SessionState}
use Rattle.session_core.proofs.Keyed.{keyed_same}
use Rattle.session_flows.specs.Keeping.{FlowsState}
use Rattle.endpoint_model.specs.declared.row.Row.{Row}
use Rattle.endpoint_model.specs.declared.entry.Entry.{Entry}
use Rattle.endpoint_model.specs.Views.{fact_in, out_in}
use Rattle.endpoint_model.specs.State.{Sessions, State, Did}
use Rattle.endpoint_laws.specs.Past.{fact_and}
use Rattle.endpoint_laws.specs.Contexts.{Secrets}
use Rattle.endpoint_laws.proofs.Kin.{HoldsSecrets}
use Rattle.flow_history.specs.Deeds.{Context, History}
use Rattle.flow_history.specs.Log.{Entry as Tell, log_of}
use Rattle.endpoint_handing.specs.Once.{HasBegun as HasStated}
use Rattle.endpoint_handing.specs.Told.{message_in, HasContext, AllHaveContext}
use Rattle.endpoint_handing.specs.Told.{sends_in, sending_context, told_at, facts_onto, told_onto}
use Rattle.endpoint_handing.proofs.Kept.{End, away, FlowsKept, HasKeys, PartCame, RowKept, HasStarted}
use Rattle.endpoint_handing.proofs.PartsHeld.{AllHeld}
use Rattle.rtmfp_fragments.specs.Held.{PacketParts}
use Rattle.flow_history.specs.Lawful.{WasSplitBy}
use Rattle.endpoint_handing.proofs.Kept.{Stands}
use Rattle.endpoint_handing.proofs.Kept.{grows_not, OutWent, OutsWent, Hands, Does}

-- ---- silent entries

pub record IsSilent (entry : Entry) : Type 0 where
  pub told : (own : List ℕ) (facts : List Fact) → told_at own facts entry ≡ []
  pub context : (own : List ℕ) (near : ℕ) (facts : List Fact) →
      sending_context own near (fact_and (fact_in entry) facts) ≡ sending_context own near facts
  pub out : (secrets : Secrets) (h : History) → OutWent secrets (out_in entry) h
  pub no_message : message_in entry ≡ None

abbrev pub AreSilent : List Entry → Type 0
AreSilent [] = Unit {0}
AreSilent (entry ∷ rest) = IsSilent entry × AreSilent rest

told_silent : (own : List ℕ) (entries : List Entry) (facts : List Fact) (before : List Tell) →
    AreSilent entries → told_onto own facts entries before ≡ before
told_silent own [] facts before are = refl
told_silent own (x ∷ xs) facts before are =
    ap (λ (t : List Tell). told_onto own (fact_and (fact_in x) facts) xs (t ++ before))
    (are.0.told own facts)
    ∙ told_silent own xs (fact_and (fact_in x) facts) before are.1

context_silent : (own : List ℕ) (near : ℕ) (entries : List Entry) (facts : List Fact) →
    AreSilent entries
    → sending_context own near (facts_onto entries facts) ≡ sending_context own near facts
context_silent own near [] facts are = refl
context_silent own near (x ∷ xs) facts are =
    context_silent own near xs (fact_and (fact_in x) facts) are.1 ∙ are.0.context own near facts

outs_silent : (secrets : Secrets) (entries : List Entry) (h : History) → AreSilent entries →
    OutsWent secrets entries h
outs_silent secrets [] h are = tt
outs_silent secrets (x ∷ xs) h are = (are.0.out secrets h, outs_silent secrets xs h are.1)

named_silent : (own : List ℕ) (entries : List Entry) (facts : List Fact) → AreSilent entries →
    AllHaveContext own facts entries
named_silent own [] facts are = tt
named_silent own (x ∷ xs) facts are = (
  subst (HasContext own facts) (sym are.0.no_message) tt,
  named_silent own xs (fact_and (fact_in x) facts) are.1,
)

-- what began has begun after further facts
stated_and : (begins : Fact → Type 0) (o : Option Fact) (facts : List Fact) →
    HasStated begins facts → HasStated begins (fact_and o facts)
stated_and begins None facts was = was
stated_and begins (Some fact) facts was = inr was

pub stated_later : (begins : Fact → Type 0) (entries : List Entry) (facts : List Fact) →
    HasStated begins facts → HasStated begins (facts_onto entries facts)
stated_later begins [] facts was = was
stated_later begins (x ∷ xs) facts was =
    stated_later begins xs (fact_and (fact_in x) facts) (stated_and begins (fact_in x) facts was)

pub started_later : (e : End) (entries : List Entry) (facts : List Fact) (c : Context) →
    HasStarted e facts c → HasStarted e (facts_onto entries facts) c
started_later e entries facts c (inl other) = inl other
started_later e entries facts c (inr own) = inr (stated_later _ entries facts own)

-- ---- rows that keep what they are and their flows

pub record IsSame (old new : Row) : Type 0 where
  pub joined : new.session.joined ≡ old.session.joined
  pub own : new.session.own ≡ old.session.own
  pub role : new.session.role ≡ old.session.role
  pub generation : new.session.generation ≡ old.session.generation
  pub inward : new.session.inward ≡ old.session.inward
  pub outward : new.session.outward ≡ old.session.outward
  pub flows : new.flows ≡ old.flows
  pub gathering : new.gathering ≡ old.gathering
  pub packets : old.packets ≤ new.packets

pub same_itself : (row : Row) → IsSame row row
same_itself row = record { joined = refl; own = refl; role = refl; generation = refl; inward = refl; outward = refl; flows = refl; gathering = refl; packets = omega arith }

pub same_then : (a b c : Row) → IsSame a b → IsSame b c → IsSame a c
same_then a b c p q = record {
  joined = q.joined ∙ p.joined;
  own = q.own ∙ p.own;
  role = q.role ∙ p.role;
  generation = q.generation ∙ p.generation;
  inward = q.inward ∙ p.inward;
  outward = q.outward ∙ p.outward;
  flows = q.flows ∙ p.flows;
  gathering = q.gathering ∙ p.gathering;
  packets = omega (arith, p.packets, q.packets);
}

pub away_same : (old new : SessionState) → new.joined ≡ old.joined → new.own ≡ old.own →
    new.role ≡ old.role → away new ≡ away old
away_same old new joined own role =
    ap (λ (j : Joined). sends_in new.role new.own j) joined
    ∙ ap (λ (o : List ℕ). sends_in new.role o old.joined) own
    ∙ ap (λ (r : Role). sends_in r old.own old.joined) role

pub keys_same : (secrets : Secrets) (old new : SessionState) → new.joined ≡ old.joined →
    new.own ≡ old.own → new.role ≡ old.role → new.generation ≡ old.generation →
    new.inward ≡ old.inward → new.outward ≡ old.outward → HasKeys secrets old →
    HasKeys secrets new
keys_same secrets old new joined own role generation inward outward k = record {
  secret = k.secret;
  known = ap (get secrets) generation ∙ k.known;
  keyed = keyed_same k.secret old new joined own role generation inward outward k.keyed;
}

module _ (e : End) (facts : List Fact) (near : ℕ) (h : History) where
  pub row_same : (old new : Row) → IsSame old new → RowKept e facts near old h →
      RowKept e facts near new h
  row_same old new same k =
      let context : away new.session ≡ away old.session =
      away_same old.session new.session same.joined same.own same.role in
      record {
        id = ap (λ (j : Joined). j.near) same.joined ∙ k.id;
        own = same.own ∙ k.own;
        keyed = keys_same e.secrets old.session new.session same.joined same.own same.role
            same.generation same.inward same.outward k.keyed;
        named = k.named ∙ ap (λ (c : Context). Some c) (sym context);
        flows = subst (λ (f : FlowsState). FlowsKept e.who (away new.session) f h) (sym same.flows)
            (subst (λ (c : Context). FlowsKept e.who c old.flows h) (sym context) k.flows);
        held = subst (λ (g : List PacketParts). AllHeld (PartCame e.who (away new.session) h) g) (sym same.gathering)
            (subst (λ (c : Context). AllHeld (PartCame e.who c h) old.gathering) (sym context) k.held);
        split = λ id was. omega (arith, same.packets, k.split id (subst (λ (c : Context). WasSplitBy e.who c id h) context was));
      }

  row_later : (entries : List Entry) (row : Row) → AreSilent entries → RowKept e facts near row h →
      RowKept e (facts_onto entries facts) near row h
  row_later entries row are k = record {
    id = k.id;
    own = k.own;
    keyed = k.keyed;
    named = context_silent e.own near entries facts are ∙ k.named;
    flows = k.flows;
    held = k.held;
    split = k.split;
  }

-- ---- states whose rows were there before

pub record Had (sessions : Sessions) (near : ℕ) (new : Row) : Type 0 where
  pub old : Row
  pub there : get sessions near ≡ Some old
  pub same : IsSame old new

abbrev pub AllHad : Sessions → Sessions → Type 0
AllHad old new = (near : ℕ) (row : Row) → get new near ≡ Some row → Had old near row

pub had_it : (m : Sessions) → AllHad m m
had_it m near row e = record { old = row; there = e; same = same_itself row }

pub had_row : (m : Sessions) (near : ℕ) (old new : Row) → get m near ≡ Some old → IsSame old new →
    AllHad m (insert m near new)
had_row m near old new is same q row e = elim (found_inserted m near new q row e) [
  | inl here ↦ record { old = old; there = ap (get m) here.0 ∙ is; same = subst (λ (r : Row). IsSame old r) here.1 same }
  | inr beside ↦ had_it m q row beside.1
]

pub had_left : (m : Sessions) (near : ℕ) → AllHad m (remove m near)
had_left m near q row e = had_it m q row (found_left m near q row e).1

-- The end is the same, and each session was there.
pub record IsAlike (s t : State) : Type 0 where
  pub own : t.startup.ledger.own ≡ s.startup.ledger.own
  pub holds : (secrets : Secrets) → HoldsSecrets secrets s → HoldsSecrets secrets t
  pub rows : AllHad s.sessions t.sessions

-- ---- silent things

module _ (e : End) (facts : List Fact) (s t : State) (entries : List Entry) (are : AreSilent entries) (alike : IsAlike s t) where
  pub stands_silent : (h : History) → Stands e facts s h → Stands e (facts_onto entries facts) t h
  stands_silent h stands = record {
    lawful = stands.lawful;
    honest = stands.honest;
    begun = λ c was. started_later e entries facts c (stands.begun c was);
    splits = stands.splits;
    state = record {
      own = alike.own ∙ stands.state.own;
      rows = λ near row there.
          (let was = alike.rows near row there in
          row_later e facts near h entries row are
          (row_same e facts near h was.old row was.same (stands.state.rows near was.old was.there)));
    };
    holds = alike.holds e.secrets stands.holds;
  }

  pub hands_silent : (h : History) → Stands e facts s h → Hands e facts (record { state = t; entries = entries }) h
  hands_silent h stands = record {
    after = h;
    grows = grows_not e.who h;
    stands = stands_silent h stands;
    log = sym (told_silent e.own entries facts (log_of h) are);
    named = named_silent e.own entries facts are;
    outs = outs_silent e.secrets entries h are;
    still = λ near. inr (context_silent e.own near entries facts are);
    order = λ b n asked was. was;
  }

  pub does_silent : Does e facts s (record { state = t; entries = entries })
  does_silent h stands new = hands_silent h stands

-- a thing after a silent change of the state
pub does_from : (e : End) (facts : List Fact) (s t : State) (d : Did) → IsAlike s t → Does e facts t d → Does e facts s d
does_from e facts s t d alike does h stands new = does h (stands_silent e facts s t [] tt alike h stands) new
