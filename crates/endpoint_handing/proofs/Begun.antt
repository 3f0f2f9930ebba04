-- A session begins: it is in a new context, and has no flows.
use Rattle.std.proofs.Common.{◌≡◌, ℕ, ◌==◌, List, [], ◌∷◌, Bool, true, false, if◌then◌else◌}
use Rattle.std.proofs.Common.{Some, inl, inr, refl, sym, ap, subst, ◌∙◌, arith}
use Rattle.std.proofs.lemmas.Bool.Decides.{nat_tests}
use Rattle.std.specs.FinMap.{get, insert}
use Rattle.rtmfp_base.proofs.Maps.{found_inserted}
use Rattle.rtmfp_forms.specs.Address.{AddressParts}
use Rattle.glare_core.specs.declared.facts.Fact.{Fact}
use Rattle.glare_core.specs.declared.facts.Fact.TheVariants.{Born, Opened}
use Rattle.glare_core.specs.declared.facts.Joined.{Joined}
use Rattle.crypto_profile.specs.declared.group.GroupSecret.{GroupSecret}
use Rattle.session_core.specs.declared.stage.Role.{Role}
use Rattle.session_core.specs.declared.stage.Role.TheVariants.{Initiator, Responder}
use Rattle.session_core.specs.Session.{SessionState, new_session}
use Rattle.session_core.proofs.Keyed.{keyed_begun}
use Rattle.endpoint_model.specs.declared.row.Row.{Row}
use Rattle.endpoint_model.specs.declared.entry.Entry.TheVariants.{Fact as FactEntry}
use Rattle.endpoint_model.specs.State.{Sessions, State, Did, new_row}
use Rattle.endpoint_laws.specs.Contexts.{Secrets}
use Rattle.endpoint_laws.specs.Groups.{HasSecret}
use Rattle.endpoint_laws.proofs.Kin.{HoldsSecrets}
use Rattle.flow_history.specs.Deeds.{Context, Begins, done, History}
use Rattle.flow_history.specs.Lawful.{HasBegun, WasSplitBy}
use Rattle.flow_history.proofs.Splitting.{split_begun, split_before, split_by_before}
use Rattle.endpoint_handing.proofs.PartsHeld.{held_wider}
use Rattle.endpoint_handing.proofs.Split.{split_by_is}
use Rattle.endpoint_handing.specs.Once.{SendsIn}
use Rattle.endpoint_handing.specs.Told.{sends_in, sending_context}
use Rattle.session_deeds.specs.Deeds.{none_yet}
use Rattle.session_deeds.proofs.Chunks.{none_at_first}
use Rattle.session_flows.specs.Keeping.{no_flows}
use Rattle.endpoint_handing.proofs.Kept.{End, away, FlowsKept, PartCame, RowKept, HasStarted, Stands, Does}
use Rattle.endpoint_handing.proofs.Deeding.{grows_by, kept_by, begins_leaves_be, begun_now}
use Rattle.endpoint_handing.proofs.Deeding.{begins_orders}
use Rattle.endpoint_handing.proofs.Silent.{AllHad, row_same}

-- the fact with which a session of this role begins
abbrev pub first_fact : Role → Joined → Fact
first_fact Initiator j = Opened j
first_fact Responder j = Born j

its_own : (near : ℕ) → (near == near) ≡ true
its_own near = grind (arith, nat_tests)

another : (near q : ℕ) → (q ≡ near → ⊥) → (near == q) ≡ false
another near q other = grind (arith, nat_tests)

-- ---- its context

sends_then : (own : List ℕ) (role : Role) (j : Joined) → SendsIn own (sends_in role own j) (first_fact role j)
sends_then own Initiator j = refl
sends_then own Responder j = refl

named_now : (own : List ℕ) (role : Role) (j : Joined) (facts : List Fact) → sending_context own j.near (first_fact role j ∷ facts) ≡ Some (sends_in role own j)
named_now own Initiator j facts = ap (λ (b : Bool). if b then Some (sends_in Initiator own j) else sending_context own j.near facts) (its_own j.near)
named_now own Responder j facts = ap (λ (b : Bool). if b then Some (sends_in Responder own j) else sending_context own j.near facts) (its_own j.near)

named_still : (own : List ℕ) (role : Role) (j : Joined) (facts : List Fact) (q : ℕ) → (q ≡ j.near → ⊥) → sending_context own q (first_fact role j ∷ facts) ≡ sending_context own q facts
named_still own Initiator j facts q other = ap (λ (b : Bool). if b then Some (sends_in Initiator own j) else sending_context own q facts) (another j.near q other)
named_still own Responder j facts q other = ap (λ (b : Bool). if b then Some (sends_in Responder own j) else sending_context own q facts) (another j.near q other)

-- the session ID in a context
abbrev near_in : Context → ℕ
near_in c = if c.to_responder then c.session.near_i else c.session.near_r

near_is : (role : Role) (own : List ℕ) (j : Joined) → near_in (sends_in role own j) ≡ j.near
near_is Initiator own j = refl
near_is Responder own j = refl

pub contexts_apart : (r p : Role) (own mine : List ℕ) (j k : Joined) → (k.near ≡ j.near → ⊥) → sends_in r own j ≡ sends_in p mine k → ⊥
contexts_apart r p own mine j k other e = other (sym (near_is p mine k) ∙ ap near_in (sym e) ∙ near_is r own j)

-- ---- it begins

-- under this secret of the group, which is one that the end has
module _ (e : End) (facts : List Fact) (s t : State) (role : Role) (j : Joined) (from : AddressParts) (g : GroupSecret) (moment : ℕ) (rest : Sessions) where
  abbrev session : SessionState
  session = new_session j t.startup.ledger.own role from g.generation g.secret moment

  abbrev begun : Did
  begun = record { state = t; entries = FactEntry (first_fact role j) ∷ [] }

  abbrev more : List Fact
  more = first_fact role j ∷ facts

  module _ (own : t.startup.ledger.own ≡ s.startup.ledger.own) (group : HoldsSecrets e.secrets s → HasSecret e.secrets g) (had : AllHad s.sessions rest) (is : t.sessions ≡ insert rest j.near (new_row session)) (h : History) (stands : Stands e facts s h) (anew : HasStarted e facts (sends_in role e.own j) → ⊥) where
    mine : t.startup.ledger.own ≡ e.own
    mine = own ∙ stands.state.own

    abbrev c : Context
    c = sends_in role e.own j

    context : away session ≡ c
    context = ap (λ (o : List ℕ). sends_in role o j) mine

    abbrev after : History
    after = done e.who (Begins c) ∷ h

    unsplit : (id : ℕ) → WasSplitBy e.who c id h → ⊥
    unsplit id was =
        let k = split_by_is e.who c id h was in
        anew (stands.begun c (split_begun c id k.0 k.1 h stands.lawful k.2))

    new_kept : RowKept e more j.near (new_row session) after
    new_kept = record {
      id = refl;
      own = mine;
      keyed = record {
        secret = g.secret;
        known = group stands.holds;
        keyed = keyed_begun refl g.generation j t.startup.ledger.own role from moment;
      };
      named = named_now e.own role j facts ∙ ap (λ (x : Context). Some x) (sym context);
      flows = subst (λ (x : Context). FlowsKept e.who x no_flows after) (sym context) (record {
        kept = none_yet;
        shows = none_at_first;
        sends = λ f. (begun_now e.who c h f).0;
        takes = λ f. (begun_now e.who c h f).1;
      });
      held = tt;
      split = λ id was. absurd (unsplit id (split_by_before e.who e.who (Begins c ∷ []) c id h (tt, tt) (subst (λ (x : Context). WasSplitBy e.who x id after) context was)));
    }

    old_kept : (q : ℕ) (row : Row) → (q ≡ j.near → ⊥) → RowKept e facts q row h → RowKept e more q row after
    old_kept q row other k = record {
      id = k.id;
      own = k.own;
      keyed = k.keyed;
      named = named_still e.own role j facts q other ∙ k.named;
      flows = kept_by e.who (away row.session) row.flows (Begins c) h
          (begins_leaves_be c (away row.session) (contexts_apart role row.session.role e.own row.session.own j row.session.joined (λ (same : row.session.joined.near ≡ j.near). other (sym k.id ∙ same)))) k.flows;
      held = held_wider (PartCame e.who (away row.session) h) (PartCame e.who (away row.session) after) row.gathering (λ id x came. inr came) k.held;
      split = λ id was. k.split id (split_by_before e.who e.who (Begins c ∷ []) (away row.session) id h (tt, tt) was);
    }

    rows_kept : (q : ℕ) (row : Row) → get t.sessions q ≡ Some row → RowKept e more q row after
    rows_kept q row there = elim (found_inserted rest j.near (new_row session) q row (subst (λ (m : Sessions). get m q ≡ Some row) is there)) [
      | inl here ↦ subst (λ (r : Row). RowKept e more q r after) here.1 (subst (λ (k : ℕ). RowKept e more k (new_row session) after) (sym here.0) new_kept)
      | inr beside ↦ (let was = had q row beside.1 in
          old_kept q row beside.0 (row_same e facts q h was.old row was.same (stands.state.rows q was.old was.there)))
    ]

    started : (d : Context) → HasBegun d after → HasStarted e more d
    started d (inl is_it) = inr (inl (subst (λ (x : Context). SendsIn e.own x (first_fact role j)) is_it (sends_then e.own role j)))
    started d (inr was) = earlier (stands.begun d was)
      where
        earlier : HasStarted e facts d → HasStarted e more d
        earlier (inl other) = inl other
        earlier (inr before) = inr (inr before)

  pub does_begin : e.begins → t.startup.ledger.own ≡ s.startup.ledger.own → ((secrets : Secrets) → HoldsSecrets secrets s → HoldsSecrets secrets t) → (HoldsSecrets e.secrets s → HasSecret e.secrets g) → AllHad s.sessions rest → t.sessions ≡ insert rest j.near (new_row session) → Does e facts s begun
  does_begin may own holds group had is h stands new =
      let context_of_it : Context = sends_in role e.own j in
      let later : History = done e.who (Begins context_of_it) ∷ h in
      let anew : HasStarted e facts context_of_it → ⊥ = new.0 context_of_it (sends_then e.own role j) in
      record {
        after = later;
        grows = grows_by e.who (Begins context_of_it) h;
        stands = record {
          lawful = ((λ was. new.0 context_of_it (sends_then e.own role j) (stands.begun context_of_it was)), stands.lawful);
          honest = (tt, stands.honest);
          begun = started own group had is h stands anew;
          splits = λ d id size packet was. inr (stands.splits d id size packet (split_before e.who (Begins context_of_it ∷ []) d id size packet h (tt, tt) was));
          state = record { own = own ∙ stands.state.own; rows = rows_kept own group had is h stands anew };
          holds = holds e.secrets stands.holds;
        };
        log = refl;
        named = (tt, tt);
        outs = (tt, tt);
        still = λ near. inl may;
        order = λ b n asked was. (begins_orders b n context_of_it, was);
      }
