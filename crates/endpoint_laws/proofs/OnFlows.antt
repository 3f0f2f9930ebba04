-- What an end does with the flows of a session: it states no fact and sends nothing, and the session in the row is changed to one like it.
use Rattle.std.proofs.Common.{◌≡◌, ℕ, List, [], ◌∷◌, map, Option, Some, None, refl, sym, subst, arith}
use Rattle.std.specs.FinMap.{get}
use Rattle.session_core.specs.Session.{SessionState}
use Rattle.session_flows.specs.Keeping.{Did as FlowsDid}
use Rattle.endpoint_model.specs.declared.row.Row.{Row}
use Rattle.endpoint_model.specs.declared.entry.Entry.{Entry}
use Rattle.endpoint_model.specs.Event.{Setup, Call}
use Rattle.endpoint_model.specs.FlowCall.{FlowCall, flow_did}
use Rattle.endpoint_model.specs.State.{State, Did, with_row}
use Rattle.endpoint_model.specs.InSessions.{held_row}
use Rattle.endpoint_model.specs.OnFlows.{flow_entry, flows_done, flow_called_by, flow_called}
use Rattle.endpoint_laws.specs.Contexts.{Secrets}
use Rattle.endpoint_laws.specs.Past.{Past, stamped, onto}
use Rattle.endpoint_laws.proofs.Unseen.{AreUnseen, flows_unseen}
use Rattle.endpoint_laws.proofs.Lines.{FactPart, FactMeets, OutPart, OutMeets, nothing_over, EntriesMeet}
use Rattle.endpoint_laws.proofs.Tied.{Tied}
use Rattle.endpoint_laws.proofs.Moving.{IsAlike, alike_itself, tied_session, tied_more}
use Rattle.endpoint_laws.proofs.Going.{Goes, Keeps, goes_nothing}
use Rattle.endpoint_laws.proofs.OutSends.{Sent, Meets, meets_nothing}
use Rattle.endpoint_laws.proofs.OutItems.{sent_session_changed, sent_quiet}
use Rattle.endpoint_laws.proofs.Hearing.{Descends, descends_same}
use Rattle.endpoint_laws.proofs.SessionChunks.{held_is_there}

-- ---- entries that are unseen

module _ (secrets : Secrets) (setup : Setup) (call : Call) (s : State) where
  facts_meet : (entries : List Entry) (past : Past) → AreUnseen entries → EntriesMeet FactPart secrets setup s.moment call past entries
  facts_meet [] past are = tt
  facts_meet (entry ∷ rest) past are = (
    (
      subst (FactMeets secrets setup s.moment call past rest) (sym are.0.no_fact) tt,
      nothing_over secrets setup s.moment call past _ _ _ _ _ are.0.no_closed are.0.no_sought are.0.no_unsought are.0.no_learnt are.0.no_advanced,
    ),
    facts_meet rest (stamped s.moment entry ∷ past) are.1,
  )

  outs_meet : (entries : List Entry) (past : Past) → AreUnseen entries → EntriesMeet OutPart secrets setup s.moment call past entries
  outs_meet [] past are = tt
  outs_meet (entry ∷ rest) past are = (subst (OutMeets secrets setup call past) (sym are.0.no_out) tt, outs_meet rest (stamped s.moment entry ∷ past) are.1)

  tied_unseen : (entries : List Entry) (past : Past) → AreUnseen entries → Tied secrets setup past s → Tied secrets setup (onto s.moment entries past) s
  tied_unseen [] past are tied = tied
  tied_unseen (entry ∷ rest) past are tied =
      tied_unseen rest (stamped s.moment entry ∷ past) are.1 (tied_more secrets setup past s (stamped s.moment entry) (omega arith) are.0.no_fact are.0.no_closed are.0.no_sought are.0.no_unsought are.0.no_learnt are.0.no_advanced tied)

  sent_unseen : (entries : List Entry) (past : Past) → AreUnseen entries → Sent secrets setup past s → Sent secrets setup (onto s.moment entries past) s
  sent_unseen [] past are sent = sent
  sent_unseen (entry ∷ rest) past are sent = sent_unseen rest (stamped s.moment entry ∷ past) are.1 (sent_quiet secrets setup past s sent (stamped s.moment entry) are.0.no_out are.0.no_fact are.0.no_sought)

-- ---- a row is changed, and nothing is seen of it

pub record IsLike (moment : ℕ) (old new : SessionState) : Type 0 where
  pub alike : IsAlike moment old new
  pub descends : Descends old new
  pub sealed : new.sealed ≡ old.sealed

pub like_itself : (moment : ℕ) (session : SessionState) → IsLike moment session session
like_itself moment session = record { alike = alike_itself moment session; descends = descends_same session; sealed = refl }

module _ (s : State) (near : ℕ) (old new : Row) (there : get s.sessions near ≡ Some old) (like : IsLike s.moment old.session new.session) (entries : List Entry) (are : AreUnseen entries) where
  abbrev changed : Did
  changed = record { state = with_row s near new; entries = entries }

  pub goes_unseen : (secrets : Secrets) (setup : Setup) (call : Call) → Keeps secrets setup call s changed
  goes_unseen secrets setup call past tied = record {
    meets = facts_meet secrets setup call s entries past are;
    tied = tied_session secrets setup (onto s.moment entries past) s near old new (tied_unseen secrets setup call s entries past are tied) there like.alike;
    moment = refl;
  }

  pub meets_unseen : (secrets : Secrets) (setup : Setup) (call : Call) (past : Past) → Sent secrets setup past s → Meets secrets setup s.moment call past changed
  meets_unseen secrets setup call past sent = record {
    lines = outs_meet secrets setup call s entries past are;
    sent = sent_session_changed secrets setup (onto s.moment entries past) s near old new (sent_unseen secrets setup call s entries past are sent) there like.alike.joined like.alike.own like.alike.role like.alike.generation like.sealed;
  }

-- ---- something that is done with the flows of a row

module _ (s : State) (near : ℕ) (row : Row) (there : get s.sessions near ≡ Some row) (d : FlowsDid) where
  abbrev did : Did
  did = flows_done s near row d

  pub goes_done : (secrets : Secrets) (setup : Setup) (call : Call) → Keeps secrets setup call s did
  goes_done = goes_unseen s near row (record row { flows = d.flows }) there (like_itself s.moment row.session) (map (flow_entry near) d.stated) (flows_unseen near d.stated)

  pub meets_done : (secrets : Secrets) (setup : Setup) (call : Call) (past : Past) → Sent secrets setup past s → Meets secrets setup s.moment call past did
  meets_done = meets_unseen s near row (record row { flows = d.flows }) there (like_itself s.moment row.session) (map (flow_entry near) d.stated) (flows_unseen near d.stated)

-- ---- a call

module _ (s : State) (near : ℕ) (c : FlowCall) where
  module _ (secrets : Secrets) (setup : Setup) (call : Call) (past : Past) where
    goes_by : (o : Option Row) → held_row s near ≡ o → Tied secrets setup past s → Goes secrets setup call past s (flow_called_by s near c o)
    goes_by None is tied = goes_nothing secrets setup call s past tied
    goes_by (Some row) is tied = goes_done s near row (held_is_there (get s.sessions near) row is).0 (flow_did row.flows c) secrets setup call past tied

    meets_by : (o : Option Row) → held_row s near ≡ o → Sent secrets setup past s → Meets secrets setup s.moment call past (flow_called_by s near c o)
    meets_by None is sent = meets_nothing secrets setup s.moment call past s sent
    meets_by (Some row) is sent = meets_done s near row (held_is_there (get s.sessions near) row is).0 (flow_did row.flows c) secrets setup call past sent

    pub goes_flow_called : Tied secrets setup past s → Goes secrets setup call past s (flow_called s near c)
    goes_flow_called tied = goes_by (held_row s near) refl tied

    pub meets_flow_called : Sent secrets setup past s → Meets secrets setup s.moment call past (flow_called s near c)
    meets_flow_called sent = meets_by (held_row s near) refl sent
