-- Rows of what entries tell, and of the calls that open flows.
use Rattle.std.specs.Prelude.{ℕ, ◌≡◌, true, false, List, [], ◌∷◌, Some, None}
use Rattle.glare_core.specs.declared.facts.Fact.{Fact}
use Rattle.glare_core.specs.declared.facts.Fact.TheVariants.{Started, Born, Opened, Ended}
use Rattle.glare_core.specs.declared.facts.Joined.{Joined}
use Rattle.glare_core.specs.declared.facts.Why.TheVariants.{Near}
use Rattle.session_flows.specs.Told.{begins_with_a}
use Rattle.endpoint_model.specs.declared.entry.Entry.TheVariants as entry
use Rattle.session_flows.specs.declared.refusal.CallRefusal.TheVariants.{NoSession}
use Rattle.endpoint_model.specs.Event.{OnFlows, Done, Refused, Event}
use Rattle.endpoint_model.specs.FlowCall.{OpenFlow}
use Rattle.flow_history.specs.Deeds.{Context, Name}
use Rattle.flow_history.specs.Log.{Queued, Abandoned, Handed}
use Rattle.endpoint_handing.specs.Told.{sending_context, told_onto, AllHaveContext}
use Rattle.endpoint_handing.specs.Orders.{OpensIt}

-- ---- an end with fingerprint 1, and its sessions with the end with fingerprint 2

abbrev pub own : List ℕ
own = 1 ∷ []

-- under session ID 5 here and 7 there, with these nonces
abbrev pub joined : ℕ → ℕ → Joined
joined ni nr = record {
  peer = 2 ∷ [];
  n = 1;
  near = 5;
  far = 7;
  ni = ni ∷ [];
  nr = nr ∷ [];
  k = 0;
}

-- born here, it sends to the initiator
abbrev pub to_initiator : ℕ → ℕ → Context
to_initiator ni nr = record {
  session = record {
    ni = ni ∷ [];
    nr = nr ∷ [];
    initiator = 2 ∷ [];
    responder = 1 ∷ [];
    near_i = 7;
    near_r = 5;
  };
  to_responder = false;
}

-- what it takes goes to the responder
abbrev pub to_here : ℕ → ℕ → Context
to_here ni nr = record {
  session = record {
    ni = ni ∷ [];
    nr = nr ∷ [];
    initiator = 2 ∷ [];
    responder = 1 ∷ [];
    near_i = 7;
    near_r = 5;
  };
  to_responder = true;
}

-- opened here, it sends to the responder
abbrev pub to_responder : ℕ → ℕ → Context
to_responder ni nr = record {
  session = record {
    ni = ni ∷ [];
    nr = nr ∷ [];
    initiator = 1 ∷ [];
    responder = 2 ∷ [];
    near_i = 5;
    near_r = 7;
  };
  to_responder = true;
}

abbrev pub born : List Fact
born = Born (joined 3 4) ∷ []

abbrev pub flow_in : Context → ℕ → Name
flow_in context flow = record { context = context; flow = flow }

-- ---- the context of a session ID

pub record HasItsContext : Type 0 where
  pub of_born : sending_context own 5 born ≡ Some (to_initiator 3 4)
  pub of_opened : sending_context own 5 (Opened (joined 3 4) ∷ []) ≡ Some (to_responder 3 4)
  -- of the last one that began, whatever ended since
  pub of_last : sending_context own 5 (Opened (joined 6 8) ∷ born) ≡ Some (to_responder 6 8)
  pub of_ended : sending_context own 5 (Ended (2 ∷ []) 5 Near ∷ born) ≡ Some (to_initiator 3 4)
  -- an attempt has none, and no other session ID has this one
  pub of_started : sending_context own 5 (Started (2 ∷ []) 1 5 (3 ∷ []) ∷ []) ≡ None
  pub of_none : sending_context own 5 [] ≡ None
  pub of_other : sending_context own 7 born ≡ None

-- ---- what entries tell

pub record TellsOfFlows : Type 0 where
  -- queued and abandoned in a flow away from this end, handed over from one towards it
  pub queued : told_onto own born (entry.Queued 5 0 9 (4 ∷ []) ∷ []) []
      ≡ Queued (flow_in (to_initiator 3 4) 0) (record { number = 9; bytes = 4 ∷ [] }) ∷ []
  pub abandoned : told_onto own born (entry.Abandoned 5 1 9 ∷ []) []
      ≡ Abandoned (flow_in (to_initiator 3 4) 1) 9 ∷ []
  pub handed : told_onto own born (entry.Handed 5 0 9 (4 ∷ []) ∷ []) []
      ≡ Handed (flow_in (to_here 3 4) 0) (record { number = 9; bytes = 4 ∷ [] }) ∷ []
  -- the newest first
  pub newest : told_onto own born (entry.Abandoned 5 0 2 ∷ entry.Abandoned 5 0 3 ∷ []) []
      ≡ Abandoned (flow_in (to_initiator 3 4) 0) 3 ∷ Abandoned (flow_in (to_initiator 3 4) 0) 2
      ∷ []
  -- in a session that began in this event; before it nothing is told
  pub begun : told_onto own [] (entry.Fact (Born (joined 3 4)) ∷ entry.Abandoned 5 0 2 ∷ []) []
      ≡ Abandoned (flow_in (to_initiator 3 4) 0) 2 ∷ []
  pub early : told_onto own [] (entry.Abandoned 5 0 2 ∷ entry.Fact (Born (joined 3 4)) ∷ []) []
      ≡ []
  pub untold : AllHaveContext own [] (entry.Abandoned 5 0 2 ∷ []) → ⊥
  -- that a flow is opened or finished is no message
  pub no_message : told_onto own born (entry.FlowOpened 5 0 ∷ entry.Finished 5 0 3 ∷ []) [] ≡ []

-- ---- a call that opens a flow

abbrev pub opening : List ℕ → Event
opening metadata = record {
  moment = 0;
  call = OnFlows 5 (OpenFlow 2 metadata None);
  answer = Done;
  entries = entry.FlowOpened 5 0 ∷ [];
}

-- one that is refused opens none
abbrev pub refused : List ℕ → Event
refused metadata = record {
  moment = 0;
  call = OnFlows 5 (OpenFlow 2 metadata None);
  answer = Refused NoSession;
  entries = [];
}

pub record OpensFlows : Type 0 where
  pub opens : OpensIt (flow_in (to_initiator 3 4) 0) own born (opening (97 ∷ 5 ∷ [])) (97 ∷ 5 ∷ [])
  -- another flow, one of another context, other metadata, and nothing
  pub other_flow : OpensIt (flow_in (to_initiator 3 4) 1) own born (opening (97 ∷ [])) (97 ∷ []) →
      ⊥
  pub way_back : OpensIt (flow_in (to_here 3 4) 0) own born (opening (97 ∷ [])) (97 ∷ []) → ⊥
  pub other_metadata : OpensIt (flow_in (to_initiator 3 4) 0) own born (opening (97 ∷ [])) [] → ⊥
  pub not_opened : OpensIt (flow_in (to_initiator 3 4) 0) own born (refused (97 ∷ [])) (97 ∷ []) →
      ⊥
  -- in arrival order, and not
  pub arriving : begins_with_a (97 ∷ 5 ∷ []) ≡ true
  pub below : begins_with_a (96 ∷ 97 ∷ []) ≡ false
  pub above : begins_with_a (98 ∷ []) ≡ false
  pub empty : begins_with_a [] ≡ false
