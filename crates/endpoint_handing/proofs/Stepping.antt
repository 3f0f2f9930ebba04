-- What a call of an end adds to a history of flows.
use Rattle.std.proofs.Common.{◌≡◌, ◌<◌, ◌^◌, List, [], length}
use Rattle.std.proofs.Common.{None, refl, sym, subst}
use Rattle.glare_core.specs.declared.facts.Fact.{Fact}
use Rattle.endpoint_model.specs.declared.entry.Entry.{Entry}
use Rattle.endpoint_model.specs.Event.{Call, Open, Seek, Unseek, Cancel, Close, AddRow, Introduce, Narrow}
use Rattle.endpoint_model.specs.Event.{Learn, Advance, OnFlows}
use Rattle.endpoint_model.specs.Event.{Receive, Tick}
use Rattle.endpoint_model.specs.Event.{Answer, Began, Searching, Done, Succeeds, NotOpened, NotSought, Refused, NotAdded, Stopped}
use Rattle.endpoint_model.specs.Event.{OutOfMemory}
use Rattle.endpoint_model.specs.State.{State, Did, Does as DoesSo, nothing, narrowing}
use Rattle.endpoint_model.specs.Admission.{admission}
use Rattle.endpoint_model.specs.Introducing.{with_redirect, introducing}
use Rattle.endpoint_model.specs.Succession.{next_group, learning, advancing}
use Rattle.endpoint_model.specs.InSessions.{closing}
use Rattle.endpoint_model.specs.OnFlows.{call_refusal, flow_called}
use Rattle.endpoint_model.specs.FlowTimes.{all_late}
use Rattle.endpoint_model.specs.Effects.{opening, seeking, unseeking, cancelling, ticks, received}
use Rattle.endpoint_model.specs.Log.{Answers, stopped}
use Rattle.flow_history.specs.Deeds.{History}
use Rattle.endpoint_laws.specs.Groups.{HasSecret}
use Rattle.endpoint_laws.proofs.Kin.{holds_still}
use Rattle.endpoint_handing.proofs.Kept.{End, Stands, AreNew, Hands, does_nothing}
use Rattle.endpoint_handing.proofs.Silent.{had_it, IsAlike, does_from}
use Rattle.endpoint_laws.proofs.Made.{cancelling_made, closing_made, opening_made, seeking_made, unseeking_made, tick_all_made}
use Rattle.endpoint_handing.proofs.Items.{quiet_does}
use Rattle.endpoint_handing.proofs.Chunks.{begins_does}
use Rattle.endpoint_handing.proofs.Owed.{FlowsHand, OpensAsAsked}
use Rattle.endpoint_handing.proofs.Receiving.{with_begins, Arrives, hands_received, hands_stopped}
use Rattle.endpoint_handing.proofs.Ticks.{timed_does}
use Rattle.endpoint_handing.proofs.Succeeding.{learning_does, advancing_does}

abbrev same_did : (d : Did) (t : State) (entries : List Entry) → DoesSo d t [] entries → d ≡ record { state = t; entries = entries }
same_did d t entries is = λ i. record { state = sym is.state i; entries = sym is.entries i }

module _ (e : End) (owed : (A : Type 0) → FlowsHand (with_begins e A)) (facts : List Fact) (s t : State) (entries : List Entry) (h : History) where
  abbrev it : End
  it = with_begins e (Unit {0})

  -- what is given with a call
  abbrev pub GivenWith : Call → Type 0
  GivenWith (Receive from datagram draws) = Arrives it s datagram h × (length draws.token < 2 ^ 16)
  GivenWith (Learn secret) = entries ≡ (learning s secret).entries → HasSecret e.secrets (next_group s secret)
  GivenWith (OnFlows near call) = call_refusal s near call ≡ None → entries ≡ (flow_called s near call).entries → OpensAsAsked it s near call
  GivenWith call = Unit {0}

  abbrev Result : Type 0
  Result = Hands it facts (record { state = t; entries = entries }) h

  by_did : (d : Did) → DoesSo d t [] entries → AreNew it facts entries → (AreNew it facts d.entries → Hands it facts d h) → Result
  by_did d is new hands = subst (λ (x : Did). Hands it facts x h) (same_did d t entries is) (hands (subst (λ (es : List Entry). AreNew it facts es) is.entries new))

  module _ (stands : Stands it facts s h) (new : AreNew it facts entries) where
    none : DoesSo (nothing s) t [] entries → Result
    none is = by_did (nothing s) is new (does_nothing it facts s h stands)

    -- a change that nothing is seen of
    changed : (u : State) → IsAlike s u → DoesSo (nothing u) t [] entries → Result
    changed u alike is = by_did (nothing u) is new (does_from it facts s u (nothing u) alike (does_nothing it facts u) h stands)

    pub answers_hand : (call : Call) (answer : Answer) → GivenWith call → Answers s call answer entries t → Result
    answers_hand (Open peer candidates draws) (Began n) given is = by_did (opening s peer candidates draws) is.2 new (opening_made (quiet_does it) (begins_does it tt) s peer candidates draws facts h stands)
    answers_hand (Open peer candidates draws) (NotOpened refusal) given is = none is.1
    answers_hand (Seek name candidates draws) (Searching near) given is = by_did (seeking s name candidates draws) is.2 new (seeking_made (quiet_does it) (begins_does it tt) s name candidates draws facts h stands)
    answers_hand (Seek name candidates draws) (NotSought refusal) given is = none is.1
    answers_hand (Unseek near) Done given is = by_did (unseeking s near) is.1 new (unseeking_made (quiet_does it) s near facts h stands)
    answers_hand (Unseek near) (Refused refusal) given is = none is.1
    answers_hand (Cancel n) Done given is = by_did (cancelling s n) is.1 new (cancelling_made (quiet_does it) s n facts h stands)
    answers_hand (Cancel n) (Refused refusal) given is = none is.2
    answers_hand (Close near) Done given is = by_did (closing s near) is.1 new (closing_made (quiet_does it) s near facts h stands)
    answers_hand (Close near) (Refused refusal) given is = none is.2
    answers_hand (AddRow print addresses) Done given is = changed (with_redirect s print addresses) (record { own = refl; holds = λ secrets holds. holds_still secrets s _ holds refl refl refl; rows = had_it s.sessions }) is.1
    answers_hand (AddRow print addresses) (NotAdded refusal) given is = none is.1
    answers_hand Introduce Done given is = changed (introducing s) (record { own = refl; holds = λ secrets holds. holds_still secrets s _ holds refl refl refl; rows = had_it s.sessions }) is
    answers_hand (Narrow limit) Done given is = changed (narrowing s limit) (record { own = refl; holds = λ secrets holds. holds_still secrets s _ holds refl refl refl; rows = had_it s.sessions }) is
    answers_hand (Learn secret) (Succeeds generation) given is = by_did (learning s secret) is.2 new (learning_does it facts s secret (given is.2.entries) h stands)
    answers_hand (Learn secret) (Refused refusal) given is = none is.1
    answers_hand Advance (Succeeds generation) given is = by_did (advancing s) is.2 new (advancing_does it facts s h stands)
    answers_hand Advance (Refused refusal) given is = none is.1
    answers_hand (OnFlows near call) Done given is =
        by_did (flow_called s near call) is.1 new ((owed (Unit {0})).called facts s near call is.0 (given is.0 is.1.entries) h stands)
    answers_hand (OnFlows near call) (Refused refusal) given is = none is.1
    answers_hand (Receive from datagram draws) Done given is = by_did (received from draws (admission s datagram)) is new (hands_received e owed from draws facts s datagram h given.1 given.0 stands)
    answers_hand (Receive from datagram draws) (Stopped stop) given is =
        by_did (stopped s from draws (admission s datagram) stop is.acks) is.left new (hands_stopped e owed from draws facts s datagram h given.1 given.0 stands stop is.acks)
    answers_hand (Tick draws) Done given is = by_did (ticks is.0.0 (all_late s)) is.0.1 new (tick_all_made (timed_does it (owed (Unit {0}))) is.0.0 s facts h stands)
    answers_hand (Tick draws) OutOfMemory given is = by_did (ticks is.0.0 (all_late s)) is.0.1 new (tick_all_made (timed_does it (owed (Unit {0}))) is.0.0 s facts h stands)
    answers_hand _ _ given is = absurd is
