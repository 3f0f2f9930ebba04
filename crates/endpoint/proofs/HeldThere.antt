-- What holds of each state that calls lead to, by the laws of all logs.
use Rattle.std.proofs.Common.{◌≡◌, ℕ, ◌≤◌, List, [], ◌∷◌, Bool, cond, Option, Some, None, inl, inr, ◌⊎◌, sym, subst, ◌∙◌}
use Rattle.glare_core.specs.declared.facts.Fact.{Fact}
use Rattle.glare_core.specs.declared.facts.Fact.TheVariants.{Started, Born, Opened, Confirmed, Ended}
use Rattle.glare_core.specs.declared.facts.Joined.{Joined}
use Rattle.glare_core.specs.declared.facts.Held.{Held}
use Rattle.glare_core.specs.declared.facts.Held.TheVariants.{Opening as AttemptHeld, HalfOpen, KeptAsResponder, KeptAsInitiator}
use Rattle.glare_core.specs.Standing.{peer_of, opened, confirmed, after, held}
use Rattle.glare_core.specs.Things.{IsSession}
use Rattle.glare_core.specs.Ledger.{held_with, row_count}
use Rattle.glare_core.proofs.Tails.{same_end}
use Rattle.session_core.specs.declared.stage.Role.{Role}
use Rattle.session_core.specs.declared.stage.Role.TheVariants.{Initiator, Responder}
use Rattle.session_core.specs.declared.stage.Stage.{Stage}
use Rattle.session_core.specs.declared.stage.Stage.TheVariants.{Opening, Open, NearClose, FarLinger, Closed}
use Rattle.session_core.specs.Session.{SessionState}
use Rattle.endpoint_model.specs.declared.config.Config.{Config}
use Rattle.endpoint_model.specs.State.{State, uses}
use Rattle.endpoint_laws.specs.Past.{Past, facts_of, past_of, last_moment}
use Rattle.startup.specs.declared.aim.Aim.{Aim}
use Rattle.startup.specs.declared.aim.Aim.TheVariants.{AtPeer, ByName}
use Rattle.startup.specs.Aims.{IsHeldAs}
use Rattle.startup.specs.State.{AttemptState}
use Rattle.endpoint_laws.specs.OfTheLog.{IsOfAim, IsThing, SessionStands, IsClosingStage, IsOfTheLog, TheStateIsOfTheLog}
use Rattle.endpoint_laws.specs.Within.{FlowsAreWithin, FlowsHoldFew, NoAckIsOwed, PiecesHoldFew}
use Rattle.endpoint.specs.Reached.{IsReached}
use Rattle.endpoint.proofs.Reaching.{tied_there}
use Rattle.endpoint.specs.Holding.{SessionIsHeld, SessionIsThere, HoldsWhatIsThere, AllFlowsAreWithin, AllFlowsHoldFew, AllPiecesHoldFew, NoneOwesAcks}

-- ---- how many there are

pub few_uses : (s : State) → IsReached s → uses s ≤ s.config.max_sessions
few_uses s is =
    let tied = (tied_there s is).tied in
    subst (λ (config : Config). uses s ≤ config.max_sessions) (sym tied.config) tied.within

pub few_rows : (s : State) → IsReached s → row_count s.startup.ledger ≤ s.config.max_peers
few_rows s is =
    let tied = (tied_there s is).tied in
    subst (λ (config : Config). row_count s.startup.ledger ≤ config.max_peers) (sym tied.config) tied.rows

pub flows_within : FlowsAreWithin → (s : State) → IsReached s → AllFlowsAreWithin s
flows_within law s is near row there = law is.setup is.log s near row is.stands there

pub flows_few : FlowsHoldFew → (s : State) → IsReached s → AllFlowsHoldFew s
flows_few law s is near row there = law is.setup is.log s near row is.stands there

pub pieces_few : PiecesHoldFew → (s : State) → IsReached s → AllPiecesHoldFew s
pieces_few law s is near row there = law is.setup is.log s near row is.stands there

pub none_owed : NoAckIsOwed → (s : State) → IsReached s → NoneOwesAcks s
none_owed law s is near = law is.setup is.log s near is.stands

-- ---- a session is held with its own peer

abbrev OfPeer : List ℕ → Option Held → Type 0
OfPeer peer None = Unit {0}
OfPeer peer (Some (AttemptHeld n near ni)) = Unit {0}
OfPeer peer (Some (HalfOpen j)) = j.peer ≡ peer
OfPeer peer (Some (KeptAsResponder j)) = j.peer ≡ peer
OfPeer peer (Some (KeptAsInitiator j)) = j.peer ≡ peer

opened_of : (peer : List ℕ) (j : Joined) (o : Option Held) → j.peer ≡ peer → OfPeer peer o → OfPeer peer (opened j o)
opened_of peer j None is of = tt
opened_of peer j (Some (AttemptHeld n near ni)) is of = is
opened_of peer j (Some (HalfOpen h)) is of = of
opened_of peer j (Some (KeptAsResponder h)) is of = of
opened_of peer j (Some (KeptAsInitiator h)) is of = of

confirmed_of : (peer : List ℕ) (o : Option Held) → OfPeer peer o → OfPeer peer (confirmed o)
confirmed_of peer None of = tt
confirmed_of peer (Some (AttemptHeld n near ni)) of = tt
confirmed_of peer (Some (HalfOpen j)) of = of
confirmed_of peer (Some (KeptAsResponder j)) of = of
confirmed_of peer (Some (KeptAsInitiator j)) of = of

after_of : (peer : List ℕ) (fact : Fact) (o : Option Held) → peer_of fact ≡ peer → OfPeer peer o → OfPeer peer (after fact o)
after_of peer (Started p n near ni) o is of = tt
after_of peer (Born j) o is of = is
after_of peer (Opened j) o is of = opened_of peer j o is of
after_of peer (Confirmed p near) o is of = confirmed_of peer o of
after_of peer (Ended p near why) o is of = tt

held_of : (peer : List ℕ) (facts : List Fact) → OfPeer peer (held peer facts)
held_of peer [] = tt
held_of peer (fact ∷ earlier) = elim (same_end (peer_of fact) peer) [
  | inl same ↦ subst (λ (b : Bool). OfPeer peer (cond b (after fact (held peer earlier)) (held peer earlier))) (sym same.1) (after_of peer fact (held peer earlier) same.0 (held_of peer earlier))
  | inr other ↦ subst (λ (b : Bool). OfPeer peer (cond b (after fact (held peer earlier)) (held peer earlier))) (sym other.1) (held_of peer earlier)
]

peer_is : (peer : List ℕ) (role : Role) (stage : Stage) (j : Joined) (thing : Held) → IsThing role stage j thing → OfPeer peer (Some thing) → j.peer ≡ peer
peer_is peer Initiator Opening j thing is of = absurd is
peer_is peer Initiator Open j thing is of = subst (λ (x : Held). OfPeer peer (Some x)) is of
peer_is peer Initiator NearClose j thing is of = absurd is
peer_is peer Initiator FarLinger j thing is of = absurd is
peer_is peer Initiator Closed j thing is of = absurd is
peer_is peer Responder Opening j thing is of = subst (λ (x : Held). OfPeer peer (Some x)) is of
peer_is peer Responder Open j thing is of = subst (λ (x : Held). OfPeer peer (Some x)) is of
peer_is peer Responder NearClose j thing is of = absurd is
peer_is peer Responder FarLinger j thing is of = absurd is
peer_is peer Responder Closed j thing is of = absurd is

-- ---- what is held is there

module _ (law : TheStateIsOfTheLog) (s : State) (is : IsReached s) where
  abbrev past : Past
  past = past_of 0 [] is.log

  of_log : IsOfTheLog is.setup s (last_moment 0 is.log) past
  of_log = law is.setup is.log s is.sizes is.calls is.stands

  stands_so : (near : ℕ) (x : SessionState) → SessionStands past near x → SessionIsHeld s.startup.ledger x ⊎ IsClosingStage x.stage
  stands_so near x (inl h) = inl (record { thing = h.0; is = h.1; is_held = of_log.held_is x.joined.peer ∙ h.2 })
  stands_so near x (inr c) = inr c.0

  session_there : (peer : List ℕ) (thing : Held) → held_with s.startup.ledger peer ≡ Some thing → IsSession thing → SessionIsThere s peer thing
  session_there peer thing e session =
      let said : held peer (facts_of past) ≡ Some thing = sym (of_log.held_is peer) ∙ e in
      let found = of_log.sessions_there peer thing said session in
      let x : SessionState = found.row.session in
      record {
        row = found.row;
        there = found.there;
        peer_is = peer_is peer x.role x.stage x.joined thing found.is (subst (λ (o : Option Held). OfPeer peer o) said (held_of peer (facts_of past)));
        is = found.is;
      }

  attempt_held : (near : ℕ) (a : AttemptState) (aim : Aim) → IsOfAim past near a aim → IsHeldAs s.startup.ledger near a.ni aim
  attempt_held near a (AtPeer peer n) is = of_log.held_is peer ∙ is.0
  attempt_held near a (ByName name) is = tt

  pub held_there : HoldsWhatIsThere s
  held_there = record {
    attempts = λ near a e. attempt_held near a a.aim (of_log.attempts near a e);
    attempts_there = λ peer n near ni e. of_log.attempts_there peer n near ni (sym (of_log.held_is peer) ∙ e);
    sessions = λ near row e. stands_so near row.session (of_log.sessions near row e).stands;
    sessions_there = session_there;
    ids = λ near row e. (of_log.sessions near row e).id;
    apart = (tied_there s is).tied.apart;
  }
