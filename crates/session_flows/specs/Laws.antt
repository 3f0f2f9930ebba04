-- What the definitions amount to, over all flows of a session.
use Rattle.std.specs.Prelude.{ℕ, ◌≡◌, ◌+◌, ◌<◌, ◌≤◌, ◌⊎◌, true, false, map, MatchOption, List}
use Rattle.std.specs.Prelude.{[], ◌∷◌, Option, Some, None, length}
use Rattle.std.specs.List.{filter}
use Rattle.rtmfp_data_chunks.specs.Runs.{Run}
use Rattle.rtmfp_data_chunks.specs.HandsOver.{IsIn}
use Rattle.flow_recv.specs.Receiver.{may_hand, next_run}
use Rattle.flow_send.specs.Sender.{Sender}
use Rattle.flow_send.specs.Flow.{Flow}
use Rattle.session_core.specs.Session.{SessionState}
use Rattle.session_flows.specs.declared.taking.TakingFlow.{TakingFlow}
use Rattle.session_flows.specs.declared.pace.Pace.{Pace}
use Rattle.session_flows.specs.Keeping.{FlowsState, may_be_due, taking_at, Stated, Handed}
use Rattle.session_flows.specs.Timing.{is_any_late, after_late, overdue_in}
use Rattle.session_flows.specs.Handing.{hands_all}
use Rattle.session_flows.specs.Chunks.{without_messages}
use Rattle.session_flows.specs.Packing.{may_send, first_to_send, Packing, packed_once}
use Rattle.session_flows.specs.Packing.{session_flight, left_to_send, is_data_due}

-- ---- what is so of every session's flows

-- each has the ID of its place, from one on
abbrev pub AreNumbered : ℕ → List Flow → Type 0
AreNumbered n [] = Unit {0}
AreNumbered n (f ∷ later) = (f.id ≡ n) × AreNumbered (n + 1) later

-- the IDs rise, from one on
abbrev pub Rise : ℕ → List TakingFlow → Type 0
Rise low [] = Unit {0}
Rise low (t ∷ later) = (low ≤ t.id) × Rise (t.id + 1) later

-- at most 256 in either direction
pub record IsSound (s : FlowsState) : Type 0 where
  pub numbered : AreNumbered 0 s.sending
  pub few : length s.sending ≤ 256
  pub rise : Rise 0 s.taking
  pub few_taking : length s.taking ≤ 256

-- ---- which flow sends

-- A flow sends before another one where its priority is higher, or as high and its ID isn't higher.
abbrev pub SendsBefore : Flow → Flow → Type 0
SendsBefore f g = (g.priority < f.priority) ⊎ ((g.priority ≡ f.priority) × (f.id ≤ g.id))

-- it may send, and does so before all others that may
pub record IsNextOf (pace : Pace) (sending : List Flow) (f : Flow) : Type 0 where
  pub is_in : IsIn f sending
  pub may : may_send pace f ≡ true
  pub before : (g : Flow) → IsIn g sending → may_send pace g ≡ true → SendsBefore f g

-- none may send
abbrev pub NoneMaySend : Pace → List Flow → Type 0
NoneMaySend pace sending = (g : Flow) → IsIn g sending → may_send pace g ≡ false

abbrev pub TheNextSends : Type 0
TheNextSends = (pace : Pace) (sending : List Flow) → AreNumbered 0 sending →
    MatchOption (first_to_send pace sending) (NoneMaySend pace sending)
    (λ f. IsNextOf pace sending f)

-- ---- the session's window

-- A chunk that goes leaves no more bytes in flight than the window has.
abbrev pub StaysWithin : Type 0
StaysWithin = (pace : Pace) (p q : Packing) → AreNumbered 0 p.sending →
    packed_once pace p ≡ Some q → session_flight q.sending ≤ pace.window

-- ---- that packing ends

-- A chunk that goes takes one from what is left to send.
abbrev pub TakesOne : Type 0
TakesOne = (pace : Pace) (p q : Packing) → AreNumbered 0 p.sending → 0 < pace.resend_after →
    packed_once pace p ≡ Some q → left_to_send pace p.sending ≡ left_to_send pace q.sending + 1

-- ---- flows that are idle

-- Nothing of them is lost by time at the moment, no message is overdue, and none sends.
pub record HasNothingDue (session : SessionState) (s : FlowsState) (moment : ℕ) : Type 0 where
  pub late : is_any_late session s moment ≡ false
  pub stays : after_late session s moment ≡ s
  pub overdue : overdue_in session s moment ≡ None
  pub sends : is_data_due session s moment ≡ false

abbrev pub IdleHaveNothingDue : Type 0
IdleHaveNothingDue = (session : SessionState) (s : FlowsState) (moment : ℕ) →
    may_be_due s ≡ false → HasNothingDue session s moment

-- ---- what is handed over

-- each of these runs, in their order, as a message of the flow
abbrev pub handed_runs : ℕ → List Run → List Stated
handed_runs id runs = map (λ (y : Run). Handed id y.first y.bytes) runs

-- All runs that may be handed over are, by rising numbers, and no others.
abbrev pub HandsAllThatAreReady : Type 0
HandsAllThatAreReady = (s : FlowsState) (id : ℕ) (t : TakingFlow) → taking_at s id ≡ Some t →
    (hands_all s id).stated
    ≡ handed_runs id (filter (may_hand t.receiver) t.receiver.runs)

-- Then none is ready.
abbrev pub none_ready_by : Option TakingFlow → Option Run
none_ready_by None = None
none_ready_by (Some t) = next_run t.receiver

abbrev pub LeavesNothingReady : Type 0
LeavesNothingReady = (s : FlowsState) (id : ℕ) →
    none_ready_by (taking_at (hands_all s id).flows id) ≡ None

-- ---- an exception

-- no message of the flow waits any more
abbrev pub LeavesNoMessage : Type 0
LeavesNoMessage = (s : Sender) → (without_messages s).waiting ≡ []
