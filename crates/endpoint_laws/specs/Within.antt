-- How many flows the sessions of an end have, what their IDs are, and how much each flow holds; and
-- how many pieces of packets each session holds.
use Rattle.std.specs.Prelude.{ℕ, ◌≡◌, ◌+◌, ◌≤◌, true, false, List, Some}
use Rattle.std.specs.List.{AllByRecursion}
use Rattle.std.specs.FinMap.{get}
use Rattle.flow_recv.specs.Receiver.{Receiver, knows, end_of_first, held_in}
use Rattle.flow_send.specs.Sender.{Sender, bytes_held, fragments_held}
use Rattle.flow_send.specs.Steady.{AllShort}
use Rattle.session_flows.specs.Keeping.{FlowsState}
use Rattle.session_flows.specs.Laws.{IsSound}
use Rattle.rtmfp_fragments.specs.Held.{IsWithinLimits}
use Rattle.endpoint_model.specs.declared.row.Row.{Row}
use Rattle.endpoint_model.specs.Event.{Setup, Event}
use Rattle.endpoint_model.specs.State.{State}
use Rattle.endpoint_model.specs.FlowChunks.{owes_by}
use Rattle.endpoint_model.specs.Log.{StandsFor}

-- In every log, of each session: its sending flows have the IDs 0, 1, 2 and on, those of its
-- receiving ones rise, and there are at most 256 in either direction.
abbrev pub FlowsAreWithin : Type 0
FlowsAreWithin = (setup : Setup) (log : List Event) (s : State) (near : ℕ) (row : Row) →
    StandsFor setup log s → get s.sessions near ≡ Some row → IsSound row.flows

-- A sending flow holds at most 2,097,152 bytes and 65,536 fragments of messages that wait, each of
-- at most 1,000 bytes.
pub record SendsFew (s : Sender) : Type 0 where
  pub bytes : bytes_held s ≤ 2097152
  pub fragments : fragments_held s ≤ 65536
  pub each : AllShort s.rows

-- A receiving flow holds at most 3,145,728 bytes. Each number that was taken or given up is at most
-- 65,536 above the lowest missing one, so no more than so many are.
pub record TakesFew (r : Receiver) : Type 0 where
  pub bytes : held_in r.runs ≤ 3145728
  pub numbers : (n : ℕ) → knows r.spans n ≡ true → n ≤ end_of_first r.spans + 1 + 65536

pub record HoldFew (s : FlowsState) : Type 0 where
  pub sending : AllByRecursion (λ f. SendsFew f.sender) s.sending
  pub taking : AllByRecursion (λ t. TakesFew t.receiver) s.taking

-- In every log, each flow of each session.
abbrev pub FlowsHoldFew : Type 0
FlowsHoldFew = (setup : Setup) (log : List Event) (s : State) (near : ℕ) (row : Row) →
    StandsFor setup log s → get s.sessions near ≡ Some row → HoldFew row.flows

-- In every log, of each session: of the packets whose pieces it holds there are at most 4, no two
-- have one ID, and each has at most 64 pieces and 4,096 bytes.
abbrev pub PiecesHoldFew : Type 0
PiecesHoldFew = (setup : Setup) (log : List Event) (s : State) (near : ℕ) (row : Row) →
    StandsFor setup log s → get s.sessions near ≡ Some row → IsWithinLimits row.gathering

-- In every log, no session owes an ack: those of a call go out in it, or are given up.
abbrev pub NoAckIsOwed : Type 0
NoAckIsOwed = (setup : Setup) (log : List Event) (s : State) (near : ℕ) →
    StandsFor setup log s → owes_by (get s.sessions near) ≡ false
