-- A call of an end that is handed over as one value: which call of the log it is, and what it may
-- answer, add and leave.
use Rattle.std.specs.Prelude.{ℕ, ◌≡◌, ◌≤◌, ◌+◌, ◌++◌, List, [], ◌∷◌, length}
use Rattle.endpoint_model.specs.declared.config.Draws.{Draws}
use Rattle.endpoint.specs.declared.call.EndCall.{EndCall}
use Rattle.endpoint.specs.declared.call.EndCall.TheVariants as given
use Rattle.endpoint.specs.declared.call.Answered.{Answered}
use Rattle.endpoint.specs.declared.call.Answered.TheVariants as told
use Rattle.endpoint_model.specs.declared.entry.Entry.{Entry}
use Rattle.endpoint_model.specs.declared.entry.Entry.TheVariants as entry
use Rattle.endpoint_model.specs.Added.{Added}
use Rattle.endpoint_model.specs.FlowCall.{FlowCall, OpenFlow, Queue, Abandon, Finish}
use Rattle.endpoint_model.specs.Event.{Call, Open, Seek, Unseek, Cancel, Close, AddRow, Introduce, Narrow, Learn, Advance, OnFlows, Receive, Tick, Answer, Began, Searching, Done, Succeeds, NotOpened, NotSought, Refused, NotAdded, OutOfMemory, Event}
use Rattle.endpoint_model.specs.State.{State, at_moment}
use Rattle.endpoint_model.specs.Log.{Answers, event}

-- the call, with its draws
abbrev pub call_of : EndCall → Draws → Call
call_of (given.Open print candidates) draws = Open print.now candidates.now draws
call_of (given.Seek name candidates) draws = Seek name.now candidates.now draws
call_of (given.Unseek near) draws = Unseek near
call_of (given.Cancel n) draws = Cancel n
call_of (given.Close near) draws = Close near
call_of (given.OpenFlow near priority metadata answers) draws =
    OnFlows near (OpenFlow priority metadata.now answers)
call_of (given.Queue near flow message options) draws =
    OnFlows near (Queue flow message.now options)
call_of (given.Abandon near flow seq) draws = OnFlows near (Abandon flow seq)
call_of (given.Finish near flow) draws = OnFlows near (Finish flow)
call_of (given.AddRow print addresses) draws = AddRow print.now addresses.now
call_of given.Introduce draws = Introduce
call_of (given.Narrow limit) draws = Narrow limit
call_of (given.Learn secret) draws = Learn secret.now
call_of given.Advance draws = Advance
call_of given.Tick draws = Tick draws

-- The limit of a narrowing is one that an end may have.
abbrev pub IsWithin : EndCall → Type 0
IsWithin (given.Narrow limit) = (96 ≤ limit) × (limit ≤ 1164)
IsWithin call = Unit {0}

-- its moment, or 0 where it is given none
abbrev pub moment_given : Call → ℕ → ℕ
moment_given (Open peer candidates draws) moment = moment
moment_given (Seek name candidates draws) moment = moment
moment_given (Close near) moment = moment
moment_given (Receive from datagram draws) moment = moment
moment_given (Tick draws) moment = moment
moment_given call moment = 0

-- its answer, in which a log has no number of a flow or a message, since the entry has it
abbrev pub answer_of : Answered → Answer
answer_of (told.Began n) = Began n
answer_of (told.Searching near) = Searching near
answer_of (told.FlowOpened flow) = Done
answer_of (told.Queued seq) = Done
answer_of (told.Succeeds generation) = Succeeds generation
answer_of told.Done = Done
answer_of (told.NotOpened refusal) = NotOpened refusal
answer_of (told.NotSought refusal) = NotSought refusal
answer_of (told.Refused refusal) = Refused refusal
answer_of (told.NotAdded refusal) = NotAdded refusal
answer_of told.OutOfMemory = OutOfMemory

-- It gives no number of a flow or a message.
abbrev pub GivesNone : Answered → Type 0
GivesNone (told.FlowOpened flow) = ⊥
GivesNone (told.Queued seq) = ⊥
GivesNone answered = Unit {0}

-- A call on flows that is done gives the number that its entry tells, if it tells one.
abbrev pub Gives : ℕ → FlowCall → Answered → List Entry → Type 0
Gives near call (told.Refused refusal) entries = Unit {0}
Gives near (OpenFlow priority metadata answers) (told.FlowOpened flow) entries =
    entries ≡ entry.FlowOpened near flow ∷ []
Gives near (Queue flow message options) (told.Queued seq) entries =
    entries ≡ entry.Queued near flow seq message ∷ []
Gives near (Abandon flow seq) told.Done entries = Unit {0}
Gives near (Finish flow) told.Done entries = Unit {0}
Gives near call answered entries = ⊥

abbrev pub IsNumbered : Call → Answered → List Entry → Type 0
IsNumbered (OnFlows near call) answered entries = Gives near call answered entries
IsNumbered call answered entries = GivesNone answered

-- These entries were added, and the free room fell by a place for each of them at most.
pub record Adds (entries : List Entry) (before after : Added) : Type 0 where
  pub entries_are : after.entries ≡ before.entries ++ entries
  pub free : before.free ≤ after.free + length entries
  pub room : after.room ≡ before.room

-- The call was made in a state, at a moment: what it answered, left and added is what it may.
pub record Called (s : State) (moment : ℕ) (call : Call) (answered : Answered) (t : State)
    (before after : Added) : Type 0 where
  pub entries : List Entry
  pub answers : Answers (at_moment s (moment_given call moment)) call (answer_of answered) entries t
  pub numbered : IsNumbered call answered entries
  pub added : Adds entries before after

-- its event, by an outbox before and after it
abbrev pub called_event : ℕ → Call → Answered → List Entry → List Entry → Event
called_event moment call answered before after =
    event (moment_given call moment) call (answer_of answered) before after
