-- The log of an end: its calls, their answers and what they added, and the states that it leads to.
use Rattle.std.specs.Prelude.{ℕ, ◌+◌, ◌<◌, ◌≡◌, ◌⊎◌, true, false, if◌then◌else◌, List, [], ◌∷◌, ◌++◌, drop, length, Option, Some, None, IsSome, IfSome, IfNone, OnOk, IfErr, IsOk, ◌≤◌, Result, Ok, Err}
use Rattle.rtmfp_base.specs.declared.memory.Memory.{Memory}
use Rattle.rtmfp_forms.specs.Address.{AddressParts}
use Rattle.rtmfp_packet.specs.Whole.{Whole}
use Rattle.startup.specs.Attempts.{cancel_fact}
use Rattle.endpoint_model.specs.declared.config.Draws.{Draws}
use Rattle.endpoint_model.specs.declared.entry.Entry.{Entry}
use Rattle.endpoint_model.specs.declared.answers.OpenRefusal.{OpenRefusal}
use Rattle.endpoint_model.specs.declared.answers.OpenRefusal.TheVariants.{Memory as NoMemoryToOpen}
use Rattle.endpoint_model.specs.declared.answers.SeekRefusal.{SeekRefusal}
use Rattle.endpoint_model.specs.declared.answers.SeekRefusal.TheVariants.{Memory as NoMemoryToSeek}
use Rattle.session_flows.specs.declared.refusal.CallRefusal.{CallRefusal}
use Rattle.session_flows.specs.declared.refusal.CallRefusal.TheVariants.{NoAttempt, NoSession, Memory as NoMemory}
use Rattle.endpoint_model.specs.declared.answers.Stopped.{Stopped as Stop}
use Rattle.introducer.specs.declared.refusal.RowRefusal.{RowRefusal}
use Rattle.introducer.specs.declared.refusal.RowRefusal.TheVariants.{Memory as NoMemoryForRow}
use Rattle.introducer.specs.Directory.{row_refusal}
use Rattle.endpoint_model.specs.Event.{Setup, Call, Open, Seek, Unseek, Cancel, Close, AddRow, Introduce, Narrow, Learn, Advance, OnFlows, Receive, Tick, Answer, Began, Searching, Done, Succeeds, NotOpened, NotSought, Refused, NotAdded, Stopped, OutOfMemory, Event}
use Rattle.endpoint_model.specs.Added.{Added}
use Rattle.endpoint_model.specs.State.{State, Did, Does, nothing, fresh, at_moment, narrowing, free_from, Done as DoneIn}
use Rattle.endpoint_model.specs.Admission.{Admission, Rejected, Admitted, admission, confirms, confirming}
use Rattle.endpoint_model.specs.Introducing.{with_redirect, introducing}
use Rattle.endpoint_model.specs.Succession.{learn_refusal, learning, advance_refusal, advancing}
use Rattle.endpoint_model.specs.InSessions.{held_row, closing, asks_at}
use Rattle.endpoint_model.specs.FlowCall.{FlowCall}
use Rattle.endpoint_model.specs.OnFlows.{call_refusal, flow_called}
use Rattle.endpoint_model.specs.FlowChunks.{owes_at}
use Rattle.endpoint_model.specs.declared.place.Place.{Place}
use Rattle.endpoint_model.specs.Effects.{open_refusal, opening, seek_refusal, seeking, unseek_refusal, unseeking, cancelling, ticks, WalkStep, walk_of, walked_and_acked, received, part_received, AddsDiscards, discards, first_due}
use Rattle.endpoint_model.specs.FlowTimes.{all_late}

-- ---- what a call may answer, add and leave, from a state in which its moment is noted

-- the answer to an open that found no memory, or is refused
abbrev pub not_opened : Option OpenRefusal → OpenRefusal
not_opened None = NoMemoryToOpen
not_opened (Some refusal) = refusal

-- the same of a seek
abbrev pub not_sought : Option SeekRefusal → SeekRefusal
not_sought None = NoMemoryToSeek
not_sought (Some refusal) = refusal

-- the same of a row that isn't added
abbrev pub not_added : Option RowRefusal → RowRefusal
not_added None = NoMemoryForRow
not_added (Some refusal) = refusal

-- and of another call
abbrev pub not_called : Option CallRefusal → CallRefusal
not_called None = NoMemory
not_called (Some refusal) = refusal

-- No memory was found before the datagram was taken: for the discard of one that is refused, or for
-- the Confirmed of one that confirms a session.
abbrev pub IsStopBefore : Admission → Type 0
IsStopBefore (Rejected s cause) = Unit {0}
IsStopBefore (Admitted s place packet) = confirms s place ≡ true

-- One more packet of acks is owed, or the address is to be tested.
abbrev pub WantsMore : AddressParts → Place → State → Type 0
WantsMore from place s = (owes_at s place ≡ true) ⊎ (asks_at s place from ≡ true)

-- Behind the confirming, no memory was found at a chunk, which isn't gone through; or, after the
-- last one and after so many packets of acks, for one more packet that is owed, or for the test of
-- the address.
abbrev pub StopsAt : Place → AddressParts → Draws → State → List WalkStep → ℕ → ℕ → Type 0
StopsAt place from draws s xs count acks = ((count < length xs) × (acks ≡ 0)) ⊎
    ((count ≡ length xs) ×
    WantsMore from place (walked_and_acked place from draws s xs acks).state)

-- a datagram that was taken stops so, once its session is confirmed
abbrev pub IsStopAt : AddressParts → Draws → Admission → ℕ → ℕ → Type 0
IsStopAt from draws (Rejected s cause) count acks = ⊥
IsStopAt from draws (Admitted s place packet) count acks =
    StopsAt place from draws (confirming s place).state
    (walk_of place from draws (confirming s place).state packet) count acks

-- the answer where the datagram wasn't taken
abbrev pub not_taken : Stop
not_taken = record { taken = false; chunks = 0 }

-- what was done of a datagram that found no memory: nothing, or the chunks and then so many packets
-- of acks before what found none
abbrev pub stopped : State → AddressParts → Draws → Admission → Stop → ℕ → Did
stopped s from draws a stop acks = if stop.taken then part_received from draws a stop.chunks acks
    else nothing s

-- where a datagram can be stopped, and that it was done so far
pub record StopsSo (Left : Did → Type 0) (s : State) (from : AddressParts) (draws : Draws)
    (a : Admission) (stop : Stop) : Type 0 where
  pub acks : ℕ
  pub taken : stop.taken ≡ true → IsStopAt from draws a stop.chunks acks
  pub not_taken : stop.taken ≡ false → IsStopBefore a × (stop.chunks ≡ 0)
  pub left : Left (stopped s from draws a stop acks)

-- Numbers that are lost by time were marked, and then some things of a tick were done.
abbrev pub SomeTicks : State → State → List Entry → Type 0
SomeTicks s t entries = (count : ℕ) × Does (ticks count (all_late s)) t [] entries

abbrev pub Answers : State → Call → Answer → List Entry → State → Type 0
Answers s (Open peer candidates draws) (Began n) entries t =
    (open_refusal s peer candidates ≡ None) × (n ≡ s.startup.ledger.started + 1) ×
    Does (opening s peer candidates draws) t [] entries
Answers s (Open peer candidates draws) (NotOpened refusal) entries t =
    (refusal ≡ not_opened (open_refusal s peer candidates)) × Does (nothing s) t [] entries
Answers s (Seek name candidates draws) (Searching near) entries t =
    (seek_refusal s candidates ≡ None) × (near ≡ free_from s draws.word) ×
    Does (seeking s name candidates draws) t [] entries
Answers s (Seek name candidates draws) (NotSought refusal) entries t =
    (refusal ≡ not_sought (seek_refusal s candidates)) × Does (nothing s) t [] entries
Answers s (Unseek near) Done entries t = (unseek_refusal s near ≡ None) ×
    Does (unseeking s near) t [] entries
Answers s (Unseek near) (Refused refusal) entries t =
    (refusal ≡ not_called (unseek_refusal s near)) × Does (nothing s) t [] entries
Answers s (Cancel n) Done entries t = IsSome (cancel_fact s.startup n) ×
    Does (cancelling s n) t [] entries
Answers s (Cancel n) (Refused refusal) entries t =
    IfNone (cancel_fact s.startup n) (refusal ≡ NoAttempt) ×
    IfSome (cancel_fact s.startup n) (λ fact. refusal ≡ NoMemory) × Does (nothing s) t [] entries
Answers s (Close near) Done entries t = IsSome (held_row s near) ×
    Does (closing s near) t [] entries
Answers s (Close near) (Refused refusal) entries t =
    IfNone (held_row s near) (refusal ≡ NoSession) ×
    IfSome (held_row s near) (λ row. refusal ≡ NoMemory) × Does (nothing s) t [] entries
Answers s (AddRow print addresses) Done entries t =
    (row_refusal s.redirects print (length addresses) ≡ None) ×
    Does (nothing (with_redirect s print addresses)) t [] entries
Answers s (AddRow print addresses) (NotAdded refusal) entries t =
    (refusal ≡ not_added (row_refusal s.redirects print (length addresses))) ×
    Does (nothing s) t [] entries
Answers s Introduce Done entries t = Does (nothing (introducing s)) t [] entries
Answers s (Narrow limit) Done entries t = Does (nothing (narrowing s limit)) t [] entries
Answers s (Learn secret) (Succeeds generation) entries t = (learn_refusal s secret ≡ None) ×
    (generation ≡ s.group.generation + 1) × Does (learning s secret) t [] entries
Answers s (Learn secret) (Refused refusal) entries t =
    (refusal ≡ not_called (learn_refusal s secret)) × Does (nothing s) t [] entries
Answers s Advance (Succeeds generation) entries t = (advance_refusal s ≡ None) ×
    (generation ≡ t.group.generation) × Does (advancing s) t [] entries
Answers s Advance (Refused refusal) entries t = (refusal ≡ not_called (advance_refusal s)) ×
    Does (nothing s) t [] entries
Answers s (OnFlows near call) Done entries t = (call_refusal s near call ≡ None) ×
    Does (flow_called s near call) t [] entries
Answers s (OnFlows near call) (Refused refusal) entries t =
    (refusal ≡ not_called (call_refusal s near call)) × Does (nothing s) t [] entries
Answers s (Receive from datagram draws) Done entries t =
    Does (received from draws (admission s datagram)) t [] entries
Answers s (Receive from datagram draws) (Stopped stop) entries t =
    StopsSo (λ d. Does d t [] entries) s from draws (admission s datagram) stop
Answers s (Tick draws) Done entries t = SomeTicks s t entries × (first_due t ≡ None)
Answers s (Tick draws) OutOfMemory entries t = SomeTicks s t entries × IsSome (first_due t)
Answers s call answer entries t = ⊥

-- ---- logs

-- The event brings the end from s to t.
abbrev pub Step : State → Event → State → Type 0
Step s e t = Answers (at_moment s e.moment) e.call e.answer e.entries t

-- These events lead from s to t.
abbrev pub Leads : State → List Event → State → Type 0
Leads s [] t = s ≡ t
Leads s (e ∷ events) t = (middle : State) × Step s e middle × Leads middle events t

-- An end that was begun so stands for this log, whose oldest event is the first, in this state.
abbrev pub StandsFor : Setup → List Event → State → Type 0
StandsFor setup log s = Leads (fresh setup) log s

-- Whatever log an end stood for, it stands for that log with this event.
abbrev pub Extends : State → State → Event → Type 0
Extends old new e = (setup : Setup) (log : List Event) → StandsFor setup log old →
    StandsFor setup (log ++ e ∷ []) new

-- ---- the events of calls, by what they returned and by an outbox before and after them

abbrev pub event : ℕ → Call → Answer → List Entry → List Entry → Event
event moment call answer before after = record {
  moment = moment;
  call = call;
  answer = answer;
  entries = drop (length before) after;
}

abbrev pub answer_of_open : Result ℕ OpenRefusal → Answer
answer_of_open (Ok n) = Began n
answer_of_open (Err refusal) = NotOpened refusal

abbrev pub open_event : ℕ → List ℕ → List AddressParts → Draws → Result ℕ OpenRefusal → List Entry →
    List Entry → Event
open_event moment peer candidates draws result before after =
    event moment (Open peer candidates draws) (answer_of_open result) before after

abbrev pub answer_of_seek : Result ℕ SeekRefusal → Answer
answer_of_seek (Ok near) = Searching near
answer_of_seek (Err refusal) = NotSought refusal

abbrev pub seek_event : ℕ → List ℕ → List AddressParts → Draws → Result ℕ SeekRefusal → List Entry →
    List Entry → Event
seek_event moment name candidates draws result before after =
    event moment (Seek name candidates draws) (answer_of_seek result) before after

abbrev pub answer_of_call : {A : Type 0} → Result A CallRefusal → Answer
answer_of_call (Ok done) = Done
answer_of_call (Err refusal) = Refused refusal

abbrev pub unseek_event : ℕ → Result (Unit {0}) CallRefusal → List Entry → List Entry → Event
unseek_event near result before after =
    event 0 (Unseek near) (answer_of_call result) before after

abbrev pub cancel_event : ℕ → Result (Unit {0}) CallRefusal → List Entry → List Entry → Event
cancel_event n result before after = event 0 (Cancel n) (answer_of_call result) before after

abbrev pub close_event : ℕ → ℕ → Result (Unit {0}) CallRefusal → List Entry → List Entry → Event
close_event near moment result before after =
    event moment (Close near) (answer_of_call result) before after

abbrev pub flow_event : {A : Type 0} → ℕ → FlowCall → Result A CallRefusal → List Entry →
    List Entry → Event
flow_event near call result before after =
    event 0 (OnFlows near call) (answer_of_call result) before after

-- a call that is given no moment and adds no entry
abbrev pub silent_event : Call → Answer → Event
silent_event call answer =
    record { moment = 0; call = call; answer = answer; entries = [] }

abbrev pub answer_of_row : Result (Unit {0}) RowRefusal → Answer
answer_of_row (Ok done) = Done
answer_of_row (Err refusal) = NotAdded refusal

abbrev pub row_event : List ℕ → List AddressParts → Result (Unit {0}) RowRefusal → Event
row_event print addresses result = silent_event (AddRow print addresses) (answer_of_row result)

abbrev pub introduce_event : Event
introduce_event = silent_event Introduce Done

abbrev pub narrow_event : ℕ → Event
narrow_event limit = silent_event (Narrow limit) Done

abbrev pub answer_of_succession : Result ℕ CallRefusal → Answer
answer_of_succession (Ok generation) = Succeeds generation
answer_of_succession (Err refusal) = Refused refusal

abbrev pub learn_event : List ℕ → Result ℕ CallRefusal → List Entry → List Entry → Event
learn_event secret result before after =
    event 0 (Learn secret) (answer_of_succession result) before after

abbrev pub advance_event : Result ℕ CallRefusal → List Entry → List Entry → Event
advance_event result before after = event 0 Advance (answer_of_succession result) before after

abbrev pub answer_of_receive : Result (Unit {0}) Stop → Answer
answer_of_receive (Ok done) = Done
answer_of_receive (Err stop) = Stopped stop

abbrev pub receive_event : AddressParts → ℕ → List ℕ → Draws → Result (Unit {0}) Stop → List Entry →
    List Entry → Event
receive_event from moment datagram draws result before after =
    event moment (Receive from datagram draws) (answer_of_receive result) before after

abbrev pub answer_of_tick : Result (Unit {0}) Memory → Answer
answer_of_tick (Ok done) = Done
answer_of_tick (Err memory) = OutOfMemory

abbrev pub tick_event : ℕ → Draws → Result (Unit {0}) Memory → List Entry → List Entry → Event
tick_event moment draws result before after =
    event moment (Tick draws) (answer_of_tick result) before after

-- ---- what taking a datagram gives, from a state in which its moment is noted

-- It did what is due, or it stopped where it can, and did what comes before. With room for what it
-- adds, where these are discards alone or nothing, it doesn't stop.
pub record IsTaken (s : State) (from : AddressParts) (draws : Draws) (a : Admission)
    (result : Result (Unit {0}) Stop) (new : State) (before after : Added) : Type 0 where
  pub ok : OnOk result (DoneIn (received from draws a) new before after)
  pub stop : IfErr result (StopsSo (λ d. DoneIn d new before after) s from draws a)
  pub enough : AddsDiscards from draws a → discards from draws a ≤ before.free → IsOk result
