-- The calls that steps make: what an end is called with and when, what the call answers, and what
-- it leaves where it finds no memory.
use Rattle.std.specs.Prelude.{ℕ, ◌≡◌, ◌≢◌, List, [], ◌∷◌, Option, Some, None, IsSome, IfSome}
use Rattle.identity.specs.ServiceNames.{IsServiceName}
use Rattle.glare_core.specs.declared.facts.Fact.TheVariants.{Started}
use Rattle.endpoint_model.specs.declared.config.Draws.{Draws}
use Rattle.endpoint_model.specs.declared.entry.Entry.{Entry}
use Rattle.endpoint_model.specs.declared.entry.Entry.TheVariants.{Fact, Sought, Learnt, Advanced}
use Rattle.endpoint_model.specs.declared.answers.Stopped.{Stopped as Stop}
use Rattle.endpoint_model.specs.declared.answers.OpenRefusal.TheVariants.{Memory as NoMemoryToOpen}
use Rattle.endpoint_model.specs.declared.answers.SeekRefusal.TheVariants.{Memory as NoMemoryToSeek}
use Rattle.session_flows.specs.declared.refusal.CallRefusal.TheVariants.{Memory as NoMemoryToCall}
use Rattle.introducer.specs.declared.refusal.RowRefusal.TheVariants.{Memory as NoMemoryForRow}
use Rattle.endpoint_model.specs.Event.{Call, Open as OpenCall, Seek as SeekCall, Unseek as UnseekCall, Cancel as CancelCall, Close as CloseCall, AddRow, Introduce as IntroduceCall, Narrow as NarrowCall, Learn as LearnCall, Advance as AdvanceCall, OnFlows, Tick as TickCall, Answer, Began, Searching, Done, Succeeds, NotOpened, NotSought, Refused as RefusedCall, NotAdded, Stopped, OutOfMemory}
use Rattle.endpoint_model.specs.State.{State, at_moment}
use Rattle.endpoint_model.specs.InSessions.{held_row}
use Rattle.endpoint_model.specs.Effects.{open_refusal, seek_refusal}
use Rattle.endpoint_model.specs.Log.{not_taken}
use Rattle.rendezvous_world.specs.declared.journal.Refused.{Refused}
use Rattle.rendezvous_world.specs.declared.journal.Refused.TheVariants.{Open as OpenRefused, Seek as SeekRefused, Call as CallRefused, Row as RowRefused}
use Rattle.rendezvous_world.specs.Deed.{StepCall, Opens, Seeks, Unseeks, Cancels, Closes, CallsFlows, Introduces, Narrows, Redirects, Learns, Advances, Ticks}

-- ---- what an end is called with

-- the call, by the fingerprint of the end that it names, if it names one, or the secret that it
-- learns, and by its draws
abbrev pub made : StepCall → List ℕ → Draws → Call
made (Opens peer list) print draws = OpenCall print list draws
made (Seeks name list) print draws = SeekCall name list draws
made (Unseeks near) print draws = UnseekCall near
made (Cancels n) print draws = CancelCall n
made (Closes near) print draws = CloseCall near
made (CallsFlows near call) print draws = OnFlows near call
made Introduces print draws = IntroduceCall
made (Narrows limit) print draws = NarrowCall limit
made (Redirects peer list) print draws = AddRow print list
made Learns secret draws = LearnCall secret
made Advances print draws = AdvanceCall
made Ticks print draws = TickCall draws

-- the end that it names
abbrev pub peer_in : StepCall → Option ℕ
peer_in (Opens peer list) = Some peer
peer_in (Redirects peer list) = Some peer
peer_in call = None

-- What it is given has its sizes: a search is for the name of a service.
abbrev pub IsSizedCall : StepCall → Type 0
IsSizedCall (Seeks name list) = IsServiceName name
IsSizedCall call = Unit {0}

-- the moment that it is given: the moment of the world, or none
abbrev pub moment_in : ℕ → StepCall → ℕ
moment_in moment (Opens peer list) = moment
moment_in moment (Seeks name list) = moment
moment_in moment (Closes near) = moment
moment_in moment Ticks = moment
moment_in moment call = 0

-- ---- what it answers

-- the number of the first attempt that was started
abbrev pub number_started : List Entry → ℕ
number_started [] = 0
number_started (Fact (Started peer n near ni) ∷ rest) = n
number_started (entry ∷ rest) = number_started rest

-- the session ID of the first search that began
abbrev pub near_sought : List Entry → ℕ
near_sought [] = 0
near_sought (Sought near name ∷ rest) = near
near_sought (entry ∷ rest) = near_sought rest

-- the number of the first generation that was learnt, or became the current one
abbrev pub number_succeeded : List Entry → ℕ
number_succeeded [] = 0
number_succeeded (Learnt generation ∷ rest) = generation
number_succeeded (Advanced generation ∷ rest) = generation
number_succeeded (entry ∷ rest) = number_succeeded rest

abbrev pub answer_to_seek : Option Refused → List Entry → Answer
answer_to_seek None entries = Searching (near_sought entries)
answer_to_seek (Some (OpenRefused refusal)) entries = NotOpened refusal
answer_to_seek (Some (SeekRefused refusal)) entries = NotSought refusal
answer_to_seek (Some (CallRefused refusal)) entries = RefusedCall refusal
answer_to_seek (Some (RowRefused refusal)) entries = NotAdded refusal

abbrev pub answer_to_open : Option Refused → List Entry → Answer
answer_to_open None entries = Began (number_started entries)
answer_to_open (Some (OpenRefused refusal)) entries = NotOpened refusal
answer_to_open (Some (SeekRefused refusal)) entries = NotSought refusal
answer_to_open (Some (CallRefused refusal)) entries = RefusedCall refusal
answer_to_open (Some (RowRefused refusal)) entries = NotAdded refusal

-- an unseek, a cancel, a close, a call on flows, and a row of an introducer
abbrev pub answer_to_call : Option Refused → Answer
answer_to_call None = Done
answer_to_call (Some (OpenRefused refusal)) = NotOpened refusal
answer_to_call (Some (SeekRefused refusal)) = NotSought refusal
answer_to_call (Some (CallRefused refusal)) = RefusedCall refusal
answer_to_call (Some (RowRefused refusal)) = NotAdded refusal

-- a learn and an advance
abbrev pub answer_to_succession : Option Refused → List Entry → Answer
answer_to_succession None entries = Succeeds (number_succeeded entries)
answer_to_succession (Some (OpenRefused refusal)) entries = NotOpened refusal
answer_to_succession (Some (SeekRefused refusal)) entries = NotSought refusal
answer_to_succession (Some (CallRefused refusal)) entries = RefusedCall refusal
answer_to_succession (Some (RowRefused refusal)) entries = NotAdded refusal

abbrev pub answer_to_datagram : Option Stop → Answer
answer_to_datagram None = Done
answer_to_datagram (Some stop) = Stopped stop

abbrev pub answer_to_tick : Option Stop → Answer
answer_to_tick None = Done
answer_to_tick (Some stop) = OutOfMemory

abbrev pub answer_in : StepCall → Option Refused → Option Stop → List Entry → Answer
answer_in (Opens peer list) refused stopped entries = answer_to_open refused entries
answer_in (Seeks name list) refused stopped entries = answer_to_seek refused entries
answer_in Learns refused stopped entries = answer_to_succession refused entries
answer_in Advances refused stopped entries = answer_to_succession refused entries
answer_in Introduces refused stopped entries = Done
answer_in (Narrows limit) refused stopped entries = Done
answer_in Ticks refused stopped entries = answer_to_tick stopped
answer_in call refused stopped entries = answer_to_call refused

-- The call was done, or refused for another reason than want of memory.
pub record IsDoneOrRefused (refused : Option Refused) : Type 0 where
  pub opened : refused ≢ Some (OpenRefused NoMemoryToOpen)
  pub sought : refused ≢ Some (SeekRefused NoMemoryToSeek)
  pub called : refused ≢ Some (CallRefused NoMemoryToCall)
  pub added : refused ≢ Some (RowRefused NoMemoryForRow)

-- What a line can tell of the answer: that an end introduces or is narrowed is done, a tick is done or
-- stopped, and another call is done or refused. A call that is refused for want of memory has no line.
abbrev pub MayAnswer : StepCall → Option Refused → Option Stop → Type 0
MayAnswer Introduces refused stopped = (refused ≡ None) × (stopped ≡ None)
MayAnswer (Narrows limit) refused stopped = (refused ≡ None) × (stopped ≡ None)
MayAnswer Ticks refused stopped = (refused ≡ None) × IfSome stopped (λ stop. stop ≡ not_taken)
MayAnswer call refused stopped = (stopped ≡ None) × IsDoneOrRefused refused

-- ---- what it leaves where it finds no memory

-- The call is an open, a seek or a close, which nothing but want of memory refuses at an end in this
-- state.
abbrev pub IsAllowed : List ℕ → State → StepCall → Type 0
IsAllowed print s (Opens peer list) = open_refusal s print list ≡ None
IsAllowed print s (Seeks name list) = seek_refusal s list ≡ None
IsAllowed print s (Closes near) = IsSome (held_row s near)
IsAllowed print s call = ⊥

-- An open, a seek and a close, which nothing else refused, have noted the moment, and another call has
-- left all as before; a tick has its line, and that an end introduces or is narrowed takes no memory.
abbrev pub LeavesUndone : List ℕ → ℕ → StepCall → State → State → Type 0
LeavesUndone print moment (Opens peer list) old new = (open_refusal old print list ≡ None) ×
    (new ≡ at_moment old moment)
LeavesUndone print moment (Seeks name list) old new = (seek_refusal old list ≡ None) ×
    (new ≡ at_moment old moment)
LeavesUndone print moment (Closes near) old new = IsSome (held_row old near) ×
    (new ≡ at_moment old moment)
LeavesUndone print moment Introduces old new = ⊥
LeavesUndone print moment (Narrows limit) old new = ⊥
LeavesUndone print moment Ticks old new = ⊥
LeavesUndone print moment call old new = new ≡ old
