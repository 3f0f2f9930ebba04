-- How a step is taken: the call that it makes, its line in the journal, and what it answers.
use Rattle.std.specs.Prelude.{ℕ, ◌≡◌, ◌<◌, ◌≤◌, ◌^◌, ◌⊎◌, Bool, true, false, List, length, take, Option, Some, None, IfSome, IfNone, is_some, OnOk, OnErr, IfErr, Result, Ok, Err}
use Rattle.endpoint_model.specs.declared.entry.Entry.{Entry}
use Rattle.endpoint_model.specs.declared.answers.Stopped.{Stopped as Stop}
use Rattle.endpoint_laws.specs.Laws.{AreBytes}
use Rattle.endpoint_model.specs.State.{State}
use Rattle.endpoint_model.specs.declared.config.Draws.{Draws}
use Rattle.endpoint_model.specs.declared.answers.OpenRefusal.TheVariants.{Memory as NoMemoryToOpen}
use Rattle.endpoint_model.specs.declared.answers.SeekRefusal.TheVariants.{Memory as NoMemoryToSeek}
use Rattle.session_flows.specs.declared.refusal.CallRefusal.TheVariants.{Memory as NoMemoryToCall}
use Rattle.introducer.specs.declared.refusal.RowRefusal.TheVariants.{Memory as NoMemoryForRow}
use Rattle.endpoint_model.specs.Event.{Call, Open as OpenCall, AddRow, Learn as LearnCall, Answer, NotOpened, NotSought, Refused as RefusedCall, NotAdded, Stopped, OutOfMemory, Event}
use Rattle.endpoint_model.specs.Log.{not_taken}
use Rattle.endpoint.specs.Calls.{IsWithin, call_of}
use Rattle.rendezvous_world.specs.declared.bringing.Fetched.{Fetched}
use Rattle.rendezvous_world.specs.declared.bringing.Fetched.TheVariants.{Missing, Forged as IsForged, Sent as IsSent}
use Rattle.rendezvous_world.specs.declared.journal.JournalLine.{JournalLine}
use Rattle.rendezvous_world.specs.declared.journal.Refused.{Refused}
use Rattle.rendezvous_world.specs.declared.journal.Refused.TheVariants.{Open as OpenRefused, Seek as SeekRefused, Call as CallRefused, Row as RowRefused}
use Rattle.rendezvous_world.specs.declared.step.Step.{Step}
use Rattle.rendezvous_world.specs.declared.step.Step.TheVariants.{End, At, Deliver, Bent, Inject, Forge}
use Rattle.rendezvous_world.specs.declared.step.Deed.{Deed as DeedTaken}
use Rattle.rendezvous_world.specs.declared.step.Deed.TheVariants.{NewEnd as NewEndBy, NewMoment as NewMomentBy, Call as CallBy, Bring as BringBy}
use Rattle.rendezvous_world.specs.declared.step.DeedCall.{DeedCall}
use Rattle.rendezvous_world.specs.declared.step.DeedCall.TheVariants.{Open as OpenBy, AddRow as AddRowBy, Learn as LearnBy, Plain as PlainBy}
use Rattle.rendezvous_world.specs.declared.step.Source.{Source as SourceTaken}
use Rattle.rendezvous_world.specs.declared.step.Source.TheVariants.{Delivered as DeliveredBy, Turned as TurnedBy, Injected as InjectedBy, Sealed as SealedBy}
use Rattle.rendezvous_world.specs.declared.step.StepFault.{StepFault}
use Rattle.rendezvous_world.specs.declared.step.StepFault.TheVariants.{Forged, Memory}
use Rattle.rtmfp_forms.specs.Address.{AddressParts}
use Rattle.rendezvous_world.specs.Deed.{StepCall, Deed, Calls, deed_of, IsCalling}
use Rattle.rendezvous_world.specs.Calls.{made, peer_in, IsSizedCall, LeavesUndone}
use Rattle.rendezvous_world.specs.Seen.{Seen}
use Rattle.rendezvous_world.specs.Sent.{Sent}
use Rattle.rendezvous_world.specs.Datagrams.{datagram_of}
use Rattle.rendezvous_world.specs.Faults.{step_fault, is_forged, is_forged_by}
use Rattle.rtmfp_base.specs.Reasons.{where_true}
use Rattle.rendezvous_world.specs.History.{peer_of, call_by, moment_given, answer_of, bytes_or_none}
use Rattle.rendezvous_world.specs.Stepping.{Called, Stepped, StoppedIn, Noted, called_by}
use Rattle.rendezvous_world.specs.Sound.{AreBelow}

-- ---- a call

-- The step calls an end.
abbrev pub CallsAnEnd : Step → Type 0
CallsAnEnd step = IsCalling (deed_of step)

-- The deed is a call of this end, which names this other, if any, and is given what has its sizes.
abbrev pub IsCallOf : ℕ → Option ℕ → Deed → Type 0
IsCallOf end peer (Calls who call) = (who ≡ end) × (peer_in call ≡ peer) × IsSizedCall call
IsCallOf end peer deed = ⊥

-- the call as an end is called with it, by the fingerprint of the end that it names or the secret
-- that it learns, and by its draws
abbrev pub made_by : DeedCall → List ℕ → Draws → Call
made_by (OpenBy peer list) print draws = OpenCall print list.now draws
made_by (AddRowBy peer list) print draws = AddRow print list.now
made_by LearnBy secret draws = LearnCall secret
made_by (PlainBy call) print draws = call_of call draws

-- the end that it names
abbrev pub peer_by : DeedCall → Option ℕ
peer_by (OpenBy peer list) = Some peer
peer_by (AddRowBy peer list) = Some peer
peer_by LearnBy = None
peer_by (PlainBy call) = None

-- It is one that an end may be called with.
abbrev pub IsWithinBy : DeedCall → Type 0
IsWithinBy (PlainBy call) = IsWithin call
IsWithinBy by = Unit {0}

-- This is the call that a step makes, given what has its sizes.
pub record IsMadeBy (by : DeedCall) (call : StepCall) : Type 0 where
  pub peer : peer_in call ≡ peer_by by
  pub sized : IsSizedCall call
  pub same : (print : List ℕ) (draws : Draws) → made call print draws ≡ made_by by print draws

abbrev pub IsCallBy : ℕ → DeedCall → Deed → Type 0
IsCallBy end by (Calls who call) = (who ≡ end) × IsMadeBy by call
IsCallBy end by deed = ⊥

-- the step that brings a datagram which is had so
abbrev pub bringing : ℕ → AddressParts → SourceTaken → Step
bringing end from (DeliveredBy number) = Deliver number end from
bringing end from (TurnedBy number place) = Bent number place end from
bringing end from (InjectedBy bytes) = Inject end from bytes.now
bringing end from (SealedBy plain) = Forge end from plain.now

-- A call is given what has its sizes; of another deed it says nothing.
abbrev pub IsSizedDeed : Deed → Type 0
IsSizedDeed (Calls end call) = IsSizedCall call
IsSizedDeed deed = Unit {0}

-- This is the deed of a step.
abbrev pub IsDeed : Step → DeedTaken → Type 0
IsDeed step (NewEndBy name max_peers max_sessions cert) =
    step ≡ End name.now max_peers max_sessions cert.now
IsDeed step (NewMomentBy moment) = step ≡ At moment
IsDeed step (CallBy end by) = IsCallBy end by (deed_of step)
IsDeed step (BringBy end from source) = step ≡ bringing end from.now source

abbrev pub event_by : List ℕ → ℕ → ℕ → Step → List ℕ → Option Refused → Option Stop → List Entry →
    Event
event_by print line moment step bytes refused stopped entries = record {
  moment = moment_given moment (deed_of step);
  call = call_by print line bytes (deed_of step);
  answer = answer_of step refused stopped entries;
  entries = entries;
}

-- What a call leaves that found no memory, at the end in this state.
abbrev pub IsUndoneIn : List ℕ → ℕ → Deed → State → State → Type 0
IsUndoneIn print moment (Calls end call) old new = LeavesUndone print moment call old new
IsUndoneIn print moment deed old new = ⊥

abbrev pub IsUndone : List ℕ → ℕ → Step → State → State → Type 0
IsUndone print moment step old new = IsUndoneIn print moment (deed_of step) old new

-- ---- its answer

-- why a call was refused
abbrev pub refused_in : Answer → Option Refused
refused_in (NotOpened refusal) = Some (OpenRefused refusal)
refused_in (NotSought refusal) = Some (SeekRefused refusal)
refused_in (RefusedCall refusal) = Some (CallRefused refusal)
refused_in (NotAdded refusal) = Some (RowRefused refusal)
refused_in answer = None

-- how far it came, if it was stopped
abbrev pub stopped_in : Answer → Option Stop
stopped_in (Stopped stop) = Some stop
stopped_in OutOfMemory = Some not_taken
stopped_in answer = None

-- It was refused for want of memory.
abbrev pub FoundNone : Answer → Type 0
FoundNone (NotOpened refusal) = refusal ≡ NoMemoryToOpen
FoundNone (NotSought refusal) = refusal ≡ NoMemoryToSeek
FoundNone (RefusedCall refusal) = refusal ≡ NoMemoryToCall
FoundNone (NotAdded refusal) = refusal ≡ NoMemoryForRow
FoundNone answer = ⊥

-- ---- its line

-- What a step that calls an end is given: nothing refuses it.
pub record IsEntering (w : Seen) (number end : ℕ) (step : Step) (brought : Option (List ℕ))
    (taken : List ℕ) : Type 0 where
  pub above : AreBelow w.lines number
  pub fits : number < 2 ^ 32
  pub there : end < length w.ends
  pub calls : CallsAnEnd step
  pub called : called_by step ≡ end
  pub peer : peer_of (deed_of step) < length w.ends
  pub datagram : brought ≡ datagram_of w step
  pub bytes : taken ≡ bytes_or_none brought
  pub short : length taken ≤ 2048
  pub are_bytes : AreBytes taken
  pub sized : IsSizedDeed (deed_of step)
  pub fine : step_fault w step ≡ None

-- What it leaves.
pub record IsEntered (w : Seen) (number : ℕ) (step : Step) (result : Result (Unit {0}) StepFault)
    (t : Seen) : Type 0 where
  pub ok : OnOk result ((line : JournalLine) × (is_some line.stopped ≡ false) ×
      Called w number step line t)
  pub memory : IfErr result (λ fault. fault ≡ Memory)
  pub err : OnErr result ((t ≡ w) ⊎ (StoppedIn w number step t ⊎ Noted w step t))

abbrev pub answered : Bool → Result (Unit {0}) StepFault
answered true = Err Memory
answered false = Ok tt

-- ---- a datagram

-- Nothing refuses the step that brings these bytes to an end, but for a forged datagram.
pub record IsBringing (w : Seen) (number end : ℕ) (step : Step) (bytes : List ℕ) : Type 0 where
  pub above : AreBelow w.lines number
  pub fits : number < 2 ^ 32
  pub there : end < length w.ends
  pub calls : CallsAnEnd step
  pub called : called_by step ≡ end
  pub peer : peer_of (deed_of step) ≡ end
  pub sized : IsSizedDeed (deed_of step)
  pub datagram : datagram_of w step ≡ Some bytes
  pub short : length bytes ≤ 2048
  pub forged : is_forged w step ≡ is_forged_by w end (Some bytes)
  pub fault : step_fault w step ≡ where_true (is_forged_by w end (Some bytes)) Forged

-- The front of the room is the datagram that was found, with this many bytes.
pub record IsFetchedAs (sent : Sent) (count : ℕ) (into : List ℕ) : Type 0 where
  pub size : count ≡ length sent.datagram
  pub short : count ≤ 1200
  pub room : length into ≡ 1200
  pub bytes : take count into ≡ sent.datagram

abbrev pub IsFetched : Option Sent → Option ℕ → List ℕ → Type 0
IsFetched None None room = Unit {0}
IsFetched None (Some size) room = ⊥
IsFetched (Some sent) None room = ⊥
IsFetched (Some sent) (Some size) room = IsFetchedAs sent size room

-- The same of one that is brought to an end, where it may be forged.
abbrev pub IsFetchedFor : Seen → ℕ → Option Sent → Fetched → List ℕ → Type 0
IsFetchedFor w end None Missing room = Unit {0}
IsFetchedFor w end None fetched room = ⊥
IsFetchedFor w end (Some sent) Missing room = ⊥
IsFetchedFor w end (Some sent) IsForged room = is_forged_by w end (Some sent.datagram) ≡ true
IsFetchedFor w end (Some sent) (IsSent size) room = (is_forged_by w end (Some sent.datagram)
    ≡ false) × IsFetchedAs sent size room

-- ---- what a step answers and leaves

pub record IsDone (w : Seen) (number : ℕ) (step : Step) (result : Result (Unit {0}) StepFault)
    (t : Seen) : Type 0 where
  pub ok : OnOk result (Stepped w number step t)
  pub refused : IfSome (step_fault w step) (λ fault. (result ≡ Err fault) × (t ≡ w))
  pub memory : IfNone (step_fault w step) (IfErr result (λ fault. fault ≡ Memory))
  pub err : OnErr result ((t ≡ w) ⊎ (StoppedIn w number step t ⊎ Noted w step t))
