-- The calls of an end in a turn of its node, and what they add.
use Rattle.std.specs.Prelude.{◌≡◌, ◌==◌, ℕ, if◌then◌else◌, List, [], ◌∷◌, ◌++◌, drop, take, Option, Some, None}
use Rattle.std.specs.Option.{option_map}
use Rattle.std.specs.Int.{w32, from_be_bytes}
use Rattle.glare_core.specs.declared.facts.Fact.{Fact}
use Rattle.glare_core.specs.declared.facts.Fact.TheVariants.{Started, Born, Opened, Confirmed, Ended}
use Rattle.rtmfp_forms.specs.Address.{AddressParts}
use Rattle.rtmfp_host.specs.Drawing.{next_block}
use Rattle.rtmfp_host.specs.declared.link.Given.{Given}
use Rattle.rtmfp_host.specs.declared.link.Given.TheVariants.{Datagram, Quiet}
use Rattle.endpoint_model.specs.declared.config.Draws.{Draws}
use Rattle.endpoint_model.specs.declared.entry.Entry.{Entry}
use Rattle.endpoint_model.specs.declared.answers.OpenRefusal.TheVariants.{Candidates, Start, SessionsFull, Memory as NoMemoryToOpen}
use Rattle.endpoint_model.specs.declared.answers.SeekRefusal.TheVariants.{Candidates as WrongCount, SessionsFull as NoRoom, Memory as NoMemoryToSeek}
use Rattle.session_flows.specs.declared.refusal.CallRefusal.TheVariants.{NoAttempt, NoSession, NoFlow, FlowsFull, WideMetadata, Queue as NoPlace, NotQueued, Finished, NextKnown, GenerationsSpent, SameSecret, NoNext, Memory as NoMemory}
use Rattle.endpoint_model.specs.Event.{Setup, Call, Open, Seek, Learn, Advance, Receive, Tick, OnFlows, Answer, Began, Searching, Done, Succeeds, NotOpened, NotSought, Refused, NotAdded, Stopped, OutOfMemory, Event}
use Rattle.endpoint_model.specs.FlowCall.{FlowCall, OpenFlow, Queue}
use Rattle.endpoint_model.specs.State.{State}
use Rattle.endpoint_model.specs.Log.{StandsFor}
use Rattle.endpoint_model.specs.Views.{fact_in}
use Rattle.rtmfp_words.specs.declared.opening_words.OpeningWords.{OpeningWords}
use Rattle.rtmfp_words.specs.declared.opening_words.Whom.{Whom}
use Rattle.rtmfp_words.specs.declared.opening_words.Whom.TheVariants.{Print, Name}

-- ---- draws

-- the draws of a block of 64 bytes
abbrev pub draws_of : List ℕ → Draws
draws_of block = record {
  nonce = take 16 block;
  tag = take 16 (drop 16 block);
  token = take 16 (drop 32 block);
  word = from_be_bytes w32 (take 4 (drop 48 block));
}

-- ---- events

abbrev pub event_of : ℕ → Call → Answer → List Entry → Event
event_of moment call answer entries =
    record { moment = moment; call = call; answer = answer; entries = entries }

abbrev pub entries_of : List Event → List Entry
entries_of [] = []
entries_of (e ∷ log) = e.entries ++ entries_of log

-- Whatever log an end stands for in s, it stands for that log with these events in t.
abbrev pub ExtendsBy : State → State → List Event → Type 0
ExtendsBy s t events = (setup : Setup) (log : List Event) → StandsFor setup log s →
    StandsFor setup (log ++ events) t

-- the answer isn't want of memory
abbrev pub IsSettled : Answer → Type 0
IsSettled (NotOpened NoMemoryToOpen) = ⊥
IsSettled (NotOpened (Candidates count)) = Unit {0}
IsSettled (NotOpened (Start refusal)) = Unit {0}
IsSettled (NotOpened (SessionsFull count)) = Unit {0}
IsSettled (NotSought NoMemoryToSeek) = ⊥
IsSettled (NotSought (WrongCount count)) = Unit {0}
IsSettled (NotSought (NoRoom count)) = Unit {0}
IsSettled (Refused NoMemory) = ⊥
IsSettled (Refused NoAttempt) = Unit {0}
IsSettled (Refused NoSession) = Unit {0}
IsSettled (Refused NoFlow) = Unit {0}
IsSettled (Refused (FlowsFull count)) = Unit {0}
IsSettled (Refused (WideMetadata size)) = Unit {0}
IsSettled (Refused (NoPlace refusal)) = Unit {0}
IsSettled (Refused NotQueued) = Unit {0}
IsSettled (Refused Finished) = Unit {0}
IsSettled (Refused (NextKnown generation)) = Unit {0}
IsSettled (Refused GenerationsSpent) = Unit {0}
IsSettled (Refused SameSecret) = Unit {0}
IsSettled (Refused NoNext) = Unit {0}
IsSettled (Began n) = Unit {0}
IsSettled (Searching near) = Unit {0}
IsSettled Done = Unit {0}
IsSettled (Succeeds generation) = Unit {0}
IsSettled (NotAdded refusal) = ⊥
IsSettled (Stopped stop) = ⊥
IsSettled OutOfMemory = ⊥

-- ---- a call on the group's secrets, done or refused

abbrev pub IsSuccession : Call → Event → Type 0
IsSuccession call e = (answer : Answer) × (added : List Entry) × IsSettled answer ×
    (e ≡ event_of 0 call answer added)

-- the call, where there is one to make
abbrev pub AreSuccessions : Option Call → List Event → Type 0
AreSuccessions None log = log ≡ []
AreSuccessions (Some call) log = (e : Event) × IsSuccession call e × (log ≡ e ∷ [])

-- the next secret is learnt, where the words have one
abbrev pub learn_call : Option (List ℕ) → Option Call
learn_call next = option_map Learn next

-- the end goes over to it, where this is the turn of the words
abbrev pub advance_call : Option ℕ → ℕ → Option Call
advance_call None turn = None
advance_call (Some at) turn = if at == turn then Some Advance else None

-- ---- turn 0

-- the call of an opening: an open towards an end, or a search for a service; its only candidate is
-- its address
abbrev pub opening_call : Whom → AddressParts → Draws → Call
opening_call (Print print) at draws = Open print (at ∷ []) draws
opening_call (Name name) at draws = Seek name (at ∷ []) draws

-- the event of such a call, done or refused
abbrev pub IsCalled : Whom → AddressParts → ℕ → Draws → Event → Type 0
IsCalled whom at moment draws e = (answer : Answer) × (added : List Entry) × IsSettled answer ×
    (e ≡ event_of moment (opening_call whom at draws) answer added)

abbrev pub IsOpened : OpeningWords → ℕ → Draws → Event → Type 0
IsOpened opening moment draws e = IsCalled opening.whom opening.at moment draws e

-- the openings in their order, all at one moment, each with the draws of a block of its own
abbrev pub AreOpened : List OpeningWords → ℕ → List (List ℕ) → List Event → Type 0
AreOpened [] moment blocks log = log ≡ []
AreOpened (opening ∷ openings) moment blocks log =
    (e : Event) × (later : List Event) × (log ≡ e ∷ later) ×
    IsOpened opening moment (draws_of (next_block blocks)) e ×
    AreOpened openings moment (drop 1 blocks) later

-- a learn, where there is a next secret, and then the openings
abbrev pub AreZeroEvents : Option (List ℕ) → List OpeningWords → ℕ → List (List ℕ) → List Event →
    Type 0
AreZeroEvents next openings moment blocks log = (first others : List Event) ×
    AreSuccessions (learn_call next) first × AreOpened openings moment blocks others ×
    (log ≡ first ++ others)

-- ---- a turn

-- the session that a fact tells as opened, by its session ID
abbrev pub opened_by : Option Fact → List ℕ
opened_by None = []
opened_by (Some (Started peer n near ni)) = []
opened_by (Some (Born joined)) = []
opened_by (Some (Opened joined)) = joined.near ∷ []
opened_by (Some (Confirmed peer near)) = []
opened_by (Some (Ended peer near why)) = []

-- the sessions that entries tell as opened
abbrev pub opened_in : List Entry → List ℕ
opened_in [] = []
opened_in (entry ∷ entries) = opened_by (fact_in entry) ++ opened_in entries

-- a call on the flows of a session, done or refused
abbrev pub IsFlowCall : ℕ → FlowCall → Event → Type 0
IsFlowCall near call e = (answer : Answer) × (added : List Entry) × IsSettled answer ×
    (e ≡ event_of 0 (OnFlows near call) answer added)

-- a flow with priority 4 and metadata 6d, and a message in flow 0, without a deadline and a limit
abbrev pub opens_flow : FlowCall
opens_flow = OpenFlow 4 (0x6d ∷ []) None

abbrev pub queues : List ℕ → FlowCall
queues message = Queue 0 message (record { deadline = None; resends = None })

-- two calls for each session that was opened
abbrev pub AreMessages : List ℕ → List ℕ → List Event → Type 0
AreMessages message [] log = log ≡ []
AreMessages message (near ∷ others) log =
    (first second : Event) × (later : List Event) × (log ≡ first ∷ second ∷ later) ×
    IsFlowCall near opens_flow first × IsFlowCall near (queues message) second ×
    AreMessages message others later

-- the same where there is a message to send, and none where there isn't
abbrev pub AreSendCalls : Option (List ℕ) → List Entry → List Event → Type 0
AreSendCalls None heard log = log ≡ []
AreSendCalls (Some message) heard log = AreMessages message (opened_in heard) log

-- Where a datagram was given, its call, the calls for each session that it opened, and a tick; else
-- the tick alone. All are at this moment, and with these draws.
abbrev pub AreTurnEvents : Option (List ℕ) → Given → ℕ → Draws → List Event → Type 0
AreTurnEvents message (Datagram from datagram) moment draws log =
    (heard due : List Entry) × (calls : List Event) × AreSendCalls message heard calls ×
    (log ≡ event_of moment (Receive from datagram draws) Done heard
    ∷ (calls ++ event_of moment (Tick draws) Done due ∷ []))
AreTurnEvents message Quiet moment draws log =
    (due : List Entry) × (log ≡ event_of moment (Tick draws) Done due ∷ [])

-- An advance, where this is its turn, before the draw; and then what the turn brings.
abbrev pub AreWholeEvents : Option ℕ → ℕ → Option (List ℕ) → Given → ℕ → Draws → List Event → Type 0
AreWholeEvents advance turn message given moment draws log = (first others : List Event) ×
    AreSuccessions (advance_call advance turn) first ×
    AreTurnEvents message given moment draws others × (log ≡ first ++ others)
