-- Which steps of a flow between many ends may come, and what they state.
use Rattle.std.specs.Prelude.{ℕ, ◌≡◌, ◌⊎◌, Bool, List, [], ◌∷◌, ◌++◌, Option, Some, None}
use Rattle.rtmfp_data_chunks.specs.Fragments.{Message}
use Rattle.rtmfp_data_chunks.specs.Runs.{Chunk, Run, message_of}
use Rattle.rtmfp_data_chunks.specs.HandsOver.{IsIn}
use Rattle.flow_recv.specs.Receiver.{Receiver, next_run}
use Rattle.flow_send.specs.Acks.{Told}
use Rattle.flow_exchange.specs.Sending.{Act, Hears, acts}
use Rattle.flow_history.specs.Flow.{Opened, Carried, AtSender, SendingBegins, SendingEnds, Opens}
use Rattle.flow_history.specs.Flow.{Acts, AtReceiver, TakingBegins, TakingEnds, Makes, Takes, Hands}
use Rattle.flow_history.specs.Flow.{Acks, Touch, BySender, ByReceiver, Goes, Beside, Steps, alone}
use Rattle.flow_history.specs.Flow.{sending_at, taking_at}
use Rattle.flow_history.specs.Said.{WasGiven, WasTold, Went, WentBack}

-- ---- what may happen

abbrev pub BeginsSending : Touch → Type 0
BeginsSending (BySender SendingBegins) = Unit {0}
BeginsSending touch = ⊥

abbrev pub HasBegunSending : Steps → Type 0
HasBegunSending [] = ⊥
HasBegunSending (s ∷ earlier) = BeginsSending s.touch ⊎ HasBegunSending earlier

abbrev pub BeginsTaking : Touch → Type 0
BeginsTaking (ByReceiver TakingBegins) = Unit {0}
BeginsTaking touch = ⊥

abbrev pub HasBegunTaking : Steps → Type 0
HasBegunTaking [] = ⊥
HasBegunTaking (s ∷ earlier) = BeginsTaking s.touch ⊎ HasBegunTaking earlier

-- An ack that is heard went out before. All else may be done at any time.
abbrev pub MayAct : Steps → Act → Type 0
MayAct steps (Hears a) = WentBack steps a
MayAct steps act = Unit {0}

-- At most one session ever sends in the context. The flow is opened once in it.
abbrev pub MayAtSender : Steps → ℕ → AtSender → Type 0
MayAtSender steps who SendingBegins = HasBegunSending steps → ⊥
MayAtSender steps who SendingEnds = Unit {0}
MayAtSender steps who (Opens b) = sending_at steps who ≡ Some None
MayAtSender steps who (Acts act) =
    ((flow : Opened) × (sending_at steps who ≡ Some (Some flow))) × MayAct steps act

-- At most one session ever takes in the context. The flow is made of a chunk whose options tell its
-- order. What is taken went out before.
abbrev pub MayAtReceiver : Steps → ℕ → AtReceiver → Type 0
MayAtReceiver steps who TakingBegins = HasBegunTaking steps → ⊥
MayAtReceiver steps who TakingEnds = Unit {0}
MayAtReceiver steps who (Makes b) = (taking_at steps who ≡ Some None)
    × (c : Chunk) × Went steps (record { chunk = c; order = Some b })
MayAtReceiver steps who (Takes c) =
    ((r : Receiver) × (taking_at steps who ≡ Some (Some r)))
    × (order : Option Bool) × Went steps (record { chunk = c; order = order })
MayAtReceiver steps who Hands = (r : Receiver) × (y : Run)
    × (taking_at steps who ≡ Some (Some r)) × (next_run r ≡ Some y)
MayAtReceiver steps who (Acks pairs) = (r : Receiver) × (taking_at steps who ≡ Some (Some r))

-- What goes out was given, or told.
abbrev pub May : Steps → ℕ → Touch → Type 0
May steps who (BySender t) = MayAtSender steps who t
May steps who (ByReceiver t) = MayAtReceiver steps who t
May steps who (Goes chunks acks) = ((x : Carried) → IsIn x chunks → WasGiven steps x)
    × ((a : Told) → IsIn a acks → WasTold steps a)
May steps who Beside = Unit {0}

abbrev pub IsRun : Steps → Type 0
IsRun [] = Unit {0}
IsRun (s ∷ earlier) = May earlier s.who s.touch × IsRun earlier

-- ---- what is stated of it

-- the messages that an act queues, and the numbers of those that it abandons
abbrev pub queued_act : Option (Option Opened) → Act → List Message
queued_act (Some (Some k)) act = (acts (alone k.sender) act).world.queued
queued_act kept act = []

abbrev pub abandoned_act : Option (Option Opened) → Act → List ℕ
abandoned_act (Some (Some k)) act = (acts (alone k.sender) act).world.abandoned
abandoned_act kept act = []

abbrev pub message_in : Option Run → List Message
message_in None = []
message_in (Some y) = message_of y ∷ []

-- the message that is next
abbrev pub handed_next_by : Option (Option Receiver) → List Message
handed_next_by (Some (Some r)) = message_in (next_run r)
handed_next_by kept = []

abbrev pub queued_at : Option (Option Opened) → Touch → List Message
queued_at kept (BySender (Acts act)) = queued_act kept act
queued_at kept touch = []

abbrev pub abandoned_at : Option (Option Opened) → Touch → List ℕ
abandoned_at kept (BySender (Acts act)) = abandoned_act kept act
abandoned_at kept touch = []

abbrev pub handed_at : Option (Option Receiver) → Touch → List Message
handed_at kept (ByReceiver Hands) = handed_next_by kept
handed_at kept touch = []

-- the newest first
abbrev pub queued_in : Steps → List Message
queued_in [] = []
queued_in (s ∷ earlier) = queued_at (sending_at earlier s.who) s.touch ++ queued_in earlier

abbrev pub abandoned_in : Steps → List ℕ
abandoned_in [] = []
abandoned_in (s ∷ earlier) = abandoned_at (sending_at earlier s.who) s.touch ++ abandoned_in earlier

-- the oldest first
abbrev pub handed_in : Steps → List Message
handed_in [] = []
handed_in (s ∷ earlier) = handed_in earlier ++ handed_at (taking_at earlier s.who) s.touch

-- Wherever the flow is opened, its metadata tells this order.
abbrev pub OpensAs : Bool → Touch → Type 0
OpensAs b (BySender (Opens a)) = a ≡ b
OpensAs b touch = Unit {0}

abbrev pub IsOrdered : Bool → Steps → Type 0
IsOrdered b [] = Unit {0}
IsOrdered b (s ∷ earlier) = OpensAs b s.touch × IsOrdered b earlier
