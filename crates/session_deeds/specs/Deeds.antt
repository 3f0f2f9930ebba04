-- What is done to the flows of one session, deed by deed.
use Rattle.std.specs.Prelude.{ℕ, ◌≡◌, ◌==◌, if◌then◌else◌, map, Bool, List, [], ◌∷◌, ◌++◌, Option}
use Rattle.std.specs.Prelude.{Some, None}
use Rattle.std.specs.Option.{option_map}
use Rattle.rtmfp_data_chunks.specs.Fragments.{Message}
use Rattle.rtmfp_data_chunks.specs.Runs.{Chunk, Run}
use Rattle.rtmfp_data_chunks.specs.HandsOver.{IsIn}
use Rattle.flow_recv.specs.Receiver.{Receiver, fresh, taken, next_run, handed_next}
use Rattle.flow_send.specs.Sender.{new_sender}
use Rattle.flow_exchange.specs.Sending.{Act, Hears}
use Rattle.flow_history.specs.Flow.{Opened, acted}
use Rattle.flow_history.specs.Run.{queued_act, abandoned_act, handed_next_by}
use Rattle.flow_history.specs.Deeds.{Piece, Data, Ack}
use Rattle.flow_history.specs.Keeping.{Flows}
use Rattle.session_flows.specs.Keeping.{Stated, Queued, Abandoned, Handed}

-- A flow is opened, for messages that are handed over as they arrive or in order; it is acted on. A
-- flow is made, in the same way; it takes a chunk, hands over the message that is next, and tells
-- an ack with so many pairs.
pub data Deed : Type 0 where
  Opens : (flow : ℕ) (arriving : Bool) → Deed
  ActsOn : (flow : ℕ) (act : Act) → Deed
  Makes : (flow : ℕ) (arriving : Bool) → Deed
  Takes : (flow : ℕ) (c : Chunk) → Deed
  Hands : (flow : ℕ) → Deed
  Acks : (flow pairs : ℕ) → Deed

-- ---- what a deed leaves

-- a session begins with none
abbrev pub none_yet : Flows
none_yet = record { opened = λ flow. None; made = λ flow. None }

-- that flow is changed, and no other one
abbrev pub changed_at : {X : Type 0} → ℕ → (Option X → Option X) → (ℕ → Option X) → ℕ → Option X
changed_at flow change kept n = if flow == n then change (kept n) else kept n

-- numbers begin at 1
abbrev pub opened_by : Bool → Option Opened → Option Opened
opened_by arriving None = Some (record { arriving = arriving; sender = new_sender 1 })
opened_by arriving (Some k) = Some k

abbrev pub acted_by : Act → Option Opened → Option Opened
acted_by act None = None
acted_by act (Some k) = Some (record { arriving = k.arriving; sender = acted k.sender act })

abbrev pub made_by : Bool → Option Receiver → Option Receiver
made_by arriving None = Some (fresh arriving)
made_by arriving (Some r) = Some r

abbrev pub taken_by : Chunk → Option Receiver → Option Receiver
taken_by c kept = option_map (λ r. taken r c) kept

abbrev pub handed_by : Option Receiver → Option Receiver
handed_by kept = option_map handed_next kept

abbrev pub with_opened : Flows → ℕ → (Option Opened → Option Opened) → Flows
with_opened fl flow change = record {
  opened = changed_at flow change fl.opened;
  made = fl.made;
}

abbrev pub with_made : Flows → ℕ → (Option Receiver → Option Receiver) → Flows
with_made fl flow change = record {
  opened = fl.opened;
  made = changed_at flow change fl.made;
}

abbrev pub did : Flows → Deed → Flows
did fl (Opens flow arriving) = with_opened fl flow (opened_by arriving)
did fl (ActsOn flow act) = with_opened fl flow (acted_by act)
did fl (Makes flow arriving) = with_made fl flow (made_by arriving)
did fl (Takes flow c) = with_made fl flow (taken_by c)
did fl (Hands flow) = with_made fl flow handed_by
did fl (Acks flow pairs) = fl

-- one after another, the first one first
abbrev pub did_all : Flows → List Deed → Flows
did_all fl [] = fl
did_all fl (d ∷ later) = did_all (did fl d) later

-- ---- what a deed states

abbrev pub as_queued : ℕ → Message → Stated
as_queued flow m = Queued flow m.number m.bytes

abbrev pub as_handed : ℕ → Message → Stated
as_handed flow m = Handed flow m.number m.bytes

-- the messages that are queued, the numbers of those that are abandoned, and those handed over
abbrev pub told : Flows → Deed → List Stated
told fl (ActsOn flow act) = map (as_queued flow) (queued_act (Some (fl.opened flow)) act)
    ++ map (Abandoned flow) (abandoned_act (Some (fl.opened flow)) act)
told fl (Hands flow) = map (as_handed flow) (handed_next_by (Some (fl.made flow)))
told fl deed = []

abbrev pub told_all : Flows → List Deed → List Stated
told_all fl [] = []
told_all fl (d ∷ later) = told fl d ++ told_all (did fl d) later

-- ---- which deeds may be done, where these pieces came

-- An ack that is heard came.
abbrev pub MayAct : List Piece → ℕ → Act → Type 0
MayAct came flow (Hears a) = IsIn (Ack flow a) came
MayAct came flow act = Unit {0}

-- A flow is opened once. What is acted on was opened. A flow is made once, of a chunk that came
-- and tells its order; what it takes came.
abbrev pub May : List Piece → Flows → Deed → Type 0
May came fl (Opens flow arriving) = fl.opened flow ≡ None
May came fl (ActsOn flow act) = ((k : Opened) × (fl.opened flow ≡ Some k)) × MayAct came flow act
May came fl (Makes flow arriving) = (fl.made flow ≡ None) × (c : Chunk)
    × IsIn (Data flow (record { chunk = c; order = Some arriving })) came
May came fl (Takes flow c) = ((r : Receiver) × (fl.made flow ≡ Some r)) × (order : Option Bool)
    × IsIn (Data flow (record { chunk = c; order = order })) came
May came fl (Hands flow) = (r : Receiver) × (y : Run) × (fl.made flow ≡ Some r)
    × (next_run r ≡ Some y)
May came fl (Acks flow pairs) = (r : Receiver) × (fl.made flow ≡ Some r)

-- each after those before it
abbrev pub MayAll : List Piece → Flows → List Deed → Type 0
MayAll came fl [] = Unit {0}
MayAll came fl (d ∷ later) = May came fl d × MayAll came (did fl d) later
