-- One flow between many ends: what happens with it at whatever end, and what its ends keep then.
use Rattle.std.specs.Prelude.{ℕ, ◌==◌, if◌then◌else◌, Bool, List, [], ◌∷◌, Option, Some, None}
use Rattle.rtmfp_data_chunks.specs.Runs.{Chunk}
use Rattle.flow_recv.specs.Receiver.{Receiver, fresh, taken, handed_next}
use Rattle.flow_send.specs.Sender.{Sender, new_sender}
use Rattle.flow_send.specs.Acks.{Told}
use Rattle.flow_exchange.specs.Exchange.{start}
use Rattle.flow_exchange.specs.Sending.{Act, Sending, acts}

-- ---- what happens

-- a chunk of the flow in a datagram, and the order of handing over that its options tell, where
-- they tell one: whether messages are handed over as they arrive
pub record Carried : Type 0 where
  pub chunk : Chunk
  pub order : Option Bool

-- At an end with a session that sends in the flow's context. Its begin and end are those of the
-- session. The flow is opened in it, and then is acted on.
pub data AtSender : Type 0 where
  SendingBegins : AtSender
  SendingEnds : AtSender
  Opens : (arriving : Bool) → AtSender
  Acts : (act : Act) → AtSender

-- At an end with a session that takes what was sent in the flow's context. The flow is made by a
-- chunk, takes chunks, hands messages over, and tells an ack with so many pairs.
pub data AtReceiver : Type 0 where
  TakingBegins : AtReceiver
  TakingEnds : AtReceiver
  Makes : (arriving : Bool) → AtReceiver
  Takes : (c : Chunk) → AtReceiver
  Hands : AtReceiver
  Acks : (pairs : ℕ) → AtReceiver

-- What an end does to the flow. Goes is a datagram of it that goes out, with chunks of the flow or
-- with acks of it; Beside has nothing to do with the flow.
pub data Touch : Type 0 where
  BySender : (t : AtSender) → Touch
  ByReceiver : (t : AtReceiver) → Touch
  Goes : (chunks : List Carried) (acks : List Told) → Touch
  Beside : Touch

pub record Step : Type 0 where
  pub who : ℕ
  pub touch : Touch

-- the newest is the first
abbrev pub Steps : Type 0
Steps = List Step

abbrev pub step : ℕ → Touch → Step
step who touch = record { who = who; touch = touch }

-- ---- what the end that sends keeps: nothing without such a session, else the flow, where it is
-- open

pub record Opened : Type 0 where
  pub arriving : Bool
  pub sender : Sender

-- a sender beside which nothing has happened yet
abbrev pub alone : Sender → Sending
alone s = record { sender = s; world = start 1 }

abbrev pub acted : Sender → Act → Sender
acted s act = (acts (alone s) act).sender

abbrev pub opened_in : Option (Option Opened) → Bool → Option (Option Opened)
opened_in (Some None) b = Some (Some (record { arriving = b; sender = new_sender 1 }))
opened_in kept b = kept

abbrev pub acted_in : Option (Option Opened) → Act → Option (Option Opened)
acted_in (Some (Some k)) act =
    Some (Some (record { arriving = k.arriving; sender = acted k.sender act }))
acted_in kept act = kept

abbrev pub sender_after : Option (Option Opened) → AtSender → Option (Option Opened)
sender_after kept SendingBegins = Some None
sender_after kept SendingEnds = None
sender_after kept (Opens b) = opened_in kept b
sender_after kept (Acts act) = acted_in kept act

abbrev pub sending_after : Option (Option Opened) → Touch → Option (Option Opened)
sending_after kept (BySender t) = sender_after kept t
sending_after kept touch = kept

abbrev pub sending_at : Steps → ℕ → Option (Option Opened)
sending_at [] who = None
sending_at (s ∷ earlier) who =
    if s.who == who then sending_after (sending_at earlier who) s.touch
    else sending_at earlier who

-- ---- what the end that takes keeps, in the same way

abbrev pub made_in : Option (Option Receiver) → Bool → Option (Option Receiver)
made_in (Some None) b = Some (Some (fresh b))
made_in kept b = kept

abbrev pub with_receiver : Option (Option Receiver) → (Receiver → Receiver)
    → Option (Option Receiver)
with_receiver (Some (Some r)) f = Some (Some (f r))
with_receiver kept f = kept

abbrev pub receiver_after : Option (Option Receiver) → AtReceiver → Option (Option Receiver)
receiver_after kept TakingBegins = Some None
receiver_after kept TakingEnds = None
receiver_after kept (Makes b) = made_in kept b
receiver_after kept (Takes c) = with_receiver kept (λ r. taken r c)
receiver_after kept Hands = with_receiver kept handed_next
receiver_after kept (Acks pairs) = kept

abbrev pub taking_after : Option (Option Receiver) → Touch → Option (Option Receiver)
taking_after kept (ByReceiver t) = receiver_after kept t
taking_after kept touch = kept

abbrev pub taking_at : Steps → ℕ → Option (Option Receiver)
taking_at [] who = None
taking_at (s ∷ earlier) who =
    if s.who == who then taking_after (taking_at earlier who) s.touch
    else taking_at earlier who
