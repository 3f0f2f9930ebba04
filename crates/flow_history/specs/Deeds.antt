-- What many ends do with all their flows, deed by deed, and what a deed is for one of them. A flow
-- is named by its context, which has a direction, and its flow ID.
use Rattle.std.specs.Prelude.{ℕ, ◌==◌, ◌&&◌, if◌then◌else◌, not, Bool, true, false, List, [], ◌∷◌}
use Rattle.std.specs.Str.{bytes_eq}
use Rattle.glare_core.specs.Tells.{Values}
use Rattle.rtmfp_data_chunks.specs.Runs.{Chunk}
use Rattle.rtmfp_fragments.specs.Pieces.{PieceParts}
use Rattle.flow_send.specs.Acks.{Told}
use Rattle.flow_exchange.specs.Sending.{Act}
use Rattle.flow_history.specs.Flow.{Carried, SendingBegins, SendingEnds, Opens, Acts, TakingBegins}
use Rattle.flow_history.specs.Flow.{TakingEnds, Makes, Takes, Hands, Acks, Touch, BySender}
use Rattle.flow_history.specs.Flow.{ByReceiver, Goes, Beside, Steps, step}

-- ---- names

-- the values of a session, and a direction in it: together those by which it is sealed
pub record Context : Type 0 where
  pub session : Values
  pub to_responder : Bool

abbrev pub back : Context → Context
back c = record { session = c.session; to_responder = not c.to_responder }

pub record Name : Type 0 where
  pub context : Context
  pub flow : ℕ

abbrev pub name : Context → ℕ → Name
name c f = record { context = c; flow = f }

abbrev pub same_way : Bool → Bool → Bool
same_way true b = b
same_way false b = not b

abbrev pub same_values : Values → Values → Bool
same_values v w =
    bytes_eq v.ni w.ni && (bytes_eq v.nr w.nr
    && (bytes_eq v.initiator w.initiator && (bytes_eq v.responder w.responder
    && ((v.near_i == w.near_i) && (v.near_r == w.near_r)))))

abbrev pub same : Context → Context → Bool
same c d = same_values c.session d.session && same_way c.to_responder d.to_responder

abbrev pub same_name : Name → Name → Bool
same_name m n = (m.flow == n.flow) && same m.context n.context

-- ---- what ends do

-- What a packet has of flows: chunks of those of its own context, and acks of those of the context
-- back; or a piece of another packet, under that packet's ID.
pub data Piece : Type 0 where
  Data : (flow : ℕ) (x : Carried) → Piece
  Ack : (flow : ℕ) (a : Told) → Piece
  Part : (id : ℕ) (x : PieceParts) → Piece

-- Begins and Leaves name the context in which a session sends; it takes in the one back. In and Out
-- are packets in a context, whole in one datagram, or as they are split and gathered. Splits is a
-- packet's bytes that go out in the context in pieces of this size, under an ID.
pub data Deed : Type 0 where
  Begins : (c : Context) → Deed
  Leaves : (c : Context) → Deed
  OpensFlow : (n : Name) (arriving : Bool) → Deed
  ActsOn : (n : Name) (act : Act) → Deed
  MakesFlow : (n : Name) (arriving : Bool) → Deed
  TakesFrom : (n : Name) (c : Chunk) → Deed
  HandsOn : (n : Name) → Deed
  AcksOn : (n : Name) (pairs : ℕ) → Deed
  In : (c : Context) (pieces : List Piece) → Deed
  Out : (c : Context) (pieces : List Piece) → Deed
  Splits : (c : Context) (id size : ℕ) (packet : List ℕ) → Deed

pub record Done : Type 0 where
  pub who : ℕ
  pub deed : Deed

abbrev pub done : ℕ → Deed → Done
done who deed = record { who = who; deed = deed }

-- the newest is the first
abbrev pub History : Type 0
History = List Done

-- ---- what it is for one flow

abbrev pub data_of : ℕ → List Piece → List Carried
data_of f [] = []
data_of f (Data g x ∷ rest) = if g == f then x ∷ data_of f rest else data_of f rest
data_of f (Ack g a ∷ rest) = data_of f rest
data_of f (Part id x ∷ rest) = data_of f rest

abbrev pub acks_of : ℕ → List Piece → List Told
acks_of f [] = []
acks_of f (Data g x ∷ rest) = acks_of f rest
acks_of f (Ack g a ∷ rest) = if g == f then a ∷ acks_of f rest else acks_of f rest
acks_of f (Part id x ∷ rest) = acks_of f rest

-- one thing in the flow's context, another one in the context back
abbrev pub by_context : Context → Name → Touch → Touch → Touch
by_context c n there here =
    if same c n.context then there
    else if same (back c) n.context then here
    else Beside

abbrev pub by_name : Name → Name → Touch → Touch
by_name m n t = if same_name m n then t else Beside

abbrev pub touch_of : Name → Deed → Touch
touch_of n (Begins c) = by_context c n (BySender SendingBegins) (ByReceiver TakingBegins)
touch_of n (Leaves c) = by_context c n (BySender SendingEnds) (ByReceiver TakingEnds)
touch_of n (OpensFlow m b) = by_name m n (BySender (Opens b))
touch_of n (ActsOn m act) = by_name m n (BySender (Acts act))
touch_of n (MakesFlow m b) = by_name m n (ByReceiver (Makes b))
touch_of n (TakesFrom m c) = by_name m n (ByReceiver (Takes c))
touch_of n (HandsOn m) = by_name m n (ByReceiver Hands)
touch_of n (AcksOn m pairs) = by_name m n (ByReceiver (Acks pairs))
touch_of n (In c pieces) = Beside
touch_of n (Out c pieces) = by_context c n (Goes (data_of n.flow pieces) [])
    (Goes [] (acks_of n.flow pieces))
touch_of n (Splits c id size packet) = Beside

abbrev pub steps_of : Name → History → Steps
steps_of n [] = []
steps_of n (d ∷ earlier) = step d.who (touch_of n d.deed) ∷ steps_of n earlier
