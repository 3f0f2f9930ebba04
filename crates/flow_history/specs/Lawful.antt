-- Which histories of many ends are lawful and honest.
use Rattle.std.specs.Prelude.{ℕ, ◌≡◌, ◌⊎◌, Bool, List, [], ◌∷◌, Option, Some, None}
use Rattle.rtmfp_data_chunks.specs.Runs.{Chunk, Run}
use Rattle.rtmfp_data_chunks.specs.HandsOver.{IsIn}
use Rattle.rtmfp_fragments.specs.Pieces.{PieceParts, pieces_of}
use Rattle.flow_recv.specs.Receiver.{Receiver, next_run}
use Rattle.flow_send.specs.Acks.{Told}
use Rattle.flow_exchange.specs.Sending.{Act, Hears}
use Rattle.flow_history.specs.Flow.{Opened, Carried, sending_at, taking_at}
use Rattle.flow_history.specs.Said.{WasGiven, WasTold}
use Rattle.flow_history.specs.Deeds.{Context, back, Name, name, Piece, Data, Ack, Part, Deed, Begins}
use Rattle.flow_history.specs.Deeds.{Leaves, OpensFlow, ActsOn, MakesFlow, TakesFrom, HandsOn}
use Rattle.flow_history.specs.Deeds.{AcksOn, In, Out, Splits, History, steps_of}

-- ---- lawful

abbrev pub BeginsIn : Context → Deed → Type 0
BeginsIn c (Begins d) = d ≡ c
BeginsIn c deed = ⊥

abbrev pub HasBegun : Context → History → Type 0
HasBegun c [] = ⊥
HasBegun c (d ∷ earlier) = BeginsIn c d.deed ⊎ HasBegun c earlier

-- This end did it.
abbrev pub HasBegunAt : ℕ → Context → History → Type 0
HasBegunAt who c [] = ⊥
HasBegunAt who c (d ∷ earlier) = ((d.who ≡ who) × BeginsIn c d.deed) ⊎ HasBegunAt who c earlier

-- the packet is split in this context into pieces of this size, under this ID
abbrev pub SplitsAs : Context → ℕ → ℕ → List ℕ → Deed → Type 0
SplitsAs c id size packet (Splits d i s p) = (d ≡ c) × (i ≡ id) × (s ≡ size) × (p ≡ packet)
SplitsAs c id size packet deed = ⊥

-- Some end did it.
abbrev pub WasSplit : Context → ℕ → ℕ → List ℕ → History → Type 0
WasSplit c id size packet [] = ⊥
WasSplit c id size packet (d ∷ earlier) = SplitsAs c id size packet d.deed
    ⊎ WasSplit c id size packet earlier

-- a packet is split in this context under this ID
abbrev pub SplitsUnder : Context → ℕ → Deed → Type 0
SplitsUnder c id (Splits d i size packet) = (d ≡ c) × (i ≡ id)
SplitsUnder c id deed = ⊥

-- This end did it.
abbrev pub WasSplitBy : ℕ → Context → ℕ → History → Type 0
WasSplitBy who c id [] = ⊥
WasSplitBy who c id (d ∷ earlier) = ((d.who ≡ who) × SplitsUnder c id d.deed)
    ⊎ WasSplitBy who c id earlier

-- a piece of a packet that was split in this context under this ID
abbrev pub HasPart : Context → ℕ → PieceParts → History → Type 0
HasPart c id x h = (size : ℕ) × (packet : List ℕ) × WasSplit c id size packet h
    × IsIn x (pieces_of packet size)

-- a packet that came in this context and has this piece
abbrev pub Brings : Context → Piece → Deed → Type 0
Brings c piece (In d pieces) = (d ≡ c) × IsIn piece pieces
Brings c piece deed = ⊥

-- The end took such a packet.
abbrev pub CameIn : ℕ → Context → Piece → History → Type 0
CameIn who c piece [] = ⊥
CameIn who c piece (d ∷ earlier) = ((d.who ≡ who) × Brings c piece d.deed)
    ⊎ CameIn who c piece earlier

-- An ack that is heard came in the context back.
abbrev pub MayActOn : History → ℕ → Name → Act → Type 0
MayActOn h who n (Hears a) = CameIn who (back n.context) (Ack n.flow a) h
MayActOn h who n act = Unit {0}

-- At most one session ever sends in a context, and a flow is opened there once and made once. What
-- is taken came in the flow's context, and the chunk of which a flow is made tells its order. What
-- goes out the flows gave and told before, and a part that goes out is one of a packet that was
-- split. An end splits packets in a context in which a session of it sends, and an ID is given once
-- in a context.
abbrev pub MayDo : History → ℕ → Deed → Type 0
MayDo h who (Begins c) = HasBegun c h → ⊥
MayDo h who (Leaves c) = Unit {0}
MayDo h who (OpensFlow n b) = sending_at (steps_of n h) who ≡ Some None
MayDo h who (ActsOn n act) =
    ((flow : Opened) × (sending_at (steps_of n h) who ≡ Some (Some flow))) × MayActOn h who n act
MayDo h who (MakesFlow n b) = (taking_at (steps_of n h) who ≡ Some None)
    × (c : Chunk) × CameIn who n.context (Data n.flow (record { chunk = c; order = Some b })) h
MayDo h who (TakesFrom n c) =
    ((r : Receiver) × (taking_at (steps_of n h) who ≡ Some (Some r)))
    × (order : Option Bool)
    × CameIn who n.context (Data n.flow (record { chunk = c; order = order })) h
MayDo h who (HandsOn n) = (r : Receiver) × (y : Run)
    × (taking_at (steps_of n h) who ≡ Some (Some r)) × (next_run r ≡ Some y)
MayDo h who (AcksOn n pairs) = (r : Receiver) × (taking_at (steps_of n h) who ≡ Some (Some r))
MayDo h who (In c pieces) = Unit {0}
MayDo h who (Out c pieces) =
    ((f : ℕ) (x : Carried) → IsIn (Data f x) pieces → WasGiven (steps_of (name c f) h) x)
    × ((f : ℕ) (a : Told) → IsIn (Ack f a) pieces → WasTold (steps_of (name (back c) f) h) a)
    × ((id : ℕ) (x : PieceParts) → IsIn (Part id x) pieces → HasPart c id x h)
MayDo h who (Splits c id size packet) = HasBegunAt who c h
    × ((s : ℕ) (p : List ℕ) → WasSplit c id s p h → ⊥)

abbrev pub IsLawful : History → Type 0
IsLawful [] = Unit {0}
IsLawful (d ∷ earlier) = MayDo earlier d.who d.deed × IsLawful earlier

-- ---- honest

-- a packet that went out in this context, with just these pieces
abbrev pub SendsOut : Context → List Piece → Deed → Type 0
SendsOut c pieces (Out d sent) = (d ≡ c) × (sent ≡ pieces)
SendsOut c pieces deed = ⊥

abbrev pub WasSent : Context → List Piece → History → Type 0
WasSent c pieces [] = ⊥
WasSent c pieces (d ∷ earlier) = SendsOut c pieces d.deed ⊎ WasSent c pieces earlier

-- A packet that comes in a context was sent in it.
abbrev pub IsHonestDeed : History → Deed → Type 0
IsHonestDeed h (In c pieces) = WasSent c pieces h
IsHonestDeed h deed = Unit {0}

abbrev pub IsHonest : History → Type 0
IsHonest [] = Unit {0}
IsHonest (d ∷ earlier) = IsHonestDeed earlier d.deed × IsHonest earlier
