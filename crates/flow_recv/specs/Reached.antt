-- The calls of a receiver, one after another, and that calls lead to a receiver.
use Rattle.std.specs.Prelude.{◌≡◌, ◌<◌, ◌≤◌, Bool, false, List, [], ◌∷◌, ◌++◌, Option, Some, None}
use Rattle.rtmfp_data_chunks.specs.Fragments.{Message}
use Rattle.rtmfp_data_chunks.specs.Runs.{Chunk, Run, message_of}
use Rattle.flow_recv.specs.Receiver.{Receiver, fresh, taken, next_run, handed_next}

pub data Call : Type 0 where
  Takes : (c : Chunk) → Call
  Hands : Call

-- what a receiver keeps, the chunks that it took, the newest first, and the messages that it handed
-- over, in order
pub record Receiving : Type 0 where
  pub receiver : Receiver
  pub chunks : List Chunk
  pub handed : List Message

abbrev pub at_first : Bool → Receiving
at_first arriving = record { receiver = fresh arriving; chunks = []; handed = [] }

abbrev pub hands_over : Receiving → Option Run → Receiving
hands_over w None = w
hands_over w (Some y) = record {
  receiver = handed_next w.receiver;
  chunks = w.chunks;
  handed = w.handed ++ message_of y ∷ [];
}

abbrev pub calls : Receiving → Call → Receiving
calls w (Takes c) = record {
  receiver = taken w.receiver c;
  chunks = c ∷ w.chunks;
  handed = w.handed;
}
calls w Hands = hands_over w (next_run w.receiver)

abbrev pub all_calls : Receiving → List Call → Receiving
all_calls w [] = w
all_calls w (e ∷ es) = all_calls (calls w e) es

-- a chunk's forward number is at most its number, and equals it only with abandon
abbrev pub IsProper : Call → Type 0
IsProper (Takes c) = (c.forward ≤ c.seq) × (c.abandon ≡ false → c.forward < c.seq)
IsProper Hands = Unit {0}

abbrev pub AllProper : List Call → Type 0
AllProper [] = Unit {0}
AllProper (e ∷ es) = IsProper e × AllProper es

-- some list of proper calls leads to it from a receiver that has taken nothing
pub record IsReached (r : Receiver) : Type 0 where
  pub events : List Call
  pub proper : AllProper events
  pub leads : (all_calls (at_first r.arriving) events).receiver ≡ r
