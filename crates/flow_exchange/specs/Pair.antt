-- One sender and one receiver, over a network that loses, repeats and reorders. Every list of
-- events is allowed.
use Rattle.std.specs.Prelude.{ℕ, ◌||◌, if◌then◌else◌, nat_lt, Bool, List, [], ◌∷◌, map, take}
use Rattle.std.specs.Prelude.{Option, Some, None, slice_get}
use Rattle.std.specs.Option.{is_some}
use Rattle.flow_recv.specs.declared.spans.Span.{Span}
use Rattle.rtmfp_data_chunks.specs.Runs.{Chunk, Run, message_of}
use Rattle.flow_recv.specs.Acking.{later_spans}
use Rattle.flow_recv.specs.Receiver.{Receiver, fresh, taken, after_final, beyond_buffer}
use Rattle.flow_recv.specs.Receiver.{end_of_first, next_run, handed_next}
use Rattle.flow_send.specs.declared.waiting.MessageOptions.{MessageOptions}
use Rattle.flow_send.specs.Sender.{Sender, new_sender, first_number, overdue, lost_late}
use Rattle.flow_send.specs.Choice.{choice, chunk_for}
use Rattle.flow_send.specs.Acks.{greatest, told_by}
use Rattle.flow_exchange.specs.Exchange.{Ack, World, start, Taken, Told as Ack_sent, Heard, Handed}
use Rattle.flow_exchange.specs.Exchange.{after}
use Rattle.flow_exchange.specs.Sending.{Sending, queues, finishes, abandons_one, sends}

-- Takes and Hears name a chunk or an ack that was ever sent, so that each may come again, late or
-- never
pub data Happening : Type 0 where
  Queues : (bytes : List ℕ) → (options : MessageOptions) → Happening
  Abandons : (n : ℕ) → Happening
  AbandonsFirst : Happening
  AbandonsOverdue : (moment : ℕ) → Happening
  Finishes : Happening
  Loses : (moment resend : ℕ) → Happening
  Sends : (moment resend : ℕ) → Happening
  Takes : (which : ℕ) → Happening
  Hands : Happening
  Acks : (pairs : ℕ) → Happening
  Hears : (which blocks : ℕ) → Happening

pub record Pair : Type 0 where
  pub sender : Sender
  pub receiver : Receiver
  pub world : World

abbrev pub pair : ℕ → Bool → Pair
pair first arriving = record {
  sender = new_sender first;
  receiver = fresh arriving;
  world = start first;
}

-- the sender's part
abbrev pub sender_of : Pair → Sending
sender_of p = record { sender = p.sender; world = p.world }

abbrev pub with_sender : Pair → Sending → Pair
with_sender p w = record { sender = w.sender; receiver = p.receiver; world = w.world }

-- a refused chunk changes nothing
abbrev pub refuses : Receiver → Chunk → Bool
refuses r c = is_some (after_final r c) || is_some (beyond_buffer r c)

abbrev pub takes : Pair → Option Chunk → Pair
takes p None = p
takes p (Some c) = if refuses p.receiver c then p
    else record {
      sender = p.sender;
      receiver = taken p.receiver c;
      world = after p.world (Taken c);
    }

abbrev pub hands_next : Pair → Option Run → Pair
hands_next p None = p
hands_next p (Some y) = record {
  sender = p.sender;
  receiver = handed_next p.receiver;
  world = after p.world (Handed (message_of y));
}

-- the ack tells the end of the first span, and some of the others
abbrev pub span_pair : Span → ℕ × ℕ
span_pair s = (s.first, s.last)

abbrev pub ack_by : Receiver → ℕ → Ack
ack_by r pairs = record {
  upto = end_of_first r.spans;
  spans = map span_pair (take pairs (later_spans r.spans));
}

-- an ack beyond the highest number sent is refused
abbrev pub hears : Pair → ℕ → Option Ack → Pair
hears p blocks None = p
hears p blocks (Some a) =
    if nat_lt p.sender.sent (greatest a.upto a.spans) then p
    else record {
      sender = told_by (record { blocks = blocks; upto = a.upto; spans = a.spans })
          p.sender;
      receiver = p.receiver;
      world = after p.world (Heard a);
    }

abbrev pub happens : Pair → Happening → Pair
happens p (Queues bytes options) = with_sender p
    (queues (sender_of p) bytes options p.sender.finish)
happens p (Abandons n) = with_sender p (abandons_one (sender_of p) (Some n))
happens p AbandonsFirst = with_sender p (abandons_one (sender_of p) (first_number p.sender.waiting))
happens p (AbandonsOverdue moment) = with_sender p
    (abandons_one (sender_of p) (overdue moment p.sender))
happens p Finishes = with_sender p (finishes (sender_of p) p.sender.finish)
happens p (Loses moment resend) = record {
  sender = lost_late moment resend p.sender;
  receiver = p.receiver;
  world = p.world;
}
happens p (Sends moment resend) = with_sender p
    (sends (sender_of p) moment (choice moment resend p.sender)
    (chunk_for p.sender (choice moment resend p.sender)))
happens p (Takes which) = takes p (slice_get p.world.sent which)
happens p Hands = hands_next p (next_run p.receiver)
happens p (Acks pairs) = record {
  sender = p.sender;
  receiver = p.receiver;
  world = after p.world (Ack_sent (ack_by p.receiver pairs));
}
happens p (Hears which blocks) = hears p blocks (slice_get p.world.told which)

abbrev pub exchanged : Pair → List Happening → Pair
exchanged p [] = p
exchanged p (e ∷ es) = exchanged (happens p e) es
