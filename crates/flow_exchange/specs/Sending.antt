-- Any calls of a sender, one after another, beside what has happened in the exchange.
use Rattle.std.specs.Prelude.{ℕ, ◌≡◌, Bool, true, false, List, [], ◌∷◌, Option, Some, None}
use Rattle.rtmfp_data_chunks.specs.Runs.{Chunk}
use Rattle.flow_send.specs.declared.waiting.MessageOptions.{MessageOptions}
use Rattle.flow_send.specs.Sender.{Sender, new_sender, next_of, queued, waits, abandoned}
use Rattle.flow_send.specs.Sender.{first_number, overdue, finished, lost_late}
use Rattle.flow_send.specs.Choice.{Choice, choice, chunk_for, sent_after}
use Rattle.flow_send.specs.Acks.{Told, told_by}
use Rattle.flow_exchange.specs.Exchange.{Ack, World, start, Queued, Abandoned, Finished, Sent}
use Rattle.flow_exchange.specs.Exchange.{Heard, after, MaySend}

pub data Act : Type 0 where
  Queues : (bytes : List ℕ) → (options : MessageOptions) → Act
  Abandons : (n : ℕ) → Act
  AbandonsFirst : Act
  AbandonsOverdue : (moment : ℕ) → Act
  Finishes : Act
  Loses : (moment resend : ℕ) → Act
  Sends : (moment resend : ℕ) → Act
  Hears : (a : Told) → Act

pub record Sending : Type 0 where
  pub sender : Sender
  pub world : World

abbrev pub begun : ℕ → Sending
begun first = record { sender = new_sender first; world = start first }

-- the message that is queued has the next number. Nothing is queued after finish
abbrev pub queues : Sending → List ℕ → MessageOptions → Option ℕ → Sending
queues w bytes options (Some n) = w
queues w bytes options None =
    record {
      sender = queued (record { number = next_of w.sender; bytes = bytes }) options w.sender;
      world = after w.world (Queued (record { number = next_of w.sender; bytes = bytes }));
    }

abbrev pub finishes : Sending → Option ℕ → Sending
finishes w (Some n) = w
finishes w None = record {
  sender = finished w.sender;
  world = after w.world (Finished (next_of w.sender));
}

-- what is abandoned waits. Otherwise the call is refused
abbrev pub abandons : Sending → ℕ → Bool → Sending
abandons w n true = record { sender = abandoned n w.sender; world = after w.world (Abandoned n) }
abandons w n false = w

abbrev pub abandons_one : Sending → Option ℕ → Sending
abandons_one w None = w
abandons_one w (Some n) = abandons w n (waits w.sender n)

abbrev pub sends : Sending → ℕ → Choice → Option Chunk → Sending
sends w moment chosen None = w
sends w moment chosen (Some c) = record {
  sender = sent_after moment chosen w.sender;
  world = after w.world (Sent c);
}

abbrev pub ack_of : Told → Ack
ack_of a = record { upto = a.upto; spans = a.spans }

abbrev pub acts : Sending → Act → Sending
acts w (Queues bytes options) = queues w bytes options w.sender.finish
acts w (Abandons n) = abandons_one w (Some n)
acts w AbandonsFirst = abandons_one w (first_number w.sender.waiting)
acts w (AbandonsOverdue moment) = abandons_one w (overdue moment w.sender)
acts w Finishes = finishes w w.sender.finish
acts w (Loses moment resend) = record { sender = lost_late moment resend w.sender; world = w.world }
acts w (Sends moment resend) = sends w moment (choice moment resend w.sender)
    (chunk_for w.sender (choice moment resend w.sender))
acts w (Hears a) = record { sender = told_by a w.sender; world = after w.world (Heard (ack_of a)) }

abbrev pub all_acts : Sending → List Act → Sending
all_acts w [] = w
all_acts w (e ∷ es) = all_acts (acts w e) es

-- whatever chunk the sender gives next, it may be sent
abbrev pub SpeaksTrue : Sending → Type 0
SpeaksTrue w = (moment resend : ℕ) (c : Chunk) →
    chunk_for w.sender (choice moment resend w.sender) ≡ Some c → MaySend w.world c
