-- Small senders, by which the rules are told at their edges.
use Rattle.std.specs.Prelude.{ℕ, ◌+◌, false, List, [], ◌∷◌, Option, Some, None, length}
use Rattle.rtmfp_data_chunks.specs.declared.user_data.Part.TheVariants.{Whole}
use Rattle.flow_send.specs.declared.state.State.{State}
use Rattle.flow_send.specs.declared.state.State.TheVariants.{Unsent, Flying, Lost, Acknowledged}
use Rattle.flow_send.specs.declared.state.State.TheVariants.{Abandoned}
use Rattle.flow_send.specs.declared.waiting.Waiting.{Waiting}
use Rattle.flow_send.specs.Rows.{Row}
use Rattle.flow_send.specs.Sender.{Sender}
use Rattle.flow_send.specs.Flow.{Flow}

-- a number in a state, by the ordinal of its last sending and the acks counted against it
abbrev pub number_in : State → ℕ → ℕ → List ℕ → Row
number_in state ordinal acks bytes = record {
  ends = false;
  fragment = record { part = Whole; bytes = bytes };
  state = state;
  moment = 1000;
  ordinal = ordinal;
  resends = 0;
  acks = acks;
}

abbrev pub unsent : ℕ → ℕ → List ℕ → Row
unsent ordinal acks bytes = number_in Unsent ordinal acks bytes

abbrev pub flying : ℕ → ℕ → List ℕ → Row
flying ordinal acks bytes = number_in Flying ordinal acks bytes

abbrev pub lost : ℕ → ℕ → List ℕ → Row
lost ordinal acks bytes = number_in Lost ordinal acks bytes

abbrev pub acked : ℕ → ℕ → List ℕ → Row
acked ordinal acks bytes = number_in Acknowledged ordinal acks bytes

abbrev pub given_up : ℕ → ℕ → List ℕ → Row
given_up ordinal acks bytes = number_in Abandoned ordinal acks bytes

-- sent again so often
abbrev pub resent : ℕ → Row → Row
resent times r = record r { resends = times }

-- these numbers above a forward number, all of them sent
abbrev pub sender_of : ℕ → List Row → Sender
sender_of forward rows = record {
  forward = forward;
  rows = rows;
  waiting = [];
  finish = None;
  sent = forward + length rows;
  upto = forward;
  told = None;
  notice = None;
  order = 10;
}

-- number 1 and those after it
abbrev pub numbers : List Row → Sender
numbers rows = sender_of 0 rows

-- numbers 1 to 3 in flight
abbrev pub three : Sender
three = numbers (flying 1 0 [] ∷ flying 2 0 [] ∷ flying 3 0 [] ∷ [])

-- the last ack told these blocks, or this cumulative number
abbrev pub with_blocks : ℕ → Sender → Sender
with_blocks blocks s = record s { told = Some blocks }

abbrev pub acked_up_to : ℕ → Sender → Sender
acked_up_to upto s = record s { upto = upto }

-- these messages wait
abbrev pub with_waiting : List Waiting → Sender → Sender
with_waiting waiting s = record s { waiting = waiting }

-- a message that waits
abbrev pub waiting_at : ℕ → ℕ → ℕ → Option ℕ → Option ℕ → Waiting
waiting_at number count size deadline resends =
    record {
      number = number;
      count = count;
      size = size;
      options = record { deadline = deadline; resends = resends };
    }

-- a sender that holds a message of so many bytes and fragments
abbrev pub holding : ℕ → ℕ → Sender
holding size count = record (sender_of 0 []) { waiting = waiting_at 1 count size None None ∷ [] }

-- flow 2 with no options
abbrev pub flow_of : Sender → Flow
flow_of s = record { id = 2; options = []; priority = 0; sender = s }
