-- Any calls of a sender, one after another, and what they did.
use Rattle.std.specs.Prelude.{ℕ, ◌≡◌, ◌+◌, ◌-◌, ◌^◌, ◌<◌, ◌≤◌, ◌==◌, nat_lt, min, max, not}
use Rattle.std.specs.Prelude.{if◌then◌else◌, Bool, true, false, ◌&&◌, ◌||◌, List, [], ◌∷◌, Option}
use Rattle.std.specs.Prelude.{Some, None, length}
use Rattle.rtmfp_data_chunks.specs.Fragments.{Message}
use Rattle.flow_send.specs.declared.state.State.{State}
use Rattle.flow_send.specs.declared.waiting.MessageOptions.{MessageOptions}
use Rattle.flow_send.specs.declared.waiting.Waiting.{Waiting}
use Rattle.flow_send.specs.declared.outcome.QueueRefusal.{QueueRefusal}
use Rattle.flow_send.specs.Rows.{Row, is_unsent, is_flying, is_lost, is_acknowledged, is_abandoned}
use Rattle.flow_send.specs.Sender.{Sender, new_sender, next_of, queued, message_at, has_number}
use Rattle.flow_send.specs.Sender.{abandoned, finished, lost_late}
use Rattle.flow_send.specs.Choice.{Choice, Nothing, Send, Notify, choice, sent_after}
use Rattle.flow_send.specs.Acks.{Told, tells, beyond, told_by}
use Rattle.flow_send.specs.Flow.{queue_refusal, next_message}

-- Next asks for a chunk, within any window and room. Whatever abandons a message does so by its
-- number
pub data Call : Type 0 where
  Queue : (bytes : List ℕ) → (options : MessageOptions) → Call
  Abandon : (n : ℕ) → Call
  Finish : Call
  Lose : (moment resend : ℕ) → Call
  Next : (moment resend : ℕ) → Call
  Hear : (a : Told) → Call

-- what a call did. A number was sent, for the first time or again; a notice told the forward
-- number; a look made lost what was sent so long before
pub data Done : Type 0 where
  Queued : (m : Message) → (options : MessageOptions) → Done
  Abandoned : (w : Waiting) → Done
  Finished : (n : ℕ) → Done
  Sent : (n moment : ℕ) → Done
  Noticed : (n moment : ℕ) → Done
  Looked : (moment resend : ℕ) → Done
  Heard : (a : Told) → Done

-- a sender, and what its calls did, the newest first
pub record Sending : Type 0 where
  pub sender : Sender
  pub done : List Done

abbrev pub begun : ℕ → Sending
begun first = record { sender = new_sender first; done = [] }

-- a call that is refused does nothing
abbrev pub queues : Sending → List ℕ → MessageOptions → Option QueueRefusal → Sending
queues w bytes options None =
    record {
      sender = queued (next_message w.sender bytes) options w.sender;
      done = Queued (next_message w.sender bytes) options ∷ w.done;
    }
queues w bytes options (Some refusal) = w

abbrev pub abandons : Sending → ℕ → Option Waiting → Sending
abandons w n None = w
abandons w n (Some x) = record { sender = abandoned n w.sender; done = Abandoned x ∷ w.done }

abbrev pub finishes : Sending → Option ℕ → Sending
finishes w None = record { sender = finished w.sender; done = Finished (next_of w.sender) ∷ w.done }
finishes w (Some n) = w

abbrev pub sends : Sending → ℕ → Choice → Sending
sends w moment Nothing = w
sends w moment (Send n r) = record {
  sender = sent_after moment (Send n r) w.sender;
  done = Sent n moment ∷ w.done;
}
sends w moment Notify = record {
  sender = sent_after moment Notify w.sender;
  done = Noticed w.sender.forward moment ∷ w.done;
}

abbrev pub hears : Sending → Told → Option ℕ → Sending
hears w a None = record { sender = told_by a w.sender; done = Heard a ∷ w.done }
hears w a (Some n) = w

abbrev pub calls : Sending → Call → Sending
calls w (Queue bytes options) = queues w bytes options (queue_refusal w.sender (length bytes))
calls w (Abandon n) = abandons w n (message_at n w.sender.waiting)
calls w Finish = finishes w w.sender.finish
calls w (Lose moment resend) = record {
  sender = lost_late moment resend w.sender;
  done = Looked moment resend ∷ w.done;
}
calls w (Next moment resend) = sends w moment (choice moment resend w.sender)
calls w (Hear a) = hears w a (beyond w.sender a)

abbrev pub all_calls : Sending → List Call → Sending
all_calls w [] = w
all_calls w (c ∷ cs) = all_calls (calls w c) cs

-- ---- what was done, told by itself

-- the cumulative number of the last ack
abbrev pub last_upto : ℕ → List Done → ℕ
last_upto first [] = first - 1
last_upto first (Heard a ∷ earlier) = a.upto
last_upto first (_ ∷ earlier) = last_upto first earlier

-- and the blocks that it told
abbrev pub last_blocks : List Done → Option ℕ
last_blocks [] = None
last_blocks (Heard a ∷ earlier) = Some a.blocks
last_blocks (_ ∷ earlier) = last_blocks earlier

-- the greatest number of all sendings, notices included
abbrev pub greatest_sent : ℕ → List Done → ℕ
greatest_sent first [] = first - 1
greatest_sent first (Sent n moment ∷ earlier) = max (greatest_sent first earlier) n
greatest_sent first (Noticed n moment ∷ earlier) = max (greatest_sent first earlier) n
greatest_sent first (_ ∷ earlier) = greatest_sent first earlier

-- how many sendings there were, and how many of number n
abbrev pub sendings : List Done → ℕ
sendings [] = 0
sendings (Sent n moment ∷ earlier) = sendings earlier + 1
sendings (Noticed n moment ∷ earlier) = sendings earlier + 1
sendings (_ ∷ earlier) = sendings earlier

abbrev pub times_sent : List Done → ℕ → ℕ
times_sent [] n = 0
times_sent (Sent k moment ∷ earlier) n = if k == n then times_sent earlier n + 1
    else times_sent earlier n
times_sent (_ ∷ earlier) n = times_sent earlier n

-- the moment of the last one of number n, and its ordinal among all sendings, where counts stand
-- still at 64 bits
abbrev pub last_sending : List Done → ℕ → Option (ℕ × ℕ)
last_sending [] n = None
last_sending (Sent k moment ∷ earlier) n = if k == n then
    Some (moment, min (sendings earlier + 1) (2 ^ 64 - 1)) else last_sending earlier n
last_sending (_ ∷ earlier) n = last_sending earlier n

-- the moment of the last notice
abbrev pub last_notice : List Done → Option ℕ
last_notice [] = None
last_notice (Noticed n moment ∷ earlier) = Some moment
last_notice (_ ∷ earlier) = last_notice earlier

-- the number of finish
abbrev pub end_number : List Done → Option ℕ
end_number [] = None
end_number (Finished n ∷ earlier) = Some n
end_number (_ ∷ earlier) = end_number earlier

-- a heard ack tells number n
abbrev pub is_told : List Done → ℕ → Bool
is_told [] n = false
is_told (Heard a ∷ earlier) n = tells a n || is_told earlier n
is_told (_ ∷ earlier) n = is_told earlier n

-- number n is one of an abandoned message
abbrev pub is_given_up : List Done → ℕ → Bool
is_given_up [] n = false
is_given_up (Abandoned w ∷ earlier) n = has_number w n || is_given_up earlier n
is_given_up (_ ∷ earlier) n = is_given_up earlier n

-- number n is below the flow's first one, acknowledged, or abandoned
abbrev pub is_over : ℕ → List Done → ℕ → Bool
is_over first done n = nat_lt n first || is_told done n || is_given_up done n

-- ---- the sender against it

-- the values of the last ack, of all sendings, of notices and of finish
pub record TellsLast (first : ℕ) (w : Sending) : Type 0 where
  pub upto : w.sender.upto ≡ last_upto first w.done
  pub blocks : w.sender.told ≡ last_blocks w.done
  pub sent : w.sender.sent ≡ greatest_sent first w.done
  pub notice : w.sender.notice ≡ last_notice w.done
  pub finish : w.sender.finish ≡ end_number w.done
  pub order : w.sender.order ≡ min (sendings w.done) (2 ^ 64 - 1)

-- a number is acknowledged exactly where a heard ack tells it, and abandoned exactly where else it
-- is one of an abandoned message
pub record Stands (done : List Done) (n : ℕ) (r : Row) : Type 0 where
  pub acknowledged : is_acknowledged r.state ≡ is_told done n
  pub abandoned : is_abandoned r.state ≡ (is_given_up done n && not (is_told done n))

abbrev pub AllStand : List Done → ℕ → List Row → Type 0
AllStand done n [] = Unit {0}
AllStand done n (r ∷ rows) = Stands done n r × AllStand done (n + 1) rows

-- it was sent, and is neither settled nor to be sent for the first time
abbrev pub is_out : State → Bool
is_out state = is_flying state || is_lost state

-- Each sending of a number but the first follows a loss. The resends are those, where counts stand
-- still at 32 bits
pub record SentAs (done : List Done) (n : ℕ) (r : Row) : Type 0 where
  pub unsent : is_unsent r.state ≡ true → times_sent done n ≡ 0
  pub some : is_out r.state ≡ true → 1 ≤ times_sent done n
  pub resends : r.resends ≡ min (times_sent done n - 1) (2 ^ 32 - 1)
  pub last : is_out r.state ≡ true → last_sending done n ≡ Some (r.moment, r.ordinal)

abbrev pub AllSent : List Done → ℕ → List Row → Type 0
AllSent done n [] = Unit {0}
AllSent done n (r ∷ rows) = SentAs done n r × AllSent done (n + 1) rows

-- the forward number is the greatest one at or below which all is over: the number after it isn't,
-- or isn't given yet
pub record IsForward (first : ℕ) (w : Sending) : Type 0 where
  pub over : (n : ℕ) → n ≤ w.sender.forward → is_over first w.done n ≡ true
  pub next : w.sender.forward + 1 < next_of w.sender →
      is_over first w.done (w.sender.forward + 1) ≡ false

pub record StandsFor (first : ℕ) (w : Sending) : Type 0 where
  pub last : TellsLast first w
  pub rows : AllStand w.done (w.sender.forward + 1) w.sender.rows
  pub sent : AllSent w.done (w.sender.forward + 1) w.sender.rows
  pub forward : IsForward first w
