-- What a sending flow keeps, and how its calls but those of sending and of acks change it.
use Prim.Native.Nat.{zero, suc}
use Rattle.std.specs.Prelude.{ℕ, ◌+◌, ◌-◌, ◌==◌, map, if◌then◌else◌, nat_le, nat_lt, Bool, false}
use Rattle.std.specs.Prelude.{◌&&◌, ◌||◌, List, [], ◌∷◌, ◌++◌, Option, Some, None, length, drop}
use Rattle.std.specs.Option.{is_some}
use Rattle.std.specs.List.{sum_by}
use Rattle.rtmfp_data_chunks.specs.declared.user_data.Part.{Part}
use Rattle.rtmfp_data_chunks.specs.Fragments.{Message, fragment_at, fragment_count}
use Rattle.flow_send.specs.declared.state.State.TheVariants.{Unsent, Lost, Abandoned}
use Rattle.flow_send.specs.declared.waiting.MessageOptions.{MessageOptions}
use Rattle.flow_send.specs.declared.waiting.Waiting.{Waiting}
use Rattle.flow_send.specs.Rows.{Row, end_row, is_flying, is_lost, is_acknowledged, let_go}
use Rattle.flow_send.specs.Rows.{map_rows, any_row, settled_front}

pub record Sender : Type 0 where
  pub forward : ℕ  -- at or below it all is acknowledged, abandoned or below the flow's first number
  pub rows : List Row  -- the numbers above it, in order
  pub waiting : List Waiting  -- by rising number, neither abandoned nor wholly acknowledged
  pub finish : Option ℕ
  pub sent : ℕ  -- the highest number sent
  pub upto : ℕ  -- the cumulative ack of the last ack
  pub told : Option ℕ  -- the blocks that it told, where there was one
  pub notice : Option ℕ  -- the moment of the last notice of the forward number
  pub order : ℕ  -- how many sendings there were

abbrev pub sender_of : ℕ → List Row → List Waiting → Option ℕ → ℕ → ℕ → Option ℕ → Option ℕ → ℕ →
    Sender
sender_of forward rows waiting finish sent upto told notice order = record {
  forward = forward;
  rows = rows;
  waiting = waiting;
  finish = finish;
  sent = sent;
  upto = upto;
  told = told;
  notice = notice;
  order = order;
}

-- numbers below the first one count as settled
abbrev pub new_sender : ℕ → Sender
new_sender first = record {
  forward = first - 1;
  rows = [];
  waiting = [];
  finish = None;
  sent = first - 1;
  upto = first - 1;
  told = None;
  notice = None;
  order = 0;
}

-- the next number to be given
abbrev pub next_of : Sender → ℕ
next_of s = s.forward + 1 + length s.rows

-- the forward number passes all at the front that is settled
abbrev pub with_rows : List Row → List Waiting → Sender → Sender
with_rows rows waiting s = record {
  forward = s.forward + settled_front rows;
  rows = drop (settled_front rows) rows;
  waiting = waiting;
  finish = s.finish;
  sent = s.sent;
  upto = s.upto;
  told = s.told;
  notice = s.notice;
  order = s.order;
}

-- what is held of the messages that wait
abbrev pub bytes_held : Sender → ℕ
bytes_held s = sum_by (λ w. w.size) s.waiting

abbrev pub fragments_held : Sender → ℕ
fragments_held s = sum_by (λ w. w.count) s.waiting

-- queue
abbrev pub fresh_row : Part → List ℕ → Row
fresh_row part bytes = record {
  ends = false;
  fragment = record { part = part; bytes = bytes };
  state = Unsent;
  moment = 0;
  ordinal = 0;
  resends = 0;
  acks = 0;
}

abbrev pub new_row : Message → ℕ → Row
new_row m n = fresh_row (fragment_at m n).part (fragment_at m n).bytes

abbrev pub rows_of : Message → ℕ → ℕ → List Row
rows_of m n zero = []
rows_of m n (suc count) = new_row m n ∷ rows_of m (n + 1) count

abbrev pub waiting_of : Message → MessageOptions → Waiting
waiting_of m options = record {
  number = m.number;
  count = fragment_count m;
  size = length m.bytes;
  options = options;
}

abbrev pub queued : Message → MessageOptions → Sender → Sender
queued m options s = record s {
  rows = s.rows ++ rows_of m m.number (fragment_count m);
  waiting = s.waiting ++ waiting_of m options ∷ [];
}

-- number n is one of the message's
abbrev pub has_number : Waiting → ℕ → Bool
has_number w n = nat_le w.number n && nat_lt n (w.number + w.count)

-- the waiting message that begins at a number, and the others
abbrev pub message_at : ℕ → List Waiting → Option Waiting
message_at n [] = None
message_at n (w ∷ later) = if w.number == n then Some w else message_at n later

abbrev pub without_message : ℕ → List Waiting → List Waiting
without_message n [] = []
without_message n (w ∷ later) = if w.number == n then later else w ∷ without_message n later

abbrev pub waits : Sender → ℕ → Bool
waits s n = is_some (message_at n s.waiting)

-- abandon: its numbers that aren't acknowledged are abandoned
abbrev pub give_up_row : Row → Row
give_up_row r = if is_acknowledged r.state then r else let_go Abandoned r

abbrev pub give_up : Waiting → ℕ → Row → Row
give_up w n r = if has_number w n then give_up_row r else r

abbrev pub abandoned_with : Option Waiting → ℕ → Sender → Sender
abandoned_with None n s = s
abandoned_with (Some w) n s = with_rows (map_rows (give_up w) (s.forward + 1) s.rows)
    (without_message n s.waiting) s

abbrev pub abandoned : ℕ → Sender → Sender
abandoned n s = abandoned_with (message_at n s.waiting) n s

abbrev pub abandoned_if : Option ℕ → Sender → Sender
abandoned_if None s = s
abandoned_if (Some n) s = abandoned n s

-- abandon_first
abbrev pub first_number : List Waiting → Option ℕ
first_number [] = None
first_number (w ∷ later) = Some w.number

-- overdue: by its deadline, or where a lost fragment was sent again as often as its limit allows
abbrev pub is_past : Option ℕ → ℕ → Bool
is_past None moment = false
is_past (Some deadline) moment = nat_lt deadline moment

abbrev pub is_spent_row : ℕ → Row → Bool
is_spent_row limit r = is_lost r.state && nat_le limit r.resends

abbrev pub is_spent : Option ℕ → Waiting → ℕ → List Row → Bool
is_spent None w n rows = false
is_spent (Some limit) w n rows = any_row (λ k r. has_number w k && is_spent_row limit r) n rows

abbrev pub is_overdue : ℕ → ℕ → List Row → Waiting → Bool
is_overdue moment n rows w = is_past w.options.deadline moment
    || is_spent w.options.resends w n rows

abbrev pub first_overdue : ℕ → ℕ → List Row → List Waiting → Option ℕ
first_overdue moment n rows [] = None
first_overdue moment n rows (w ∷ later) = if is_overdue moment n rows w then Some w.number
    else first_overdue moment n rows later

abbrev pub overdue : ℕ → Sender → Option ℕ
overdue moment s = first_overdue moment (s.forward + 1) s.rows s.waiting

-- finish takes one further number
abbrev pub finished : Sender → Sender
finished s = record s { rows = s.rows ++ end_row ∷ []; finish = Some (next_of s) }

abbrev pub finish_by : Sender → Option ℕ → Sender
finish_by s None = finished s
finish_by s (Some n) = s

-- find_lost: a number in flight whose resend time has passed is lost
abbrev pub is_late : ℕ → ℕ → Row → Bool
is_late moment resend r = is_flying r.state && nat_le (r.moment + resend) moment

abbrev pub lost_if_late : ℕ → ℕ → Row → Row
lost_if_late moment resend r = if is_late moment resend r then record r { state = Lost } else r

abbrev pub lost_late : ℕ → ℕ → Sender → Sender
lost_late moment resend s = record s { rows = map (lost_if_late moment resend) s.rows }

-- No number is above the forward number, no message waits, and the last ack told so far, so that no
-- notice is owed.
abbrev pub is_idle : Sender → Bool
is_idle s = (length s.rows == 0) && ((length s.waiting == 0) && nat_le s.forward s.upto)
