-- Which chunk a sending flow sends next, and what its sending changes.
use Rattle.std.specs.Prelude.{ℕ, ◌+◌, ◌-◌, ◌*◌, ◌^◌, ◌==◌, if◌then◌else◌, nat_le, nat_lt, min, max}
use Rattle.std.specs.Prelude.{Bool, true, false, ◌&&◌, List, [], ◌∷◌, Option, Some, None, length}
use Rattle.rtmfp_data_chunks.specs.declared.user_data.Part.TheVariants.{Whole}
use Rattle.rtmfp_data_chunks.specs.Runs.{Chunk}
use Rattle.flow_send.specs.declared.state.State.{State}
use Rattle.flow_send.specs.declared.state.State.TheVariants.{Flying}
use Rattle.flow_send.specs.Rows.{Row, is_unsent, is_lost, map_rows, in_flight, any_flying}
use Rattle.flow_send.specs.Sender.{Sender}

-- nothing, the fragment of number n or the end of the flow, or a notice of the forward number
pub data Choice : Type 0 where
  Nothing : Choice
  Send : (n : ℕ) → (r : Row) → Choice
  Notify : Choice

-- the lowest number whose state passes a test
abbrev pub first_in : (State → Bool) → ℕ → List Row → Choice
first_in test n [] = Nothing
first_in test n (r ∷ rows) = if test r.state then Send n r else first_in test (n + 1) rows

-- the flow's own limit: the blocks last told, or 65,536 bytes before a first ack. It isn't asked
-- where nothing is in flight
abbrev pub flow_limit : Option ℕ → ℕ
flow_limit None = 65536
flow_limit (Some blocks) = blocks * 1024

abbrev pub within_limit : Sender → ℕ → Bool
within_limit s bytes = if any_flying s.rows then
    nat_le (in_flight s.rows + bytes) (flow_limit s.told) else true

-- no notice was sent within the resend time
abbrev pub is_quiet : Option ℕ → ℕ → ℕ → Bool
is_quiet None moment resend = true
is_quiet (Some last) moment resend = nat_le (last + resend) moment

abbrev pub notice_due : ℕ → ℕ → Sender → Choice
notice_due moment resend s = if nat_lt s.upto s.forward && is_quiet s.notice moment resend then
    Notify else Nothing

abbrev pub or_else : Choice → Choice → Choice
or_else Nothing other = other
or_else (Send n r) other = Send n r
or_else Notify other = Notify

-- the lowest lost number, else the lowest unsent one; where there is neither, a notice that is due
abbrev pub next_choice : ℕ → ℕ → Sender → Choice
next_choice moment resend s =
    or_else (first_in is_lost (s.forward + 1) s.rows)
    (or_else (first_in is_unsent (s.forward + 1) s.rows) (notice_due moment resend s))

-- the bytes that count for the limits. A notice, as the number of finish, counts as a fragment of
-- no bytes
abbrev pub choice_bytes : Choice → ℕ
choice_bytes Nothing = 0
choice_bytes (Send n r) = length r.fragment.bytes
choice_bytes Notify = 0

abbrev pub choice : ℕ → ℕ → Sender → Choice
choice moment resend s =
    if within_limit s (choice_bytes (next_choice moment resend s)) then next_choice moment resend s
    else Nothing

-- the chunk of a choice
abbrev pub chunk_for : Sender → Choice → Option Chunk
chunk_for s Nothing = None
chunk_for s (Send n r) =
    Some (record {
      part = r.fragment.part;
      abandon = r.ends;
      last = r.ends;
      seq = n;
      forward = s.forward;
      bytes = r.fragment.bytes;
    })
chunk_for s Notify =
    Some (record {
      part = Whole;
      abandon = true;
      last = false;
      seq = s.forward;
      forward = s.forward;
      bytes = [];
    })

-- a count stands still at its type's end
abbrev pub count_up : ℕ → ℕ → ℕ
count_up bits n = min (n + 1) (2 ^ bits - 1)

abbrev pub sent_row : ℕ → ℕ → Row → Row
sent_row moment ordinal r = record r {
  state = Flying;
  moment = moment;
  ordinal = ordinal;
  resends = if is_lost r.state then count_up 32 r.resends else r.resends;
  acks = 0;
}

abbrev pub put_at : ℕ → Row → ℕ → Row → Row
put_at n new k r = if k == n then new else r

abbrev pub sent_after : ℕ → Choice → Sender → Sender
sent_after moment Nothing s = s
sent_after moment Notify s = record s {
  notice = Some moment;
  sent = max s.sent s.forward;
  order = count_up 64 s.order;
}
sent_after moment (Send n r) s =
    record s {
      rows = map_rows (put_at n (sent_row moment (count_up 64 s.order) r)) (s.forward + 1)
          s.rows;
      sent = max s.sent n;
      order = count_up 64 s.order;
    }
