-- Which chunk of a session's flows goes next, and how chunks are packed into a datagram.
use Prim.Native.Nat.{zero, suc}
use Rattle.std.specs.Prelude.{ℕ, ◌+◌, ◌-◌, ◌==◌, ◌&&◌, ◌||◌, nat_lt, nat_le, not, Bool, true, false}
use Rattle.std.specs.Prelude.{if◌then◌else◌, is_some, List, [], ◌∷◌, ◌++◌, length, Option, Some}
use Rattle.std.specs.Prelude.{None}
use Rattle.std.specs.Prelude.{slice_get, slice_set, slice_index_or, replicate, drop, ◌≡◌, ◌<◌}
use Rattle.std.specs.List.{sum_by}
use Rattle.rtmfp_forms.specs.Outgoing.{packet_limit}
use Rattle.rtmfp_data_chunks.specs.Runs.{Chunk}
use Rattle.rtmfp_data_chunks.specs.Chunk.{UserParts, DataChunk, Data, Next}
use Rattle.rtmfp_data_chunks.specs.Writing.{data_bytes}
use Rattle.flow_send.specs.declared.outcome.NoChunk.{NoChunk}
use Rattle.flow_send.specs.Rows.{Row, is_unsent, is_lost, in_flight}
use Rattle.flow_send.specs.Choice.{Choice, Nothing, Send, Notify, choice, choice_bytes, chunk_for}
use Rattle.flow_send.specs.Choice.{notice_due, sent_after}
use Rattle.flow_send.specs.Flow.{Flow, with_sender, user_data, chunk_options, chunk_refusal}
use Rattle.session_core.specs.Session.{SessionState}
use Rattle.session_core.specs.Closing.{is_open}
use Rattle.session_core.specs.Trips.{resend_time}
use Rattle.session_flows.specs.declared.pace.Pace.{Pace}
use Rattle.session_flows.specs.declared.pace.Before.{Before}
use Rattle.session_flows.specs.declared.pace.Marks.{Marks}
use Rattle.session_flows.specs.Keeping.{FlowsState}

-- the moment, and the session's resend time and window
abbrev pub pace_of : SessionState → ℕ → Pace
pace_of session moment = record {
  moment = moment;
  resend_after = resend_time session.trip;
  window = session.congestion.window;
}

-- ---- which flow sends

-- the chunk that a flow has to send and may, by its own limit, or nothing
abbrev pub chosen : Pace → Flow → Choice
chosen pace f = choice pace.moment pace.resend_after f.sender

abbrev pub may_send : Pace → Flow → Bool
may_send pace f = is_some (chunk_for f.sender (chosen pace f))

-- Of two flows the one with the higher priority sends, and of equal ones the first.
abbrev pub before_other : Flow → Option Flow → Flow
before_other f None = f
before_other f (Some g) = if nat_lt f.priority g.priority then g else f

abbrev pub first_to_send : Pace → List Flow → Option Flow
first_to_send pace [] = None
first_to_send pace (f ∷ later) =
    if may_send pace f then Some (before_other f (first_to_send pace later))
    else first_to_send pace later

-- ---- the session's window

abbrev pub flight_of : Flow → ℕ
flight_of f = in_flight f.sender.rows

abbrev pub session_flight : List Flow → ℕ
session_flight sending = sum_by flight_of sending

-- ---- a chunk in a packet

-- What a packet has of the flows are the numbers of the chunk that it ends with, where it is one of
-- a flow, and of each flow by its ID whether a chunk of it is there.
abbrev pub no_marks : Marks
no_marks = record { before = None; begun = replicate 256 false }

-- no chunk of the flow is there yet
abbrev pub is_first : Marks → ℕ → Bool
is_first marks id = not (slice_index_or marks.begun id false)

-- A next chunk has the flow and the forward number of the chunk before it, and its number plus one.
abbrev pub follows : Option Before → Before → Bool
follows None now = false
follows (Some b) now = (now.flow == b.flow)
    && ((now.seq == b.seq + 1) && (now.forward == b.forward))

abbrev pub numbers_in : UserParts → Before
numbers_in user = record { flow = user.flow; seq = user.seq; forward = user.forward }

abbrev pub as_chunk : Option Before → UserParts → DataChunk
as_chunk before user = if follows before (numbers_in user) then Next user else Data user

abbrev pub marked : Marks → UserParts → Marks
marked marks user = record {
  before = Some (numbers_in user);
  begun = slice_set marks.begun user.flow true;
}

-- a flow, and a packet's bytes so far with what they have of the flows
pub record Packed : Type 0 where
  pub flow : Flow
  pub packet : List ℕ
  pub marks : Marks

abbrev pub packed : Flow → List ℕ → Marks → Packed
packed flow packet marks = record { flow = flow; packet = packet; marks = marks }

-- The chunk is put at the end, and counts as sent.
abbrev pub packed_with : Pace → Packed → UserParts → Packed
packed_with pace p user = packed
    (with_sender p.flow (sent_after pace.moment (chosen pace p.flow) p.flow.sender))
    (p.packet ++ data_bytes (as_chunk p.marks.before user))
    (marked p.marks user)

-- none goes where one is refused: where the session's window has no room for it, or the packet,
-- counted as a data chunk
abbrev pub packed_by : Pace → Packed → Option NoChunk → Option Chunk → Option Packed
packed_by pace p (Some refused) c = None
packed_by pace p None None = None
packed_by pace p None (Some c) = Some (packed_with pace p
    (user_data p.flow.id (chunk_options p.flow (is_first p.marks p.flow.id)) c))

abbrev pub refused_of : Pace → ℕ → Packed → Option NoChunk
refused_of pace flight p = chunk_refusal p.flow (is_first p.marks p.flow.id)
    (packet_limit - length p.packet) flight pace.window (chosen pace p.flow)

-- the next chunk of the flow, where so many bytes of the session are in flight
abbrev pub flow_packed : Pace → ℕ → Packed → Option Packed
flow_packed pace flight p = packed_by pace p (refused_of pace flight p)
    (chunk_for p.flow.sender (chosen pace p.flow))

-- whether one went, and what it left
abbrev pub Goes : {X : Type 0} → Option X → Bool → X → X → Type 0
Goes None went before after = (went ≡ false) × (after ≡ before)
Goes (Some p) went before after = (went ≡ true) × (after ≡ p)

-- ---- a packet

-- the flows, and a packet
pub record Packing : Type 0 where
  pub sending : List Flow
  pub packet : List ℕ
  pub marks : Marks

abbrev pub packing_with : List Flow → List ℕ → Marks → Packing
packing_with sending packet marks = record { sending = sending; packet = packet; marks = marks }

-- a packet that was begun, with no chunk of a flow
abbrev pub packing : List Flow → List ℕ → Packing
packing sending packet = packing_with sending packet no_marks

abbrev pub put_back : List Flow → Option Packed → Option Packing
put_back sending None = None
put_back sending (Some p) = Some (packing_with (slice_set sending p.flow.id p.flow) p.packet
    p.marks)

abbrev pub packed_of : Pace → Packing → Option Flow → Option Packing
packed_of pace p None = None
packed_of pace p (Some f) = put_back p.sending
    (flow_packed pace (session_flight p.sending) (packed f p.packet p.marks))

-- one chunk more, where one goes
abbrev pub packed_once : Pace → Packing → Option Packing
packed_once pace p = packed_of pace p (first_to_send pace p.sending)

-- so many chunks, as long as one more goes
abbrev pub packs_on : (Packing → Packing) → Packing → Option Packing → Packing
packs_on later p None = p
packs_on later p (Some q) = later q

unfoldable pub packs : Pace → ℕ → Packing → Packing
packs pace zero p = p
packs pace (suc count) p = packs_on (packs pace count) p (packed_once pace p)

-- As many as go: each has a byte at least, and a packet at most 1,164.
abbrev pub filled : Pace → List Flow → List ℕ → Packing
filled pace sending packet = packs pace 1165 (packing sending packet)

-- ---- what is left to send at a moment

abbrev pub to_send_of : Row → ℕ
to_send_of r = if is_unsent r.state || is_lost r.state then 1 else 0

abbrev pub notices_in : Choice → ℕ
notices_in Nothing = 0
notices_in (Send n r) = 0
notices_in Notify = 1

-- the numbers that are unsent or lost, and a notice that is due
abbrev pub left_of : Pace → Flow → ℕ
left_of pace f = sum_by to_send_of f.sender.rows
    + notices_in (notice_due pace.moment pace.resend_after f.sender)

-- of all flows, whatever their limits
abbrev pub left_to_send : Pace → List Flow → ℕ
left_to_send pace sending = sum_by (left_of pace) sending

-- ---- what an open session sends

-- A chunk goes, in a packet with room.
abbrev pub goes_by : Pace → List Flow → Option Flow → Bool
goes_by pace sending None = false
goes_by pace sending (Some f) =
    nat_le (session_flight sending + choice_bytes (chosen pace f)) pace.window

abbrev pub goes : Pace → List Flow → Bool
goes pace sending = goes_by pace sending (first_to_send pace sending)

-- neither a half-open session sends flow data, nor one that is closing
abbrev pub is_data_due : SessionState → FlowsState → ℕ → Bool
is_data_due session s moment = is_open session.stage && goes (pace_of session moment) s.sending

-- ---- which flow sends, by its index

-- of those from an index on
abbrev pub IsNextFrom : Pace → List Flow → ℕ → Option ℕ → Type 0
IsNextFrom pace sending at None = first_to_send pace (drop at sending) ≡ None
IsNextFrom pace sending at (Some i) =
    (first_to_send pace (drop at sending) ≡ slice_get sending i) × (i < length sending)
