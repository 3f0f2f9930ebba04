-- What an end does of its sessions: how they end, close and move, and what is due of them.
use Rattle.std.specs.Prelude.{ℕ, ◌==◌, Bool, false, if◌then◌else◌, List, [], ◌∷◌, Option, Some, None}
use Rattle.std.specs.FinMap.{get}
use Rattle.rtmfp_forms.specs.Address.{AddressParts}
use Rattle.rtmfp_chunks.specs.declared.kinds.TheConstants.{CLOSE, CLOSE_ACK}
use Rattle.rtmfp_chunks.specs.Chunk.{Ping, Close as CloseChunk, CloseAck}
use Rattle.rtmfp_chunks.specs.Writing.{chunk_bytes}
use Rattle.rtmfp_packet.specs.Walk.{Placed}
use Rattle.glare_core.specs.declared.facts.Why.{Why}
use Rattle.glare_core.specs.declared.facts.Why.TheVariants.{Near, Far, Unconfirmed as NotConfirmed, Idle as WasIdle}
use Rattle.startup.specs.Attempts.{end_fact, after_end}
use Rattle.session_core.specs.declared.stage.SessionDue.{SessionDue}
use Rattle.session_core.specs.declared.stage.SessionDue.TheVariants.{Unconfirmed, Idle, Over, RepeatClose}
use Rattle.session_core.specs.Session.{SessionState, moved_to}
use Rattle.session_core.specs.Closing.{is_held, closed_near, asked_to_close, after_due, kept_alive}
use Rattle.mobility.specs.declared.pending.Test.{Test}
use Rattle.mobility.specs.Tests.{asks, after_seen, is_answered, address_for, after_reply}
use Rattle.endpoint_model.specs.declared.config.Draws.{Draws}
use Rattle.endpoint_model.specs.declared.place.Place.{Place}
use Rattle.endpoint_model.specs.declared.place.Place.TheVariants.{Startup, Attempt, Session}
use Rattle.endpoint_model.specs.declared.row.Row.{Row}
use Rattle.endpoint_model.specs.declared.entry.Entry.TheVariants.{Closed, Moved}
use Rattle.endpoint_model.specs.State.{State, Did, nothing, then_do, fact_entries, with_startup, with_row, with_session, without_row}
use Rattle.endpoint_model.specs.Sending.{sent_by, sent_in_session}

-- the row of a session that is held, which hasn't ended
abbrev pub if_held : Option Row → Option Row
if_held None = None
if_held (Some row) = if is_held row.session.stage then Some row else None

abbrev pub held_row : State → ℕ → Option Row
held_row s near = if_held (get s.sessions near)

-- a body in the session with this session ID, to where its datagrams go
abbrev pub sent_home_by : State → ℕ → List ℕ → Option Row → Did
sent_home_by s near body None = nothing s
sent_home_by s near body (Some row) = sent_by s near row.session.address body (Some row)

abbrev pub sent_home : State → ℕ → List ℕ → Did
sent_home s near body = sent_home_by s near body (get s.sessions near)

-- ---- its end

-- A session ends for this cause, and this is left of it.
abbrev pub ended_as : State → ℕ → Row → Why → SessionState → Did
ended_as s near row why left = record {
  state = with_session (with_startup s (after_end s.startup row.session.joined.peer why)) near row
      left;
  entries = fact_entries (end_fact s.startup row.session.joined.peer why);
}

-- It ends, and nothing is left of it.
abbrev pub dropped : State → ℕ → Row → Why → Did
dropped s near row why = record {
  state = without_row (with_startup s (after_end s.startup row.session.joined.peer why)) near;
  entries = fact_entries (end_fact s.startup row.session.joined.peer why);
}

-- Its closing is over.
abbrev pub closed : State → ℕ → Did
closed s near = record { state = without_row s near; entries = Closed near ∷ [] }

-- ---- it is closed here

-- its end, and a close
abbrev pub closing_by : State → ℕ → Option Row → Did
closing_by s near None = nothing s
closing_by s near (Some row) = then_do
    (ended_as s near row Near (closed_near s.moment row.session))
    (λ t. sent_home t near (chunk_bytes CloseChunk))

abbrev pub closing : State → ℕ → Did
closing s near = closing_by s near (held_row s near)

-- ---- a close, an answer to a close, and an answer to a ping

-- The session lingers from a close on; where it was held it ends.
abbrev pub lingering : State → ℕ → Row → Did
lingering s near row = if is_held row.session.stage
    then ended_as s near row Far (asked_to_close s.moment row.session)
    else nothing (with_session s near row (asked_to_close s.moment row.session))

-- It is answered.
abbrev pub close_taken_by : State → ℕ → Option Row → Did
close_taken_by s near None = nothing s
close_taken_by s near (Some row) = then_do (lingering s near row)
    (λ t. sent_home t near (chunk_bytes CloseAck))

-- The session moves to where the answer came from, if there is such an address.
abbrev pub moved_where : State → ℕ → Row → Option Test → Option AddressParts → Did
moved_where s near row moves None = nothing s
moved_where s near row moves (Some to) = record {
  state = with_row s near (record row { session = moved_to to row.session; moves = moves });
  entries = Moved near to ∷ [];
}

abbrev pub moved_by : State → ℕ → AddressParts → List ℕ → Option Row → Did
moved_by s near from bytes None = nothing s
moved_by s near from bytes (Some row) = moved_where s near row (after_reply row.moves from bytes)
    (address_for row.moves from bytes)

-- what such a chunk does that came in a session from an address
abbrev pub told_in_session : State → ℕ → AddressParts → Placed → Did
told_in_session s near from c =
    if c.kind == CLOSE then close_taken_by s near (get s.sessions near)
    else if c.kind == CLOSE_ACK then closed s near
    else moved_by s near from c.payload (get s.sessions near)

-- whether an answer to a ping from an address moves the session
abbrev pub answers_by : AddressParts → List ℕ → Option Row → Bool
answers_by from bytes None = false
answers_by from bytes (Some row) = is_answered row.moves from bytes

-- ---- a test of another address

-- A datagram from this address asks for a test of it.
abbrev pub asks_by : State → AddressParts → Option Row → Bool
asks_by s from None = false
asks_by s from (Some row) = asks row.moves row.session.address from s.moment

abbrev pub asks_at : State → Place → AddressParts → Bool
asks_at s (Startup generation) from = false
asks_at s (Attempt near generation) from = false
asks_at s (Session near) from = asks_by s from (held_row s near)

-- The test is pending, and a ping with this token goes to the address.
abbrev pub test_begun : State → ℕ → Row → AddressParts → List ℕ → Did
test_begun s near row from token = then_do
    (nothing (with_row s near (record row {
      moves = after_seen row.moves row.session.address from token s.moment;
    })))
    (λ t. sent_in_session t near from (chunk_bytes (Ping token)))

abbrev pub tested_by : State → ℕ → AddressParts → List ℕ → Option Row → Did
tested_by s near from token None = nothing s
tested_by s near from token (Some row) = if asks row.moves row.session.address from s.moment
    then test_begun s near row from token else nothing s

-- after the chunks of a datagram that came at a place from an address
abbrev pub tested : State → Place → AddressParts → Draws → Did
tested s (Startup generation) from draws = nothing s
tested s (Attempt near generation) from draws = nothing s
tested s (Session near) from draws = tested_by s near from draws.token (held_row s near)

-- ---- time

-- what is done of it: its end, the end of its closing, or its close again
abbrev pub session_due_done : State → ℕ → Row → SessionDue → Did
session_due_done s near row Unconfirmed = dropped s near row NotConfirmed
session_due_done s near row Idle = dropped s near row WasIdle
session_due_done s near row Over = closed s near
session_due_done s near row RepeatClose = then_do
    (nothing (with_session s near row (after_due (Some RepeatClose) s.moment row.session)))
    (λ t. sent_home t near (chunk_bytes CloseChunk))

-- a keepalive: a ping without bytes
abbrev pub kept_alive_by : State → ℕ → Row → Did
kept_alive_by s near row = then_do
    (nothing (with_session s near row (kept_alive s.moment row.session)))
    (λ t. sent_home t near (chunk_bytes (Ping [])))
