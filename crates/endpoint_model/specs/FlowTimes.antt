-- What time makes due of a session and of its flows.
use Rattle.std.specs.Prelude.{ℕ, Bool, is_some, List, [], ◌∷◌, length, drop, Option, Some, None}
use Rattle.std.specs.List.{find}
use Rattle.std.specs.FinMap.{get, entries, keys}
use Rattle.rtmfp_base.specs.Reasons.{where_true, first_that_stands}
use Rattle.session_core.specs.declared.stage.SessionDue.{SessionDue}
use Rattle.session_core.specs.Closing.{first_due, needs_keepalive}
use Rattle.session_flows.specs.Keeping.{with_sending}
use Rattle.session_flows.specs.Timing.{after_late, session_late, overdue_in, overdue_done}
use Rattle.session_flows.specs.Packing.{Packing, pace_of, filled, is_data_due}
use Rattle.endpoint_model.specs.declared.row.Row.{Row}
use Rattle.endpoint_model.specs.declared.row_due.RowDue.{RowDue}
use Rattle.endpoint_model.specs.declared.row_due.RowDue.TheVariants.{Session, Abandon, Data, Keepalive}
use Rattle.endpoint_model.specs.State.{State, Did, nothing, then_do, with_row}
use Rattle.endpoint_model.specs.Sending.{packet_head}
use Rattle.endpoint_model.specs.InSessions.{sent_home, session_due_done, kept_alive_by}
use Rattle.endpoint_model.specs.OnFlows.{flows_done, with_flows}

-- ---- numbers that are lost by time

-- Such numbers of a session's flows are marked, and the session has one loss by time, where it has
-- some in flight and is held.
abbrev pub late_marked : ℕ → Row → Row
late_marked moment row = record row {
  session = session_late row.session row.flows moment;
  flows = after_late row.session row.flows moment;
}

abbrev pub late_at : State → ℕ → Option Row → State
late_at s near None = s
late_at s near (Some row) = with_row s near (late_marked s.moment row)

abbrev pub late_each : List ℕ → State → State
late_each [] s = s
late_each (near ∷ rest) s = late_each rest (late_at s near (get s.sessions near))

-- in all sessions
abbrev pub all_late : State → State
all_late s = late_each (keys s.sessions) s

-- ---- what is due of one session

abbrev pub end_due : Option SessionDue → Option RowDue
end_due None = None
end_due (Some due) = Some (Session due)

abbrev pub abandon_due : Option (ℕ × ℕ) → Option RowDue
abandon_due None = None
abandon_due (Some found) = Some (Abandon found.0 found.1)

-- The first thing of it: its end, the end of its closing, or its close again; the first message
-- that is sent no longer; flow data; and a keepalive.
abbrev pub row_due : ℕ → Row → Option RowDue
row_due moment row = first_that_stands (
    end_due (first_due row.session moment)
    ∷ abandon_due (overdue_in row.session row.flows moment)
    ∷ where_true (is_data_due row.session row.flows moment) Data
    ∷ where_true (needs_keepalive row.session moment) Keepalive
    ∷ [])

-- Something is due of the session.
abbrev pub is_row_due : ℕ → Row → Bool
is_row_due moment row = is_some (row_due moment row)

-- the first session, by rising session IDs, of which something is due
abbrev pub due_row : State → Option (ℕ × Row)
due_row s = find (λ e. is_row_due s.moment e.1) (entries s.sessions)

-- ---- flow data

-- a packet of as many chunks as go, behind the head of a packet of the session
abbrev pub data_packed : Row → ℕ → Packing
data_packed row moment = filled (pace_of row.session moment) row.flows.sending
    (packet_head row.session moment)

abbrev pub data_body : Row → ℕ → List ℕ
data_body row moment = drop (length (packet_head row.session moment))
    (data_packed row moment).packet

-- the flows keep that they went, and the packet goes out to the session's address
abbrev pub data_sent : State → ℕ → Row → Did
data_sent s near row = then_do
    (nothing (with_flows s near row
    (with_sending row.flows (data_packed row s.moment).sending)))
    (λ t. sent_home t near (data_body row s.moment))

-- ---- what is done of it

abbrev pub row_due_done : State → ℕ → Row → RowDue → Did
row_due_done s near row (Session due) = session_due_done s near row due
row_due_done s near row (Abandon flow seq) =
    flows_done s near row (overdue_done row.flows (Some (flow, seq)))
row_due_done s near row Data = data_sent s near row
row_due_done s near row Keepalive = kept_alive_by s near row
