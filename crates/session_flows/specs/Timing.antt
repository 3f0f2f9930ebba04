-- What a tick makes lost of a session's flows, and which messages it abandons.
use Rattle.std.specs.Prelude.{ℕ, ◌&&◌, map, is_some, if◌then◌else◌, Bool, Option}
use Rattle.std.specs.Prelude.{Some, None, true}
use Rattle.std.specs.List.{list_any, find}
use Rattle.flow_send.specs.Sender.{is_late, lost_late, overdue}
use Rattle.flow_send.specs.Flow.{Flow, with_sender}
use Rattle.session_core.specs.Session.{SessionState}
use Rattle.session_core.specs.Closing.{is_held, with_loss}
use Rattle.session_core.specs.Trips.{resend_time}
use Rattle.session_flows.specs.Keeping.{FlowsState, with_sending, Did, nothing}
use Rattle.session_flows.specs.Calling.{abandoning}

-- ---- lost by time

-- a number of the flow is in flight whose last sending was so long before
abbrev pub has_late : ℕ → ℕ → Flow → Bool
has_late moment resend f = list_any (is_late moment resend) f.sender.rows

-- a held session has such numbers
abbrev pub is_any_late : SessionState → FlowsState → ℕ → Bool
is_any_late session s moment = is_held session.stage
    && list_any (has_late moment (resend_time session.trip)) s.sending

-- they are lost, of all flows
abbrev pub losing : ℕ → ℕ → Flow → Flow
losing moment resend f = with_sender f (lost_late moment resend f.sender)

abbrev pub after_late : SessionState → FlowsState → ℕ → FlowsState
after_late session s moment = if is_held session.stage then
    with_sending s (map (losing moment (resend_time session.trip)) s.sending) else s

-- and the session has one loss by time, however many they are
abbrev pub session_late : SessionState → FlowsState → ℕ → SessionState
session_late session s moment = if is_any_late session s moment then with_loss true session
    else session

-- ---- messages that are sent no longer

abbrev pub has_overdue : ℕ → Flow → Bool
has_overdue moment f = is_some (overdue moment f.sender)

-- the first one: that of the flow with the lowest ID, and in it the one with the lowest number
abbrev pub numbered : ℕ → Option ℕ → Option (ℕ × ℕ)
numbered id None = None
numbered id (Some seq) = Some (id, seq)

abbrev pub overdue_of : ℕ → Option Flow → Option (ℕ × ℕ)
overdue_of moment None = None
overdue_of moment (Some f) = numbered f.id (overdue moment f.sender)

abbrev pub first_overdue : ℕ → FlowsState → Option (ℕ × ℕ)
first_overdue moment s = overdue_of moment (find (has_overdue moment) s.sending)

-- it is abandoned
abbrev pub overdue_done : FlowsState → Option (ℕ × ℕ) → Did
overdue_done s None = nothing s
overdue_done s (Some found) = abandoning s found.0 found.1

-- of a held session: also of one that is half-open
abbrev pub overdue_in : SessionState → FlowsState → ℕ → Option (ℕ × ℕ)
overdue_in session s moment = if is_held session.stage then first_overdue moment s else None
