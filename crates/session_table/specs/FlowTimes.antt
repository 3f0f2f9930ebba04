-- What time makes due of the flows of the sessions, and what is done of it.
use Rattle.std.specs.Prelude.{ℕ, ◌≡◌, ◌<◌, List, [], ◌∷◌, true, Option, None, IfSome}
use Rattle.std.specs.Option.{option_map}
use Rattle.std.specs.FinMap.{get}
use Rattle.rtmfp_base.specs.Reasons.{where_true, first_that_stands}
use Rattle.session_core.specs.Closing.{needs_keepalive}
use Rattle.session_flows.specs.Keeping.{with_sending}
use Rattle.session_flows.specs.Calling.{abandon_refused}
use Rattle.session_flows.specs.Timing.{overdue_in, overdue_done}
use Rattle.session_flows.specs.Packing.{is_data_due, left_to_send, pace_of}
use Rattle.session_flows.specs.Waiting.{waiting_in}
use Rattle.endpoint_model.specs.declared.row.Row.{Row}
use Rattle.endpoint_model.specs.declared.row_due.RowDue.{RowDue}
use Rattle.endpoint_model.specs.declared.row_due.RowDue.TheVariants.{Data, Keepalive}
use Rattle.endpoint_model.specs.State.{Sessions}
use Rattle.endpoint_model.specs.Sending.{session_packet}
use Rattle.endpoint_model.specs.FlowTimes.{abandon_due, data_body, data_packed, late_marked}
use Rattle.session_table.specs.Table.{after_packed}

-- ---- numbers that are lost by time

-- In each row they are marked.
abbrev pub AreLate : ℕ → Sessions → Sessions → Type 0
AreLate moment old new = (near : ℕ) → get new near ≡ option_map (late_marked moment) (get old near)

-- ---- what is due, where neither an end nor a close is

abbrev pub still_due : ℕ → Row → Option RowDue
still_due moment row = first_that_stands (
    where_true (is_data_due row.session row.flows moment) Data
    ∷ where_true (needs_keepalive row.session moment) Keepalive
    ∷ [])

abbrev pub flows_due : ℕ → Row → Option RowDue
flows_due moment row = first_that_stands (
    abandon_due (overdue_in row.session row.flows moment)
    ∷ where_true (is_data_due row.session row.flows moment) Data
    ∷ where_true (needs_keepalive row.session moment) Keepalive
    ∷ [])

-- ---- what is done

-- The first message that is sent no longer is abandoned.
abbrev pub overdue_gone : ℕ → Row → Row
overdue_gone moment row = record row {
  flows = (overdue_done row.flows (overdue_in row.session row.flows moment)).flows;
}

-- what is behind the head of a packet of flow data
abbrev pub data_at : ℕ → Row → List ℕ
data_at moment row = data_body row moment

-- Flow data goes.
abbrev pub data_gone : ℕ → ℕ → Row → Row
data_gone limit moment row = record row {
  session = after_packed limit (session_packet row.session moment (data_at moment row)) row.session;
  flows = with_sending row.flows (data_packed row moment).sending;
}

-- Where it is due, less is left to send then, and the same messages wait.
pub record DataFalls (moment : ℕ) (row : Row) : Type 0 where
  pub less : is_data_due row.session row.flows moment ≡ true →
      left_to_send (pace_of row.session moment) (data_packed row moment).sending
      < left_to_send (pace_of row.session moment) row.flows.sending
  pub waits : waiting_in (data_packed row moment).sending ≡ waiting_in row.flows.sending

-- The message that is sent no longer waits in a flow that is there.
abbrev pub OverdueWaits : ℕ → Row → Type 0
OverdueWaits moment row = IfSome (overdue_in row.session row.flows moment)
    (λ found. abandon_refused row.flows found.0 found.1 ≡ None)
