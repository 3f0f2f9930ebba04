-- The first thing that is due, as it is handed on, and what is done of it.
use Rattle.std.specs.Prelude.{ℕ, length, Option, Some, None, IfSome}
use Rattle.std.specs.Option.{option_map}
use Rattle.std.specs.FinMap.{get}
use Rattle.glare_core.specs.declared.facts.Why.{Why}
use Rattle.startup.specs.declared.answer.Due.{Due}
use Rattle.startup.specs.declared.answer.Due.TheVariants.{Ended as EndDue, Hello as HelloDue}
use Rattle.startup.specs.declared.answer.Due.TheVariants.{Keying as KeyingDue, Unsought}
use Rattle.session_core.specs.declared.stage.SessionDue.{SessionDue}
use Rattle.session_flows.specs.Timing.{overdue_done}
use Rattle.session_table.specs.FlowTimes.{DataFalls, OverdueWaits}
use Rattle.endpoint_model.specs.declared.row.Row.{Row}
use Rattle.endpoint_model.specs.declared.row_due.RowDue.{RowDue}
use Rattle.endpoint_model.specs.declared.row_due.RowDue.TheVariants.{Abandon, Data, Keepalive}
use Rattle.endpoint_model.specs.declared.row_due.RowDue.TheVariants as row
use Rattle.endpoint_model.specs.State.{State, Did, nothing}
use Rattle.endpoint_model.specs.InSessions.{session_due_done, dropped, kept_alive_by}
use Rattle.endpoint_model.specs.OnFlows.{flows_done}
use Rattle.endpoint_model.specs.Effects.{Item, OfAttempt, OfSession, first_due}
use Rattle.end_state.specs.Steps.{data_sent_by}
use Rattle.end_loops.specs.declared.ticking.DueItem.{DueItem}
use Rattle.end_loops.specs.declared.ticking.DueItem.TheVariants.{Attempt, Session}

-- it ends, and nothing is left of it
abbrev pub dropped_by : State → ℕ → Why → Option Row → Did
dropped_by s near why None = nothing s
dropped_by s near why (Some row) = dropped s near row why

abbrev pub kept_alive_in : State → ℕ → Option Row → Did
kept_alive_in s near None = nothing s
kept_alive_in s near (Some row) = kept_alive_by s near row

-- its end, the end of its closing, or its close again
abbrev pub end_due_by : State → ℕ → SessionDue → Option Row → Did
end_due_by s near due None = nothing s
end_due_by s near due (Some row) = session_due_done s near row due

-- a message is sent no longer
abbrev pub abandoned_by : State → ℕ → ℕ → ℕ → Option Row → Did
abandoned_by s near flow seq None = nothing s
abandoned_by s near flow seq (Some row) =
    flows_done s near row (overdue_done row.flows (Some (flow, seq)))

-- ---- what is due

-- what is done of a session that is found due so
abbrev pub row_due_by : State → ℕ → RowDue → Option Row → Did
row_due_by s near (row.Session due) o = end_due_by s near due o
row_due_by s near (Abandon flow seq) o = abandoned_by s near flow seq o
row_due_by s near Data o = data_sent_by s near o
row_due_by s near Keepalive o = kept_alive_in s near o

-- how many datagrams a thing of an attempt or a search sends
abbrev pub sends_of : Due → ℕ
sends_of (EndDue fact) = 0
sends_of (Unsought near) = 0
sends_of (HelloDue spread) = length spread.to
sends_of (KeyingDue answer) = 1

-- what is handed on of a thing
abbrev pub told_item : Item → DueItem
told_item (OfAttempt due) = Attempt (sends_of due)
told_item (OfSession near row due) = Session near due

-- the first thing that is due
abbrev pub due_item : State → Option DueItem
due_item s = option_map told_item (first_due s)

-- the first session of which something is due, as the table tells it, handed on
abbrev pub handed_on : Option (ℕ × RowDue) → Option DueItem
handed_on None = None
handed_on (Some e) = Some (Session e.0 e.1)

-- ---- that less is left to do of a session's flows, which their rows don't tell by themselves

abbrev pub RowFalls : RowDue → ℕ → Option Row → Type 0
RowFalls (row.Session due) moment o = Unit {0}
RowFalls (Abandon flow seq) moment o = IfSome o (λ r. OverdueWaits moment r)
RowFalls Data moment o = IfSome o (λ r. DataFalls moment r)
RowFalls Keepalive moment o = Unit {0}

abbrev pub ItemFalls : DueItem → State → Type 0
ItemFalls (Attempt sends) s = Unit {0}
ItemFalls (Session near due) s = RowFalls due s.moment (get s.sessions near)
