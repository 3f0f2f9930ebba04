-- What is found of an event.
use Rattle.std.specs.Prelude.{ℕ, Option, Some, None}
use Rattle.endpoint_model.specs.Event.{Setup}
use Rattle.endpoint_laws.specs.Contexts.{Secrets}
use Rattle.endpoint_laws.specs.Past.{last_moment}
use Rattle.endpoint_laws.specs.History.{Happened, History, log_of, past_at}
use Rattle.log_events.specs.Watch.{IsWatchOf}
use Rattle.log_events.specs.declared.watch.EndWatch.{EndWatch}
use Rattle.log_verdict.specs.declared.verdict.Finding.{Finding}
use Rattle.log_verdict.specs.Checks.{EventPasses, EventFails}

-- It is what is kept of this end in a history.
abbrev pub IsWatchIn : Secrets → (ℕ → Setup) → ℕ → History → EndWatch → Type 0
IsWatchIn secrets ends who history w = IsWatchOf secrets (ends who)
    (last_moment 0 (log_of who history)) (past_at who history) w

-- The event passes after these, or this is found first of it.
abbrev pub IsJudged : Secrets → (ℕ → Setup) → Happened → History → Option Finding → Type 0
IsJudged secrets ends h earlier None = EventPasses secrets ends h earlier
IsJudged secrets ends h earlier (Some f) = EventFails secrets ends h earlier f
