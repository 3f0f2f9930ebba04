-- What an audit finds.
use Rattle.std.specs.Prelude.{ℕ, List, Option, Some, None}
use Rattle.endpoint_model.specs.Event.{Setup}
use Rattle.endpoint_laws.specs.Contexts.{Secrets}
use Rattle.endpoint_laws.specs.History.{History}
use Rattle.log_verdict.specs.declared.verdict.Finding.{Finding}
use Rattle.log_verdict.specs.declared.verdict.Verdict.{Verdict}
use Rattle.log_verdict.specs.declared.verdict.Verdict.TheVariants.{Yes, No}
use Rattle.log_verdict.specs.Checks.{HeadersPass, HeadersFail, EventsPass, EventsFail}

-- What these ends were given first passes, or this is found first of it.
abbrev pub AreEntered : Secrets → List (List ℕ) → ℕ → List Setup → Option Finding → Type 0
AreEntered secrets prints before setups None = HeadersPass secrets prints setups
AreEntered secrets prints before setups (Some f) = HeadersFail secrets prints before setups f

-- These events pass, or this is found first of them.
abbrev pub AreJudged : Secrets → (ℕ → Setup) → History → Option Finding → Type 0
AreJudged secrets ends history None = EventsPass secrets ends history
AreJudged secrets ends history (Some f) = EventsFail secrets ends history f

-- All checks pass, by this answer.
abbrev pub IsYes : Verdict → Type 0
IsYes (Yes events kept) = Unit {0}
IsYes (No f) = ⊥
