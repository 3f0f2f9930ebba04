-- What is found of an entry.
use Rattle.std.specs.Prelude.{Option, Some, None}
use Rattle.log_verdict.specs.declared.verdict.AuditFault.{AuditFault}
use Rattle.log_verdict.specs.declared.verdict.AuditFault.TheVariants.{Secrets, Unlawful, NotHonest, NotFresh}

-- It meets its line and states nothing that was stated before; or the first of both is found that
-- isn't so.
abbrev pub IsFoundOf : Type 0 → Type 0 → Option AuditFault → Type 0
IsFoundOf Meets StatesNew None = Meets × StatesNew
IsFoundOf Meets StatesNew (Some Unlawful) = Meets → ⊥
IsFoundOf Meets StatesNew (Some NotFresh) = Meets × (StatesNew → ⊥)
IsFoundOf Meets StatesNew (Some Secrets) = ⊥
IsFoundOf Meets StatesNew (Some NotHonest) = ⊥
