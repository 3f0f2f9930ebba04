-- What tells that no message is overdue.
use Rattle.std.specs.Prelude.{ℕ, ◌≡◌, ◌≤◌, Bool, false, List, [], ◌∷◌, Option, Some, None}
use Rattle.std.specs.Prelude.{◌⊎◌}
use Rattle.std.specs.List.{sum_by}
use Rattle.flow_send.specs.declared.waiting.Waiting.{Waiting}
use Rattle.flow_send.specs.Rows.{Row, lost_of}

abbrev pub IsNotBefore : ℕ → Option ℕ → Type 0
IsNotBefore soonest None = Unit {0}
IsNotBefore soonest (Some deadline) = soonest ≤ deadline

-- no deadline is before a moment
abbrev pub NoneBefore : ℕ → List Waiting → Type 0
NoneBefore soonest [] = Unit {0}
NoneBefore soonest (w ∷ later) = IsNotBefore soonest w.options.deadline × NoneBefore soonest later

-- no message has a limit of resends
abbrev pub NoneLimited : List Waiting → Type 0
NoneLimited [] = Unit {0}
NoneLimited (w ∷ later) = (w.options.resends ≡ None) × NoneLimited later

-- no deadline is before the soonest one, and a limit of resends makes them limited
pub record Reach (soonest : ℕ) (limited : Bool) (ws : List Waiting) : Type 0 where
  pub deadlines : NoneBefore soonest ws
  pub limits : limited ≡ false → NoneLimited ws

-- no message has a limit, or no row is lost
abbrev pub Unspent : List Row → List Waiting → Type 0
Unspent rows ws = NoneLimited ws ⊎ (sum_by lost_of rows ≡ 0)
