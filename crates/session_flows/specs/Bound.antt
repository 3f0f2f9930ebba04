-- What is known of the messages of a session that wait without a look at each.
use Rattle.std.specs.Prelude.{ℕ, ◌≡◌, ◌<◌, ◌-◌, ◌^◌, ◌||◌, nat_lt, min, is_some, Bool, true, false}
use Rattle.std.specs.Prelude.{List, [], ◌∷◌, Option, Some, None, length}
use Rattle.flow_send.specs.declared.waiting.MessageOptions.{MessageOptions}
use Rattle.flow_send.specs.declared.waiting.Waiting.{Waiting}
use Rattle.flow_send.specs.Sender.{is_past}
use Rattle.flow_send.specs.Flow.{Flow}
use Rattle.session_flows.specs.declared.bound.Bound.{Bound}

abbrev pub no_bound : Bound
no_bound = record { soonest = 2 ^ 64 - 1; limited = false }

abbrev pub bound_at : ℕ → Bound
bound_at moment = record { soonest = moment; limited = false }

-- a message of the flow waits
abbrev pub any_waits : Flow → Bool
any_waits f = nat_lt 0 (length f.sender.waiting)

-- with one more message
abbrev pub sooner : ℕ → Option ℕ → ℕ
sooner soonest None = soonest
sooner soonest (Some deadline) = min soonest deadline

abbrev pub bound_with : Bound → MessageOptions → Bound
bound_with b options = record {
  soonest = sooner b.soonest options.deadline;
  limited = b.limited || is_some options.resends;
}

abbrev pub may_pass : Bound → ℕ → Bool
may_pass b moment = b.limited || nat_lt b.soonest moment

-- ---- what it says

-- A deadline is passed only after the bound, and a limit is told by it.
pub record IsMild (b : Bound) (options : MessageOptions) : Type 0 where
  pub deadline : (moment : ℕ) → is_past options.deadline moment ≡ true → b.soonest < moment
  pub limit : b.limited ≡ false → options.resends ≡ None

abbrev pub AreMild : Bound → List Waiting → Type 0
AreMild b [] = Unit {0}
AreMild b (w ∷ later) = IsMild b w.options × AreMild b later
