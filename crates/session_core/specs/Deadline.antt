-- From which moment on something of its own is due of a session.
use Rattle.std.specs.Prelude.{ℕ, ◌+◌, ◌^◌, ◌<◌, ◌≡◌, Bool, ◌||◌, is_some, min, max, nat_le, Option, None, Some}
use Rattle.session_core.specs.declared.stage.Stage.{Stage}
use Rattle.session_core.specs.declared.stage.Stage.TheVariants.{Opening, Open, NearClose, FarLinger, Closed}
use Rattle.session_core.specs.Session.{SessionState}
use Rattle.session_core.specs.Closing.{first_due, needs_keepalive}

-- so many milliseconds after a moment
abbrev pub after : ℕ → ℕ → ℕ
after span at = at + span

-- the same of the last of some sendings: at once where there was none
abbrev pub after_last : ℕ → Option ℕ → ℕ
after_last span None = 0
after_last span (Some at) = after span at

-- no moment comes to it
abbrev pub never : ℕ
never = 2 ^ 64

-- What comes first of its stage: its end, the end of its closing or lingering, its close again, or
-- a keepalive. Of a session that is over nothing is due any more.
abbrev pub deadline_at : Stage → SessionState → ℕ
deadline_at Opening s = after 20000 s.since
deadline_at Open s = min (after 120000 s.taken)
    (max (after 10000 s.taken) (after_last 10000 s.keepalive))
deadline_at NearClose s = min (after 90000 s.since) (after_last 5000 s.close_sent)
deadline_at FarLinger s = after 19000 s.since
deadline_at Closed s = never

abbrev pub deadline : SessionState → ℕ
deadline s = deadline_at s.stage s

-- something of its own is due of a session
abbrev pub is_own_due : SessionState → ℕ → Bool
is_own_due s moment = is_some (first_due s moment) || needs_keepalive s moment

-- At each moment something of its own is due of a session exactly where its deadline has come.
abbrev pub IsDueByDeadline : Type 0
IsDueByDeadline = (s : SessionState) (moment : ℕ) → moment < 2 ^ 64 →
    nat_le (deadline s) moment ≡ is_own_due s moment
