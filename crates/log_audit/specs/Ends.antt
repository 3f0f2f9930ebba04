-- What an audit keeps of each end.
use Rattle.std.specs.Prelude.{ℕ, List, ◌≡◌, Some, length, slice_get}
use Rattle.endpoint_model.specs.Event.{Setup, own_of}
use Rattle.endpoint_laws.specs.Contexts.{Secrets}
use Rattle.endpoint_laws.specs.History.{History}
use Rattle.log_judging.specs.Judged.{IsWatchIn}
use Rattle.log_verdict.specs.Told.{end_of}
use Rattle.log_audit.specs.declared.ends.KeptEnd.{KeptEnd}

-- It is what is kept of this end in a history.
pub record IsEndOf (secrets : Secrets) (setups : List Setup) (history : History) (who : ℕ)
    (e : KeptEnd) : Type 0 where
  pub own : own_of (end_of setups who) ≡ e.own
  pub cookies : (end_of setups who).cookie_secret ≡ e.cookies
  pub watch : IsWatchIn secrets (end_of setups) who history e.watch

-- They are what is kept of these ends in a history.
pub record AreEndsOf (secrets : Secrets) (setups : List Setup) (history : History)
    (ends : List KeptEnd) : Type 0 where
  pub count : length ends ≡ length setups
  pub each : (who : ℕ) (e : KeptEnd) → slice_get ends who ≡ Some e →
      IsEndOf secrets setups history who e
