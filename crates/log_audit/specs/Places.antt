-- How far an audit has come in its order.
use Rattle.std.specs.Prelude.{ℕ, List, [], ◌≡◌, length, get_or}
use Rattle.log_values.specs.declared.log.EndLog.{EndLog}
use Rattle.log_values.specs.Told.{newest_first, times}

-- Of each end so many events went by, the newest of which is the first.
pub record AreSeen (logs : List EndLog) (earlier seen : List ℕ) : Type 0 where
  pub count : length seen ≡ length logs
  pub each : (who : ℕ) → get_or seen who 0 ≡ times who earlier

-- These went by of the order, and the rest comes.
pub record IsAt (logs : List EndLog) (order rest earlier seen : List ℕ) : Type 0 where
  pub follows : newest_first rest earlier ≡ newest_first order []
  pub counted : AreSeen logs earlier seen
