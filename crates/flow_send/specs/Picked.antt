-- Choices by the indices of rows.
use Rattle.std.specs.Prelude.{ℕ, ◌≡◌, ◌+◌, ◌<◌, Option, Some, None, length}
use Rattle.flow_send.specs.declared.pick.Pick.{Pick}
use Rattle.flow_send.specs.declared.pick.Pick.TheVariants as pick
use Rattle.flow_send.specs.Rows.{row_at}
use Rattle.flow_send.specs.Sender.{Sender}
use Rattle.flow_send.specs.Choice.{Choice, Nothing, Send, Notify, choice}

abbrev pub picked : Sender → Pick → Choice
picked s (pick.Row at) = Send (s.forward + 1 + at) (row_at s.rows at)
picked s pick.Notice = Notify

abbrev pub picked_if : Sender → Option Pick → Choice
picked_if s None = Nothing
picked_if s (Some p) = picked s p

-- the row is there
abbrev pub IsThere : Sender → Pick → Type 0
IsThere s (pick.Row at) = at < length s.rows
IsThere s pick.Notice = Unit {0}

-- it is the choice of some moment and resend time
pub record IsOffered (s : Sender) (p : Pick) : Type 0 where
  pub moment : ℕ
  pub resend : ℕ
  pub chosen : choice moment resend s ≡ picked s p
  pub there : IsThere s p
