-- What an idle flow never has.
use Rattle.std.specs.Prelude.{ℕ, ◌≡◌, true, false, None}
use Rattle.std.specs.List.{list_any}
use Rattle.flow_send.specs.Sender.{Sender, is_idle, is_late, lost_late, overdue}
use Rattle.flow_send.specs.Choice.{Nothing, choice}

-- At the moment nothing of it is lost by time, none of its messages is overdue, and it sends nothing.
pub record DoesNothing (moment resend : ℕ) (s : Sender) : Type 0 where
  pub late : list_any (is_late moment resend) s.rows ≡ false
  pub stays : lost_late moment resend s ≡ s
  pub overdue : overdue moment s ≡ None
  pub sends : choice moment resend s ≡ Nothing

abbrev pub IdleDoNothing : Type 0
IdleDoNothing = (moment resend : ℕ) (s : Sender) → is_idle s ≡ true → DoesNothing moment resend s
