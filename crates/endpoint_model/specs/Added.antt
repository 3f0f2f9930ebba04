-- An outbox, as contracts see it.
use Rattle.std.specs.Prelude.{ℕ, ◌≤◌, IfSome, List, length}
use Rattle.std.specs.List.{All}
use Rattle.endpoint_model.specs.declared.entry.Entry.{Entry}
use Rattle.endpoint_model.specs.Views.{out_in}

-- A datagram that goes out has at most 1,200 bytes.
abbrev pub IsShort : Entry → Type 0
IsShort entry = IfSome (out_in entry) (λ sent. length sent.datagram ≤ 1200)

-- No datagram among the entries passes 1,200 bytes.
abbrev pub AreShort : List Entry → Type 0
AreShort entries = All IsShort entries

pub record Added : Type 0 where
  pub entries : List Entry
  -- how many entries can be added without memory
  pub free : ℕ
  -- how many can be added after all are dropped, at least
  pub room : ℕ
