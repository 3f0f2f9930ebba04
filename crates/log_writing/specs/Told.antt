-- Events whose lines are within the grammar of the text.
use Rattle.std.specs.Prelude.{ℕ, ◌^◌, ◌<◌, ◌≤◌, length, Option, Some, None}
use Rattle.std.specs.List.{AllByRecursion}
use Rattle.endpoint_model.specs.Event.{Event}
use Rattle.audit_text.specs.declared.line.LogCall.{LogCall}
use Rattle.audit_text.specs.declared.line.LogCall.TheVariants.{Receive}
use Rattle.audit_text.specs.declared.line.LogEntry.{LogEntry}
use Rattle.audit_text.specs.declared.line.LogEntry.TheVariants.{Out}
use Rattle.audit_text.specs.declared.line.LogLine.{LogLine}
use Rattle.audit_text.specs.Grammar.{IsBytesOf, IsCall, IsEntry, IsLineOf, line_text}
use Rattle.log_writing.specs.Written.{written_call, written_entry, written_nonce}

-- the most bytes of a datagram
abbrev pub datagram_limit : ℕ
datagram_limit = 2048

-- A datagram in it has no more bytes.
abbrev pub IsShortCall : LogCall → Type 0
IsShortCall (Receive from datagram) = length datagram ≤ datagram_limit
IsShortCall call = Unit {0}

abbrev pub IsShortEntry : LogEntry → Type 0
IsShortEntry (Out to datagram context) = length datagram ≤ datagram_limit
IsShortEntry entry = Unit {0}

-- what is written of an entry, where it is, is an entry of the grammar
abbrev pub IsEntryTold : Option LogEntry → Type 0
IsEntryTold None = Unit {0}
IsEntryTold (Some entry) = IsEntry entry × IsShortEntry entry

-- Numbers and bytes are within their types, and datagrams have no more bytes than an end takes or
-- sends.
pub record IsTold (moment : ℕ) (e : Event) : Type 0 where
  pub in_time : moment < 2 ^ 64
  pub nonce : IsBytesOf 16 (written_nonce e.call)
  pub call : IsCall (written_call e.call)
  pub short : IsShortCall (written_call e.call)
  pub entries : AllByRecursion (λ entry. IsEntryTold (written_entry entry)) e.entries

-- The text of the line says just this.
abbrev pub IsReadBack : LogLine → Type 0
IsReadBack line = IsLineOf (line_text line) line
