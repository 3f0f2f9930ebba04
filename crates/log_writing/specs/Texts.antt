-- Parts of the text, as the writer adds them.
use Rattle.std.specs.Prelude.{ℕ, List, [], Option, Some, None}
use Rattle.audit_text.specs.declared.line.LogEntry.{LogEntry}
use Rattle.audit_text.specs.Grammar.{entry_text}

-- what stands in the line of an entry; nothing where it isn't written
abbrev pub text_in : Option LogEntry → List ℕ
text_in None = []
text_in (Some entry) = entry_text entry
