-- What the lines of a text say of logs, and what an audit finds of that.
use Rattle.std.specs.Prelude.{ℕ, ◌≡◌, List, [], ◌∷◌, Some, None}
use Rattle.endpoint_laws.specs.Agreed.{IsAgreed}
use Rattle.endpoint_laws.specs.History.{History}
use Rattle.log_values.specs.Told.{history_in}
use Rattle.log_verdict.specs.declared.verdict.AuditFault.{AuditFault}
use Rattle.log_verdict.specs.Told.{end_of, secrets_in}
use Rattle.log_verdict.specs.Checks.{AllPass, FailsFirst, found}
use Rattle.log_verdict.specs.Audited.{IsAudited}
use Rattle.audit_text.specs.Grammar.{IsLineOf}
use Rattle.audit_text.specs.declared.line.LogLine.{LogLine}
use Rattle.log_reading.specs.Gathered.{Read, line_of, nothing_read, taken}
use Rattle.rtmfp_lines.specs.Lines.{lines_of}

-- ---- reading

-- Each of these lines says something that may stand where it does, and this is read then.
abbrev pub ReadsOn : List (List ℕ) → Read → Read → Type 0
ReadsOn [] before after = after ≡ before
ReadsOn (line ∷ lines) before after = (said : LogLine) × (next : Read) × IsLineOf line said ×
    (taken said before ≡ Some next) × ReadsOn lines next after

-- The text says this.
abbrev pub IsLogText : List ℕ → Read → Type 0
IsLogText text read = ReadsOn (lines_of text) nothing_read read

-- Some lines say this.
abbrev pub WasRead : Read → Type 0
WasRead read = (lines : List (List ℕ)) × ReadsOn lines nothing_read read

-- A line is outside the grammar, or doesn't stand where it may.
abbrev pub IsBadLine : Read → List ℕ → Type 0
IsBadLine before line = (said : LogLine) → IsLineOf line said → taken said before ≡ None

-- ---- judging

-- the history that is told
abbrev pub history_read : Read → History
history_read read = history_in read.logs read.order

-- All checks pass. So the history is lawful, honest and fresh, and its ends agree.
pub record Agrees (read : Read) : Type 0 where
  pub passes : AllPass read.setups (history_read read)
  pub audited : IsAudited read.setups (history_read read)
  pub agreed : IsAgreed (secrets_in read.setups (history_read read)) (end_of read.setups)
      (history_read read)

-- The first check that fails is that of this line. So the history isn't all of that.
pub record FailsAt (read : Read) (line : ℕ) (cause : AuditFault) : Type 0 where
  pub event : ℕ
  pub entry : ℕ
  pub first : FailsFirst read.setups (history_read read) (found event entry cause)
  pub stands : line_of event entry read ≡ Some line
  pub not_audited : IsAudited read.setups (history_read read) → ⊥
