-- How an audit of the text that a source has ends, and what it has written then.
use Rattle.std.specs.Prelude.{ℕ, ◌≡◌, ◌⊎◌, List, [], length, take, IfSome}
use Rattle.rtmfp_host.specs.Writing.{Appends}
use Rattle.rtmfp_lines.specs.Outside.{Outside, NothingFailed, SinkFailed, SourceFailed}
use Rattle.rtmfp_lines.specs.declared.status.Status.{Status as RunStatus}
use Rattle.rtmfp_lines.specs.declared.status.Status.TheVariants as status
use Rattle.log_verdict.specs.declared.verdict.AuditFault.{AuditFault}
use Rattle.log_verdict.specs.Checks.{kept_in}
use Rattle.log_reading.specs.Gathered.{Read}
use Rattle.rtmfp_audit.specs.Texts.{agreed_text, refused_text}
use Rattle.rtmfp_audit.specs.Logs.{Agrees, FailsAt, history_read}
use Rattle.rtmfp_audit.specs.Lines.{AllRead, SomeRead, StopsAt, TakenRead}

-- What is written of logs with each status. With others nothing is.
abbrev pub Judged : RunStatus → Read → List ℕ → Type 0
Judged status.Done read text = Agrees read × (text ≡ agreed_text (length read.setups)
    (length read.order) (kept_in (length read.logs) (history_read read)))
Judged (status.NotAgreed line) read text = (cause : AuditFault) × FailsAt read line cause ×
    (text ≡ refused_text line cause)
Judged other read text = ⊥

-- all was read and judged, and the text of that was written
pub record WasJudged (result : RunStatus) (text : List ℕ) (before after : Outside) : Type 0 where
  pub read : Read
  pub all : AllRead text read after.source
  pub written : List ℕ
  pub judged : Judged result read written
  pub appended : Appends before.sink.written after.sink.written written

-- nothing was written
abbrev pub IsSilent : Outside → Outside → Type 0
IsSilent before after = Appends before.sink.written after.sink.written []

-- nothing was written, or the beginning of what is written of the whole text
pub record CutShort (text : List ℕ) (before after : Outside) : Type 0 where
  pub part : List ℕ
  pub what : (SomeRead text after.source × (part ≡ [])) ⊎
      ((result : RunStatus) × (read : Read) × (written : List ℕ) × (count : ℕ) ×
      AllRead text read after.source × Judged result read written × (part ≡ take count written))
  pub appended : Appends before.sink.written after.sink.written part

-- where the source tells its bytes
abbrev pub Told : Outside → (List ℕ → Type 0) → Type 0
Told before P = IfSome before.source.left P

-- How an audit ends with each status, where this holds of the outside if nothing has failed. Other
-- statuses don't come.
abbrev pub EndsWhere : (Outside → Outside → Type 0) → RunStatus → Outside → Outside → Type 0
EndsWhere P status.Done before after = P before after ×
    Told before (λ text. WasJudged status.Done text before after)
EndsWhere P (status.NotAgreed line) before after = P before after ×
    Told before (λ text. WasJudged (status.NotAgreed line) text before after)
EndsWhere P (status.BadScript number) before after = P before after × IsSilent before after ×
    Told before (λ text. StopsAt text number after.source)
EndsWhere P status.Memory before after = P before after × IsSilent before after ×
    Told before (λ text. SomeRead text after.source)
EndsWhere P status.SourceFault before after = SourceFailed before after ×
    (after.sink.passed ≡ after.sink.written) × IsSilent before after ×
    Told before (λ text. TakenRead text after.source)
EndsWhere P status.SinkFault before after = SinkFailed before after ×
    Told before (λ text. CutShort text before after)
EndsWhere P other before after = ⊥

-- nothing has failed, and all that was written was passed on
abbrev pub IsCalm : Outside → Outside → Type 0
IsCalm before after = NothingFailed before after × (after.sink.passed ≡ after.sink.written)

abbrev pub AuditEnds : RunStatus → Outside → Outside → Type 0
AuditEnds result before after = EndsWhere IsCalm result before after
