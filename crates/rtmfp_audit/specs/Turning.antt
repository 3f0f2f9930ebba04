-- The parts of an audit: a line read, all lines read, the text written, and the end.
use Rattle.std.specs.Prelude.{ℕ, ◌≡◌, ◌+◌, ◌≤◌, ◌⊎◌, List, ◌∷◌, ◌++◌, [], length, take, Some}
use Rattle.rtmfp_host.specs.Faults.{Rose}
use Rattle.rtmfp_host.specs.Seen.{SinkSeen}
use Rattle.rtmfp_host.specs.Taking.{IsAtEnd}
use Rattle.rtmfp_host.specs.Writing.{Appends}
use Rattle.rtmfp_lines.specs.Lines.{NoLf, lines_of}
use Rattle.rtmfp_lines.specs.Outside.{Outside, NothingFailed, Settled, SinkFailed, SourceFailed}
use Rattle.rtmfp_lines.specs.Reading.{Asks, HasRead, IsPart, NextLine}
use Rattle.rtmfp_lines.specs.declared.status.Status.{Status as RunStatus}
use Rattle.rtmfp_lines.specs.declared.status.Status.TheVariants as status
use Rattle.audit_text.specs.Grammar.{IsLineOf, line_limit}
use Rattle.audit_text.specs.declared.line.LogLine.{LogLine}
use Rattle.log_reading.specs.Gathered.{Read, taken}
use Rattle.rtmfp_audit.specs.declared.reading.Turn.{Turn}
use Rattle.rtmfp_audit.specs.declared.reading.Turn.TheVariants.{Went, Ended}
use Rattle.rtmfp_audit.specs.Logs.{ReadsOn, WasRead, IsBadLine}
use Rattle.rtmfp_audit.specs.Lines.{AllRead, SomeRead, StopsAt, TakenRead}
use Rattle.rtmfp_audit.specs.Audits.{IsSilent, Judged, Told}

-- ---- one line

-- what was made of a line
abbrev pub Took : Turn → List ℕ → Read → Read → Type 0
Took Went line before after = (said : LogLine) × IsLineOf line said ×
    (taken said before ≡ Some after)
Took (Ended (status.BadScript number)) line before after = (number ≡ before.count + 1) ×
    IsBadLine before line
Took (Ended status.Memory) line before after = Unit {0}
Took (Ended other) line before after = ⊥

-- more bytes of the source stand behind those that were there, and nothing was written
pub record Moves (before after : Outside) (old bytes : List ℕ) : Type 0 where
  pub read : HasRead before.source.left after.source.left old bytes
  pub asks : Asks line_limit before.source after.source old bytes
  pub silent : IsSilent before after

-- the next line is read, and taken
abbrev pub Turned : Turn → Read → Read → Outside → Outside → List ℕ → List ℕ → Type 0
Turned Went read made before after old new = NothingFailed before after × (line : List ℕ) ×
    Moves before after old (line ++ 10 ∷ new) × NoLf line × (length line ≤ line_limit) ×
    Took Went line read made
Turned (Ended status.Done) read made before after old new = NothingFailed before after ×
    (bytes : List ℕ) × Moves before after old bytes × IsPart line_limit bytes ×
    IsAtEnd after.source.left × ReadsOn (lines_of bytes) read made
Turned (Ended (status.BadScript number)) read made before after old new =
    NothingFailed before after × (bytes : List ℕ) × Moves before after old bytes ×
    (number ≡ read.count + 1) × NextLine (IsBadLine read) after.source.left bytes
Turned (Ended status.Memory) read made before after old new = NothingFailed before after ×
    (bytes : List ℕ) × Moves before after old bytes
Turned (Ended status.SinkFault) read made before after old new = SinkFailed before after ×
    (bytes : List ℕ) × Moves before after old bytes
Turned (Ended status.SourceFault) read made before after old new = SourceFailed before after ×
    (bytes : List ℕ) × Moves before after old bytes × IsPart line_limit bytes ×
    (after.sink.passed ≡ after.sink.written)
Turned (Ended other) read made before after old new = ⊥

-- ---- all lines

-- how the reading of all lines ends: at Done this was read
abbrev pub Reads : RunStatus → Read → Outside → Outside → Type 0
Reads status.Done made before after = NothingFailed before after × IsSilent before after ×
    WasRead made × Told before (λ text. AllRead text made after.source)
Reads (status.BadScript number) made before after = NothingFailed before after ×
    IsSilent before after × Told before (λ text. StopsAt text number after.source)
Reads status.Memory made before after = NothingFailed before after × IsSilent before after ×
    Told before (λ text. SomeRead text after.source)
Reads status.SinkFault made before after = SinkFailed before after × IsSilent before after ×
    Told before (λ text. SomeRead text after.source)
Reads status.SourceFault made before after = SourceFailed before after ×
    (after.sink.passed ≡ after.sink.written) × IsSilent before after ×
    Told before (λ text. TakenRead text after.source)
Reads other made before after = ⊥

-- ---- the text

-- what is judged of logs is written
abbrev pub Writes : RunStatus → Read → SinkSeen → SinkSeen → Type 0
Writes status.Memory read before after = after ≡ before
Writes status.SinkFault read before after = Rose before.faults after.faults ×
    (result : RunStatus) × (text : List ℕ) × (count : ℕ) × Judged result read text ×
    Appends before.written after.written (take count text)
Writes result read before after = (after.faults ≡ before.faults) × (text : List ℕ) ×
    Judged result read text × Appends before.written after.written text

-- ---- the end

-- all that the sink held was passed on, and the status stays; or the sink failed there
abbrev pub PassesOn : RunStatus → RunStatus → SinkSeen → SinkSeen → Type 0
PassesOn ended result before after = Appends before.written after.written [] ×
    (((result ≡ ended) × Settled before after) ⊎
    ((result ≡ status.SinkFault) × Rose before.faults after.faults))

-- where the outside has failed nothing more is done
abbrev pub Finishes : RunStatus → RunStatus → SinkSeen → SinkSeen → Type 0
Finishes status.SinkFault result before after = (result ≡ status.SinkFault) × (after ≡ before)
Finishes status.SourceFault result before after = (result ≡ status.SourceFault) × (after ≡ before)
Finishes ended result before after = PassesOn ended result before after
