-- What one turn of a run does: one line is read and done.
use Rattle.std.specs.Prelude.{◌≡◌, ℕ, ◌≤◌, ◌⊎◌, List, [], ◌∷◌, ◌++◌, length, take}
use Rattle.rtmfp_host.specs.Faults.{Rose}
use Rattle.rtmfp_host.specs.Seen.{SinkSeen}
use Rattle.rtmfp_host.specs.Taking.{Consumes, IsAtEnd}
use Rattle.rtmfp_host.specs.Writing.{Appends}
use Rattle.rtmfp_cli.specs.declared.doing.Doing.{Doing}
use Rattle.rtmfp_lines.specs.declared.status.Status.{Status as RunStatus}
use Rattle.rtmfp_lines.specs.declared.status.Status.TheVariants as status
use Rattle.rtmfp_cli.specs.declared.script_run.Turn.{Turn}
use Rattle.rtmfp_cli.specs.declared.script_run.Turn.TheVariants.{Went, Ended}
use Rattle.rtmfp_lines.specs.Outside.{NothingFailed, Outside, SinkFailed, SourceFailed}
use Rattle.rtmfp_lines.specs.Lines.{NoLf, lines_of}
use Rattle.rtmfp_lines.specs.Reading.{Asks, IsPart, NextLine}
use Rattle.rtmfp_cli.specs.Doing.{Does, IsBadLine, IsForgedLine, limit_of}
use Rattle.rtmfp_cli.specs.Script.{Runs}

-- more bytes of the source are taken, behind those that were not handled yet, and each read was
-- needed
pub record Takes (limit : ℕ) (before after : Outside) (old bytes : List ℕ) : Type 0 where
  pub got : List ℕ
  pub consumed : Consumes before.source.left after.source.left got
  pub joined : bytes ≡ old ++ got
  pub asks : Asks limit before.source after.source old bytes

-- a line and its LF are handled, and line n is done
pub record DoesOne (doing left : Doing) (n : ℕ) (before after : Outside) (old new : List ℕ)
    : Type 0 where
  pub line : List ℕ
  pub text : List ℕ
  pub takes : Takes (limit_of doing) before after old (line ++ 10 ∷ new)
  pub no_lf : NoLf line
  pub fits : length line ≤ limit_of doing
  pub does : Does doing n line left text
  pub written : Appends before.sink.written after.sink.written text
  pub calm : NothingFailed before after

-- the last line is done, if there is one without LF, and the source is at its end
pub record DoesRest (doing left : Doing) (n : ℕ) (before after : Outside) (old : List ℕ)
    : Type 0 where
  pub bytes : List ℕ
  pub text : List ℕ
  pub takes : Takes (limit_of doing) before after old bytes
  pub end : IsAtEnd after.source.left
  pub part : IsPart (limit_of doing) bytes
  pub count : length (lines_of bytes) ≤ 1
  pub ran : Runs n doing (lines_of bytes) left text
  pub written : Appends before.sink.written after.sink.written text
  pub calm : NothingFailed before after

-- nothing more is done
pub record DoesNone (limit : ℕ) (before after : Outside) (old bytes : List ℕ) : Type 0 where
  pub takes : Takes limit before after old bytes
  pub written : Appends before.sink.written after.sink.written []

-- nothing more is done, and the next line is of this kind
abbrev pub StopsBefore : (List ℕ → Type 0) → ℕ → Outside → Outside → List ℕ → Type 0
StopsBefore P limit before after old =
    NothingFailed before after × ((bytes : List ℕ) × DoesNone limit before after old bytes ×
    NextLine P after.source.left bytes)

-- nothing more is done, and the source failed where more was needed
abbrev pub StopsReading : ℕ → Outside → Outside → List ℕ → Type 0
StopsReading limit before after old =
    SourceFailed before after × (after.sink.passed ≡ after.sink.written) ×
    ((bytes : List ℕ) × DoesNone limit before after old bytes × IsPart limit bytes)

-- a part of the text of the next line is written, or nothing
pub record DoesPart (doing : Doing) (n : ℕ) (before after : Outside) (old : List ℕ) : Type 0 where
  pub bytes : List ℕ
  pub part : List ℕ
  pub takes : Takes (limit_of doing) before after old bytes
  pub next : (part ≡ []) ⊎ ((left : Doing) × (text : List ℕ) × (k : ℕ) × (part ≡ take k text) ×
      NextLine (λ line. Does doing n line left text) after.source.left bytes)
  pub written : Appends before.sink.written after.sink.written part
  pub failed : SinkFailed before after

abbrev pub Turned : Turn → Doing → Doing → ℕ → Outside → Outside → List ℕ → List ℕ → Type 0
Turned Went doing left n before after old new = DoesOne doing left n before after old new
Turned (Ended status.Done) doing left n before after old new =
    DoesRest doing left n before after old
Turned (Ended status.Memory) doing left n before after old new = NothingFailed before after ×
    ((bytes : List ℕ) × DoesNone (limit_of doing) before after old bytes)
Turned (Ended (status.BadScript m)) doing left n before after old new = (m ≡ n) ×
    StopsBefore (IsBadLine doing n) (limit_of doing) before after old
Turned (Ended (status.Forged m)) doing left n before after old new = (m ≡ n) ×
    StopsBefore (IsForgedLine doing n) (limit_of doing) before after old
Turned (Ended status.SinkFault) doing left n before after old new =
    DoesPart doing n before after old
Turned (Ended status.SourceFault) doing left n before after old new =
    StopsReading (limit_of doing) before after old
Turned (Ended other) doing left n before after old new = ⊥

-- what doing line n makes of the sink
abbrev pub Printed : Turn → Doing → Doing → ℕ → List ℕ → SinkSeen → SinkSeen → Type 0
Printed Went doing left n line before after = (text : List ℕ) × Does doing n line left text ×
    Appends before.written after.written text × (after.faults ≡ before.faults)
Printed (Ended (status.BadScript m)) doing left n line before after = (m ≡ n) ×
    IsBadLine doing n line × (after.written ≡ before.written) × (after.faults ≡ before.faults)
Printed (Ended (status.Forged m)) doing left n line before after = (m ≡ n) ×
    IsForgedLine doing n line × (after.written ≡ before.written) × (after.faults ≡ before.faults)
Printed (Ended status.SinkFault) doing left n line before after =
    (text : List ℕ) × (k : ℕ) × Does doing n line left text ×
    Appends before.written after.written (take k text) × Rose before.faults after.faults
Printed (Ended status.Memory) doing left n line before after =
    (after.written ≡ before.written) × (after.faults ≡ before.faults)
Printed (Ended other) doing left n line before after = ⊥

-- How a source ends of which as many lines were done as it may have. There no byte may stand.
abbrev pub Closed : RunStatus → Outside → Outside → List ℕ → Type 0
Closed status.Done before after old = NothingFailed before after × DoesNone 0 before after old [] ×
    IsAtEnd after.source.left
Closed status.ScriptLong before after old = StopsBefore (λ line. Unit {0}) 0 before after old
Closed status.SourceFault before after old = StopsReading 0 before after old
Closed status.SinkFault before after old = SinkFailed before after ×
    ((bytes : List ℕ) × DoesNone 0 before after old bytes)
Closed other before after old = ⊥

-- what the ending, once all lines were done, makes of the sink
abbrev pub EndsAs : RunStatus → List ℕ → SinkSeen → SinkSeen → Type 0
EndsAs status.Done ending before after = Appends before.written after.written ending ×
    (after.faults ≡ before.faults)
EndsAs status.Memory ending before after = (after.written ≡ before.written) ×
    (after.faults ≡ before.faults)
EndsAs status.SinkFault ending before after =
    (k : ℕ) × Appends before.written after.written (take k ending) ×
    Rose before.faults after.faults
EndsAs other ending before after = ⊥

-- What the end of the lines makes of a status and of the sink: where all were done the ending is
-- written.
abbrev pub Concludes : RunStatus → RunStatus → List ℕ → SinkSeen → SinkSeen → Type 0
Concludes status.Done result ending before after = EndsAs result ending before after
Concludes other result ending before after = (result ≡ other) × (after ≡ before)
