-- How a run over the lines of a source ends, and what it has written then.
use Rattle.std.specs.Prelude.{◌≡◌, ℕ, ◌+◌, ◌≤◌, ◌⊎◌, List, [], ◌∷◌, ◌++◌, length, take, Some, IfSome}
use Rattle.rtmfp_host.specs.Writing.{Appends}
use Rattle.rtmfp_cli.specs.declared.doing.Doing.{Doing}
use Rattle.rtmfp_lines.specs.declared.status.Status.{Status}
use Rattle.rtmfp_lines.specs.declared.status.Status.TheVariants as status
use Rattle.rtmfp_host.specs.Seen.{SourceSeen}
use Rattle.rtmfp_lines.specs.Outside.{Outside, Settled, SinkFailed, SourceFailed}
use Rattle.rtmfp_lines.specs.Lines.{lines_of}
use Rattle.rtmfp_lines.specs.Taken.{HasTaken as Taken, HasTakenWhole}
use Rattle.rtmfp_cli.specs.Doing.{Does, Holds, IsBadLine, IsForgedLine, ending_of, limit_of}

-- the most lines that a source may have
abbrev pub max_lines : ℕ
max_lines = 1000000

-- ---- what was done

-- lines, from line n on, one after another: what they leave, and the text that is written of them
abbrev pub Runs : ℕ → Doing → List (List ℕ) → Doing → List ℕ → Type 0
Runs n doing [] left text = (left ≡ doing) × (text ≡ [])
Runs n doing (line ∷ lines) left text =
    (middle : Doing) × (first : List ℕ) × (rest : List ℕ) × Does doing n line middle first ×
    Runs (n + 1) middle lines left rest × (text ≡ first ++ rest)

-- these first lines were done, their text was written, and nothing else; what they leave holds
pub record HasDone (doing : Doing) (before after : Outside) (lines : List (List ℕ)) : Type 0 where
  pub left : Doing
  pub text : List ℕ
  pub ran : Runs 1 doing lines left text
  pub holds : Holds left
  pub written : Appends before.sink.written after.sink.written text

-- these lines, which are all, were done, and their text and the ending were written
pub record HasEnded (doing : Doing) (before after : Outside) (lines : List (List ℕ)) : Type 0 where
  pub left : Doing
  pub text : List ℕ
  pub ran : Runs 1 doing lines left text
  pub holds : Holds left
  pub written : Appends before.sink.written after.sink.written (text ++ ending_of left)

-- ---- what was read

-- what was taken from the source of a script, of which these lines were done
abbrev pub HasTaken : Doing → List ℕ → List (List ℕ) → SourceSeen → Type 0
HasTaken doing script lines after = Taken (limit_of doing) max_lines script lines after

-- ---- how a run ends

-- a script has these lines, and then this one as line n
pub record StopsAt (script : List ℕ) (n : ℕ) (lines : List (List ℕ)) (line : List ℕ) : Type 0 where
  pub more : List (List ℕ)
  pub split : lines_of script ≡ lines ++ line ∷ more
  pub number : length lines + 1 ≡ n

-- all lines were done, the source was read to its end, and the ending was written
pub record AllDone (doing : Doing) (script : List ℕ) (before after : Outside) : Type 0 where
  pub read : after.source.left ≡ Some []
  pub count : length (lines_of script) ≤ max_lines
  pub took : HasTaken doing script (lines_of script) after.source
  pub has : HasEnded doing before after (lines_of script)

-- the first lines were done, and no other
pub record SomeDone (doing : Doing) (script : List ℕ) (before after : Outside) : Type 0 where
  pub lines : List (List ℕ)
  pub more : List (List ℕ)
  pub split : lines_of script ≡ lines ++ more
  pub took : HasTaken doing script lines after.source
  pub has : HasDone doing before after lines

-- the lines before line n were done, and line n is of this kind after them
pub record StopsOn (Kind : Doing → ℕ → List ℕ →
    Type 0) (doing : Doing) (script : List ℕ) (n : ℕ) (before after : Outside) : Type 0 where
  pub lines : List (List ℕ)
  pub line : List ℕ
  pub stops : StopsAt script n lines line
  pub within : n ≤ max_lines
  pub took : HasTaken doing script lines after.source
  pub has : HasDone doing before after lines
  pub kind : Kind has.left n line

-- as many lines as a source may have were done, and there is one more
pub record TooMany (doing : Doing) (script : List ℕ) (before after : Outside) : Type 0 where
  pub lines : List (List ℕ)
  pub line : List ℕ
  pub stops : StopsAt script (max_lines + 1) lines line
  pub took : HasTaken doing script lines after.source
  pub has : HasDone doing before after lines

-- the whole lines of what was taken from the source were done, and more was needed
pub record TakenDone (doing : Doing) (script : List ℕ) (before after : Outside) : Type 0 where
  pub lines : List (List ℕ)
  pub took : HasTakenWhole (limit_of doing) max_lines script lines after.source
  pub has : HasDone doing before after lines

-- nothing, or the first bytes of what comes next: of the text of line n, and behind the last line
-- of the ending
abbrev pub IsPartOfNext : Doing → ℕ → List (List ℕ) → List ℕ → Type 0
IsPartOfNext doing n [] part = (k : ℕ) × (part ≡ take k (ending_of doing))
IsPartOfNext doing n (line ∷ later) part = (part ≡ []) ⊎
    ((left : Doing) × (text : List ℕ) × (k : ℕ) × Does doing n line left text ×
    (part ≡ take k text))

-- the text of the first lines was written, and perhaps a part of what comes next
pub record CutShort (doing : Doing) (script : List ℕ) (before after : Outside) : Type 0 where
  pub lines : List (List ℕ)
  pub more : List (List ℕ)
  pub split : lines_of script ≡ lines ++ more
  pub took : HasTaken doing script lines after.source
  pub left : Doing
  pub text : List ℕ
  pub ran : Runs 1 doing lines left text
  pub holds : Holds left
  pub part : List ℕ
  pub next : IsPartOfNext left (length lines + 1) more part
  pub written : Appends before.sink.written after.sink.written (text ++ part)

-- where the source tells its bytes
abbrev pub Told : Outside → (List ℕ → Type 0) → Type 0
Told before P = IfSome before.source.left P

-- How a run over the source ends with each status, where nothing has failed but by the status, and
-- this holds of the outside where nothing has. Other statuses don't come.
abbrev pub EndsWhere : (Outside → Outside → Type 0) → Doing → Status → Outside → Outside → Type 0
EndsWhere P doing status.Done before after = P before after ×
    Told before (λ script. AllDone doing script before after)
EndsWhere P doing status.Memory before after = P before after ×
    Told before (λ script. SomeDone doing script before after)
EndsWhere P doing (status.BadScript n) before after = P before after ×
    Told before (λ script. StopsOn IsBadLine doing script n before after)
EndsWhere P doing (status.Forged n) before after = P before after ×
    Told before (λ script. StopsOn IsForgedLine doing script n before after)
EndsWhere P doing status.SinkFault before after = SinkFailed before after ×
    Told before (λ script. CutShort doing script before after)
EndsWhere P doing status.SourceFault before after =
    SourceFailed before after × (after.sink.passed ≡ after.sink.written) ×
    Told before (λ script. TakenDone doing script before after)
EndsWhere P doing status.ScriptLong before after = P before after ×
    Told before (λ script. TooMany doing script before after)
EndsWhere P doing other before after = ⊥

-- nothing has failed, and all that was written was passed on
pub record IsWhole (before after : Outside) : Type 0 where
  pub source : after.source.faults ≡ before.source.faults
  pub sink : Settled before.sink after.sink

abbrev pub ScriptEnds : Doing → Status → Outside → Outside → Type 0
ScriptEnds doing status before after = EndsWhere IsWhole doing status before after
