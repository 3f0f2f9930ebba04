-- What was read of a text, and that each read of its source was needed.
use Rattle.std.specs.Prelude.{ℕ, ◌≡◌, ◌+◌, List, [], ◌∷◌, ◌++◌, length, Some}
use Rattle.rtmfp_host.specs.Seen.{SourceSeen}
use Rattle.rtmfp_lines.specs.Lines.{lines_of}
use Rattle.rtmfp_lines.specs.Taken.{HasTaken, HasTakenWhole}
use Rattle.audit_text.specs.Grammar.{line_limit}
use Rattle.log_reading.specs.Gathered.{Read, most_lines, nothing_read}
use Rattle.rtmfp_audit.specs.Logs.{ReadsOn, IsBadLine, IsLogText}

-- so many lines are looked at: one more than a text may have
abbrev pub most_read : ℕ
most_read = most_lines + 1

-- what was taken from the source of a text, of which these lines were read
abbrev pub TookFor : List ℕ → List (List ℕ) → SourceSeen → Type 0
TookFor text lines after = HasTaken line_limit most_read text lines after

-- all was read
pub record AllRead (text : List ℕ) (read : Read) (after : SourceSeen) : Type 0 where
  pub says : IsLogText text read
  pub end : after.left ≡ Some []
  pub took : TookFor text (lines_of text) after

-- the first lines were read, and no other
pub record SomeRead (text : List ℕ) (after : SourceSeen) : Type 0 where
  pub lines : List (List ℕ)
  pub more : List (List ℕ)
  pub split : lines_of text ≡ lines ++ more
  pub read : Read
  pub says : ReadsOn lines nothing_read read
  pub took : TookFor text lines after

-- the lines before this one were read, and it is bad behind them
pub record StopsAt (text : List ℕ) (number : ℕ) (after : SourceSeen) : Type 0 where
  pub lines : List (List ℕ)
  pub line : List ℕ
  pub more : List (List ℕ)
  pub split : lines_of text ≡ lines ++ line ∷ more
  pub count : length lines + 1 ≡ number
  pub read : Read
  pub says : ReadsOn lines nothing_read read
  pub bad : IsBadLine read line
  pub took : TookFor text lines after

-- the whole lines of what was taken from the source were read, and more was needed
pub record TakenRead (text : List ℕ) (after : SourceSeen) : Type 0 where
  pub lines : List (List ℕ)
  pub read : Read
  pub says : ReadsOn lines nothing_read read
  pub took : HasTakenWhole line_limit most_read text lines after
