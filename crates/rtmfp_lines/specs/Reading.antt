-- Reading one line from a source, in whatever pieces it gives.
use Rattle.std.specs.Prelude.{◌≡◌, ◌≢◌, ℕ, ◌+◌, ◌<◌, ◌≤◌, ◌⊎◌, List, [], ◌∷◌, ◌++◌, length, take, drop, slice_index, Option, Some, None, IfSome}
use Rattle.rtmfp_host.specs.Taking.{Consumes, IsAtEnd}
use Rattle.rtmfp_lines.specs.declared.lines.Found.{Found}
use Rattle.rtmfp_lines.specs.declared.lines.Found.TheVariants as found
use Rattle.rtmfp_lines.specs.declared.lines.Next.{Next}
use Rattle.rtmfp_lines.specs.declared.lines.Next.TheVariants as next
use Rattle.rtmfp_lines.specs.Lines.{NoLf, lines_of}
use Rattle.rtmfp_host.specs.Seen.{SourceSeen}
use Rattle.rtmfp_lines.specs.Outside.{Outside, NothingFailed, SourceFailed, SinkFailed}

-- a line of so many bytes stands in front, and its LF
pub record StartsWithLine (limit : ℕ) (bytes : List ℕ) (len : ℕ) : Type 0 where
  pub fits : len ≤ limit
  pub no_lf : NoLf (take len bytes)
  pub size : length (take len bytes) ≡ len
  pub joined : bytes ≡ take len bytes ++ 10 ∷ drop (len + 1) bytes

-- more bytes without LF stand in front than a line may have
abbrev pub IsTooLong : ℕ → List ℕ → Type 0
IsTooLong limit bytes = (limit < length bytes) × NoLf (take (limit + 1) bytes)

-- a part of a line, and nothing else
abbrev pub IsPart : ℕ → List ℕ → Type 0
IsPart limit bytes = (length bytes ≤ limit) × NoLf bytes

-- the first LF stands at this index, or nowhere
abbrev pub IsFirstLf : List ℕ → Option ℕ → Type 0
IsFirstLf bytes None = NoLf bytes
IsFirstLf bytes (Some i) = (i < length bytes) × NoLf (take i bytes) × (slice_index bytes i ≡ 10)

-- the first line of a text, and what stands behind it
pub record Splits (text line rest : List ℕ) : Type 0 where
  pub lines : lines_of text ≡ line ∷ lines_of rest
  pub shorter : length rest < length text

abbrev pub Finds : ℕ → List ℕ → Found → Type 0
Finds limit bytes (found.Line len) = StartsWithLine limit bytes len
Finds limit bytes found.TooLong = IsTooLong limit bytes
Finds limit bytes found.More = IsPart limit bytes

-- what was taken from the source stands behind the bytes that were there
pub record HasRead (before after : Option (List ℕ)) (old new : List ℕ) : Type 0 where
  pub got : List ℕ
  pub consumed : Consumes before after got
  pub joined : new ≡ old ++ got

-- Before the last read a part of a line stood there, so that it was needed; what it gave stands
-- behind that.
pub record LastRead (limit : ℕ) (asked left : Option (List ℕ)) (bytes : List ℕ) : Type 0 where
  pub part : List ℕ
  pub got : List ℕ
  pub is_part : IsPart limit part
  pub joined : bytes ≡ part ++ got
  pub consumed : Consumes asked left got

-- nothing was read
pub record NotRead (before after : SourceSeen) (old new : List ℕ) : Type 0 where
  pub left : after.left ≡ before.left
  pub asked : after.asked ≡ before.asked
  pub bytes : new ≡ old

-- each read of the source was needed
abbrev pub Asks : ℕ → SourceSeen → SourceSeen → List ℕ → List ℕ → Type 0
Asks limit before after old new = NotRead before after old new ⊎
    LastRead limit after.asked after.left new

-- what has failed; all that the sink held was passed on before the source was asked in vain
abbrev pub NextFaults : Next → Outside → Outside → Type 0
NextFaults (next.Line len) before after = NothingFailed before after
NextFaults next.Last before after = NothingFailed before after
NextFaults next.End before after = NothingFailed before after
NextFaults next.TooLong before after = NothingFailed before after
NextFaults next.SourceFailed before after = SourceFailed before after ×
    (after.sink.passed ≡ after.sink.written)
NextFaults next.SinkFailed before after = SinkFailed before after

-- what stands in the buffer after a line was read
abbrev pub LineStands : ℕ → Option (List ℕ) → Next → List ℕ → Type 0
LineStands limit left (next.Line len) bytes = StartsWithLine limit bytes len
LineStands limit left next.Last bytes = IsPart limit bytes × (bytes ≢ []) × IsAtEnd left
LineStands limit left next.End bytes = (bytes ≡ []) × IsAtEnd left
LineStands limit left next.TooLong bytes = IsTooLong limit bytes
LineStands limit left next.SourceFailed bytes = IsPart limit bytes
LineStands limit left next.SinkFailed bytes = IsPart limit bytes

abbrev pub ReadsLine : ℕ → Option (List ℕ) → Option (List ℕ) → Next → List ℕ → List ℕ → Type 0
ReadsLine limit before after result old new = HasRead before after old new ×
    LineStands limit after result new

-- the first line of these bytes and of what is left behind them is of this kind
abbrev pub NextLine : (List ℕ → Type 0) → Option (List ℕ) → List ℕ → Type 0
NextLine P left bytes = IfSome left (λ rest.
    (line : List ℕ) × (more : List (List ℕ)) × (lines_of (bytes ++ rest) ≡ line ∷ more) × P line)
