-- What was taken from a source of lines, and that each read of it was needed.
use Rattle.std.specs.Prelude.{◌≡◌, ℕ, ◌≤◌, ◌⊎◌, List, [], ◌++◌, length, Option, Some}
use Rattle.std.specs.List.{AllByRecursion}
use Rattle.rtmfp_host.specs.Seen.{SourceSeen}
use Rattle.rtmfp_lines.specs.Lines.{lines_of, whole_lines}

-- A line may have so many bytes, and a text so many lines. No line of these bytes, whole or begun,
-- has more, and there are no more of them.
pub record AreWithin (limit most : ℕ) (bytes : List ℕ) : Type 0 where
  pub short : AllByRecursion (λ line. length line ≤ limit) (lines_of bytes)
  pub few : length (lines_of bytes) ≤ most

-- Nothing was taken, or the last read was needed: in what was taken without it each whole line was
-- handled, no line is over its limit, and there is none too many.
abbrev pub WasNeeded : ℕ → ℕ → List (List ℕ) → (taken rest : List ℕ) → Option (List ℕ) → Type 0
WasNeeded limit most lines taken rest asked = (taken ≡ []) ⊎
    ((front : List ℕ) × (got : List ℕ) × (later : List (List ℕ))
    × (taken ≡ front ++ got) × (asked ≡ Some (got ++ rest)) × (lines ≡ whole_lines front ++ later) ×
    AreWithin limit most front)

-- what was taken from the source of a text, of which these lines were handled
pub record HasTaken (limit most : ℕ) (text : List ℕ) (lines : List (List ℕ)) (after : SourceSeen)
    : Type 0 where
  pub taken : List ℕ
  pub rest : List ℕ
  pub split : text ≡ taken ++ rest
  pub left : after.left ≡ Some rest
  pub needed : WasNeeded limit most lines taken rest after.asked

-- The whole lines of what was taken are these, and in it no line is over its limit, and there is
-- none too many: so another read was needed.
pub record HasTakenWhole (limit most : ℕ) (text : List ℕ) (lines : List (List ℕ))
    (after : SourceSeen) : Type 0 where
  pub taken : List ℕ
  pub rest : List ℕ
  pub split : text ≡ taken ++ rest
  pub left : after.left ≡ Some rest
  pub whole : lines ≡ whole_lines taken
  pub within : AreWithin limit most taken
