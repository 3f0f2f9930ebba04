-- The lines of a report.
use Rattle.std.specs.Prelude.{ℕ, List, [], ◌∷◌, codes, decimal}
use Rattle.rtmfp_text.specs.Words.{text_of}

-- what a line begins with: the number of the script's line, and the end's name
unfoldable pub head_text : ℕ → List ℕ → List ℕ
head_text line name = text_of (decimal line ∷ codes " " ∷ name ∷ codes " " ∷ [])

-- a line that tells something of an end
unfoldable pub line_text : ℕ → List ℕ → List ℕ → List ℕ
line_text line name told = text_of (head_text line name ∷ told ∷ codes "\n" ∷ [])
