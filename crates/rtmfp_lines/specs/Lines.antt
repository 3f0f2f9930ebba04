-- The lines of a text. Each ends with LF; a last line without one counts.
use Rattle.std.specs.Prelude.{◌≢◌, ℕ, ◌==◌, List, [], ◌∷◌, if◌then◌else◌}
use Rattle.std.specs.List.{AllByRecursion}

-- the byte stands before the first line
abbrev pub put_first : ℕ → List (List ℕ) → List (List ℕ)
put_first b [] = (b ∷ []) ∷ []
put_first b (line ∷ lines) = (b ∷ line) ∷ lines

-- the lines, each without its LF
abbrev pub lines_of : List ℕ → List (List ℕ)
lines_of [] = []
lines_of (b ∷ bs) = if b == 10 then [] ∷ lines_of bs else put_first b (lines_of bs)

-- the byte stands before the first line, where that one is whole
abbrev pub put_whole : ℕ → List (List ℕ) → List (List ℕ)
put_whole b [] = []
put_whole b (line ∷ lines) = (b ∷ line) ∷ lines

-- the lines that end with LF
abbrev pub whole_lines : List ℕ → List (List ℕ)
whole_lines [] = []
whole_lines (b ∷ bs) = if b == 10 then [] ∷ whole_lines bs else put_whole b (whole_lines bs)

-- no LF is among the bytes
abbrev pub NoLf : List ℕ → Type 0
NoLf bs = AllByRecursion (λ b. b ≢ 10) bs
