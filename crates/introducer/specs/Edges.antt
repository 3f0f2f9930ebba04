-- Values for the rows.
use Rattle.std.specs.Prelude.{ℕ, List, [], ◌∷◌}
use Rattle.introducer.specs.Happenings.{Happening, Keeps}

-- the fingerprints of two ends
abbrev pub one : List ℕ
one = 1 ∷ []

abbrev pub two : List ℕ
two = 2 ∷ []

-- the first end's sessions 10 and 11 are kept, and the other one's session 20 between them
abbrev pub both : List Happening
both = Keeps one 11 ∷ Keeps two 20 ∷ Keeps one 10 ∷ []
