-- Answers that stand where a test passes, and the first of several.
use Rattle.std.specs.Prelude.{Bool, List, [], ◌∷◌, Option, Some, None, if◌then◌else◌}

-- this answer where the test passes
abbrev pub where_true : {A : Type 0} → Bool → A → Option A
where_true test answer = if test then Some answer else None

-- the first of these that stands
abbrev pub first_that_stands : {A : Type 0} → List (Option A) → Option A
first_that_stands [] = None
first_that_stands (None ∷ rest) = first_that_stands rest
first_that_stands (Some answer ∷ rest) = Some answer
