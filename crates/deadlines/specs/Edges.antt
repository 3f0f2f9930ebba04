-- Values for the rows.
use Rattle.std.specs.Prelude.{ℕ, [], ◌∷◌, Option, Some, None}
use Rattle.deadlines.specs.Deadlines.{Deadline, Slots}

abbrev pub at_5 : ℕ → Option Deadline
at_5 near = Some (record { at = 5; near = near })

abbrev pub at_6 : ℕ → Option Deadline
at_6 near = Some (record { at = 6; near = near })

-- the slots 0 to 2: the first is due later and has the lower near id
abbrev pub three : Slots
three = at_6 7 ∷ None ∷ at_5 9 ∷ []
