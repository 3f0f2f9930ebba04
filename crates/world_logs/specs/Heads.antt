-- The lines of what the ends of a world were given first.
use Rattle.std.specs.Prelude.{ℕ, zero, suc, List, [], ◌∷◌, map, Option, Some, None}
use Rattle.endpoint_model.specs.Event.{Setup}
use Rattle.audit_text.specs.declared.line.LogLine.{LogLine}
use Rattle.log_writing.specs.Written.{head_line}
use Rattle.rendezvous_world.specs.Seen.{EndSeen}

abbrev pub heads_of : List EndSeen → List LogLine
heads_of ends = map (λ end. head_line end.name end.setup) ends

-- that of an end, where there is one
abbrev pub head_at : Option EndSeen → List LogLine
head_at None = []
head_at (Some end) = head_line end.name end.setup ∷ []

-- what the text calls the end with this number
abbrev pub name_at : List EndSeen → ℕ → List ℕ
name_at [] who = []
name_at (end ∷ ends) zero = end.name
name_at (end ∷ ends) (suc who) = name_at ends who

abbrev pub setups_of : List EndSeen → List Setup
setups_of ends = map (λ end. end.setup) ends
