-- Small worlds, in which the rules are told at their edges.
use Rattle.std.specs.Prelude.{ℕ, ◌≡◌, List, [], ◌∷◌, length, false}
use Rattle.std.specs.List.{list_any}
use Rattle.endpoint_model.specs.Event.{Setup}
use Rattle.endpoint_model.specs.State.{State}
use Rattle.rendezvous_world.specs.Seen.{EndSeen, Seen}
use Rattle.rendezvous_world.specs.Faults.{is_like}

-- a world of these ends, in which nothing was done, at moment 5
abbrev pub world_of : List EndSeen → Seen
world_of ends = record { moment = 5; ends = ends; lines = [] }

-- an end called a, whatever it was given and keeps
abbrev pub called_a : Setup → State → EndSeen
called_a setup state = record { name = 97 ∷ []; setup = setup; state = state }

-- so many ends, of which none is like a new one called b with this certificate
abbrev pub AreOthers : ℕ → List ℕ → List EndSeen → Type 0
AreOthers count cert ends = (length ends ≡ count) × (list_any (is_like (98 ∷ []) cert) ends ≡ false)
