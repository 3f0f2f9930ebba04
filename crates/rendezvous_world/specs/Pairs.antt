-- How many pairs of an end and a peer keep a session.
use Rattle.std.specs.Prelude.{ℕ, ◌+◌, List, [], ◌∷◌, if◌then◌else◌}
use Rattle.endpoint_model.specs.Event.{own_of}
use Rattle.endpoint.specs.Keeps.{keeps}
use Rattle.rendezvous_world.specs.Seen.{EndSeen}

-- with how many of these an end keeps one
abbrev pub kept_with : EndSeen → List EndSeen → ℕ
kept_with end [] = 0
kept_with end (other ∷ others) = if keeps end.state (own_of other.setup) then
    1 + kept_with end others else kept_with end others

-- how many pairs of an end of these, and of another of all
abbrev pub kept_pairs : List EndSeen → List EndSeen → ℕ
kept_pairs [] all = 0
kept_pairs (end ∷ ends) all = kept_with end all + kept_pairs ends all
