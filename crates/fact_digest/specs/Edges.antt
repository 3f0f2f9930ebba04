-- Values for the rows of this crate.
use Rattle.std.specs.Prelude.{[], ◌∷◌}
use Rattle.glare_core.specs.declared.facts.Joined.{Joined}

-- a session with the peer 5
abbrev pub session : Joined
session = record { peer = 5 ∷ []; n = 9; near = 7; far = 8; ni = []; nr = []; k = 6 }
