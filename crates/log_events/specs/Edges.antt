-- Values for the rows of this crate.
use Rattle.std.specs.Prelude.{[], ◌∷◌}
use Rattle.glare_core.specs.declared.facts.Joined.{Joined}
use Rattle.endpoint_model.specs.Event.{Call, Advance, Learn}

-- a session with the peer 5, under the session ID 3
abbrev pub session : Joined
session = record { peer = 5 ∷ []; n = 2; near = 3; far = 4; ni = 7 ∷ []; nr = 8 ∷ []; k = 0 }

-- the calls that change generations
abbrev pub learning : Call
learning = Learn (9 ∷ [])

abbrev pub advancing : Call
advancing = Advance
