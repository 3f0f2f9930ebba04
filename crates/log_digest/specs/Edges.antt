-- Values for the rows of this crate.
use Rattle.std.specs.Prelude.{ℕ, List, [], ◌∷◌, replicate, Bool}
use Rattle.crypto_profile.specs.declared.keys.Context.{Context}
use Rattle.crypto_profile.specs.declared.keys.Context.TheVariants.{Session}
use Rattle.glare_core.specs.declared.facts.Joined.{Joined}

-- a session with the peer 5, under the session ID 3
abbrev pub session : Joined
session = record { peer = 5 ∷ []; n = 2; near = 3; far = 4; ni = 7 ∷ []; nr = 8 ∷ []; k = 0 }

-- the context of a session in one direction
abbrev pub towards : Bool → Context
towards to_responder = Session 0 (7 ∷ []) (8 ∷ []) (5 ∷ []) (6 ∷ []) 4 3 to_responder

-- a datagram of so many bytes
abbrev pub long : ℕ → List ℕ
long count = replicate count 9
