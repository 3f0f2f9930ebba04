-- Values for the rows of this crate.
use Rattle.std.specs.Prelude.{ℕ, [], ◌∷◌, Bool, Option, Some}
use Rattle.crypto_profile.specs.declared.keys.Context.{Context}
use Rattle.crypto_profile.specs.declared.keys.Context.TheVariants.{Session as InSession}
use Rattle.glare_core.specs.declared.facts.Joined.{Joined}
use Rattle.log_digest.specs.Generations.{Known}
use Rattle.log_contexts.specs.declared.threads.Thread.{Thread}

-- a session with the peer 5, under the session ID 3
abbrev pub session : Joined
session = record { peer = 5 ∷ []; n = 2; near = 3; far = 4; ni = 7 ∷ []; nr = 8 ∷ []; k = 0 }

-- what began with this tag, and its keying in this generation, if it went out
abbrev pub thread : ℕ → Option ℕ → Option Thread
thread tag keying = Some (record { tag = Some (tag ∷ []); keying = keying })

-- the context of that session in one direction
abbrev pub towards : Bool → Context
towards to_responder = InSession 0 (7 ∷ []) (8 ∷ []) (5 ∷ []) (6 ∷ []) 4 3 to_responder

-- the current generation, and the next one
abbrev pub known : Known
known = record { current = 7; next = Some 8 }
