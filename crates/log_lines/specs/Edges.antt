-- Values for the rows of this crate.
use Rattle.std.specs.Prelude.{ℕ, List, [], ◌∷◌, ◌≡◌, map, Bool, Some}
use Rattle.std.specs.FinMap.{get}
use Rattle.glare_core.specs.declared.facts.Why.{Why}
use Rattle.glare_core.specs.declared.facts.Held.{Held}
use Rattle.glare_core.specs.declared.facts.Held.TheVariants.{Opening, HalfOpen, KeptAsResponder, KeptAsInitiator}
use Rattle.glare_core.specs.declared.facts.Joined.{Joined}
use Rattle.log_digest.specs.declared.spot.Spot.{Spot}
use Rattle.log_digest.specs.Kept.{Digested}
use Rattle.log_lines.specs.Decisions.{may_end}

-- a session with the peer 5 under the session ID 3, of the attempt with the number 2, born after 4
-- attempts
abbrev pub session : Joined
session = record { peer = 5 ∷ []; n = 2; near = 3; far = 9; ni = 7 ∷ []; nr = 8 ∷ []; k = 4 }

-- an attempt, a half-open session, and a session that is kept, born here and opened here
abbrev pub attempt : Held
attempt = Opening 2 3 (7 ∷ [])

abbrev pub things : List Held
things =
    attempt ∷ HalfOpen session ∷ KeptAsResponder session ∷ KeptAsInitiator session ∷ []

-- which of these the cause may end, at the end 6, with a peer
abbrev pub ends_of : List ℕ → Why → List Bool
ends_of peer why = map (may_end (6 ∷ []) peer why) things

-- At this moment this stands under the session ID 3.
pub record IsAt (now : ℕ) (spot : Spot) (d : Digested) : Type 0 where
  pub moment_is : d.moment ≡ now
  pub spot_is : get d.spots 3 ≡ Some spot
