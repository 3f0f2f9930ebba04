-- Values for the rows of this crate.
use Rattle.std.specs.Prelude.{ℕ, [], ◌∷◌, replicate, Option, Some, false}
use Rattle.glare_core.specs.declared.facts.Held.{Held}
use Rattle.glare_core.specs.declared.facts.Held.TheVariants.{Opening}
use Rattle.glare_core.specs.declared.facts.Joined.{Joined}
use Rattle.endpoint_model.specs.Event.{ReceiveCall}
use Rattle.log_digest.specs.declared.spot.Spot.{Spot}
use Rattle.log_digest.specs.declared.spot.Spot.TheVariants.{Searching}
use Rattle.log_values.specs.Events.{draws_of, no_tag}

-- a datagram of so many bytes from an address
abbrev pub received : ℕ → Option ReceiveCall
received size = Some (record {
  from = record { v6 = false; host = 10 ∷ 0 ∷ 0 ∷ 1 ∷ []; port = 1935; origin = 0 };
  datagram = replicate size 0;
  draws = draws_of [] no_tag;
})

-- an attempt, and a session
abbrev pub attempt : Held
attempt = Opening 2 3 (7 ∷ [])

abbrev pub session : Joined
session = record { peer = 5 ∷ []; n = 2; near = 3; far = 9; ni = 7 ∷ []; nr = 8 ∷ []; k = 4 }

-- a search that drew the nonce 7
abbrev pub search : Spot
search = Searching (65 ∷ []) (1 ∷ []) (7 ∷ []) 10
