-- Values for the rows of this crate.
use Rattle.std.specs.Prelude.{ℕ, List, [], ◌∷◌, ◌≡◌, Bool, true, false, Option, Some}
use Rattle.rtmfp_forms.specs.Address.{AddressParts}
use Rattle.crypto_profile.specs.declared.keys.Context.{Context}
use Rattle.crypto_profile.specs.declared.keys.Context.TheVariants.{Startup}
use Rattle.glare_core.specs.declared.facts.Joined.{Joined}
use Rattle.endpoint_laws.specs.Contexts.{Secrets, OpensUnder}
use Rattle.log_digest.specs.Generations.{Known}
use Rattle.log_packets.specs.Opening.{startup_of}
use Rattle.log_arrivals.specs.declared.arrival.Arrival.{Arrival}
use Rattle.log_arrivals.specs.Contexts.{IsOpenedFirst, arrival_of}

abbrev pub place : AddressParts
place = record { v6 = false; origin = 0; host = 1 ∷ []; port = 2 }

-- the current generation is 4, and the next one is known
abbrev pub known : Known
known = record { current = 4; next = Some 5 }

-- a session with the peer 5, under the session ID 3
abbrev pub session : Joined
session = record { peer = 5 ∷ []; n = 2; near = 3; far = 4; ni = 7 ∷ []; nr = 8 ∷ []; k = 0 }

-- It opens in startup of this generation, or it doesn't.
abbrev pub OpensOrNot : Secrets → List ℕ → ℕ → Bool → Type 0
OpensOrNot secrets bytes generation true =
    (plain : List ℕ) × OpensUnder secrets (Startup generation) 0 bytes plain
OpensOrNot secrets bytes generation false =
    (plain : List ℕ) → OpensUnder secrets (Startup generation) 0 bytes plain → ⊥

-- A datagram of session ID 0, which opens so in generation 4 and in generation 5, opens there,
-- where 4 is the current generation and this the next one.
abbrev pub ArrivesWhere : Option ℕ → Bool → Bool → Arrival → Type 0
ArrivesWhere next in_four in_five arrival = (secrets : Secrets) (bytes plain : List ℕ)
    (found : Option Context) → OpensOrNot secrets bytes 4 in_four →
    OpensOrNot secrets bytes 5 in_five →
    IsOpenedFirst secrets (startup_of 4 next) 0 bytes found plain → arrival_of found ≡ arrival
