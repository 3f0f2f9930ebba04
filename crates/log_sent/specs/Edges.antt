-- Values for the rows of this crate.
use Rattle.std.specs.Prelude.{ℕ, List, [], ◌∷◌, Bool, false}
use Rattle.rtmfp_forms.specs.Address.{AddressParts}
use Rattle.crypto_profile.specs.declared.keys.Context.{Context}
use Rattle.crypto_profile.specs.declared.keys.Context.TheVariants.{Startup, Session}
use Rattle.glare_core.specs.declared.facts.Joined.{Joined}
use Rattle.endpoint_model.specs.declared.entry.Entry.{Entry}
use Rattle.endpoint_model.specs.declared.entry.Entry.TheVariants.{Closed, Out}
use Rattle.endpoint_model.specs.Event.{Call, Introduce, Receive, Done}
use Rattle.endpoint_laws.specs.History.{Happened, History}
use Rattle.log_values.specs.Events.{draws_of}
use Rattle.log_sent.specs.Pieces.{Sealed}

abbrev pub place : AddressParts
place = record { v6 = false; origin = 0; host = 1 ∷ []; port = 2 }

-- an entry by which a datagram goes out
abbrev pub sends : List ℕ → Context → Entry
sends datagram context = Out place datagram context

-- an event of an end
abbrev pub by : ℕ → Call → List Entry → Happened
by who call entries = record {
  who = who;
  event = record { moment = 9; call = call; answer = Done; entries = entries };
}

-- the end 1 sends 5 and 6 at once, in startup of generation 0
abbrev pub first : History
first = by 1 Introduce (Closed 3 ∷ sends (5 ∷ []) (Startup 0) ∷ sends (6 ∷ []) (Startup 0) ∷ [])
    ∷ []

-- then the end 2 is given 4 and sends 7, in the generation 1
abbrev pub second : History
second = by 2 (Receive place (4 ∷ []) (draws_of [] [])) (sends (7 ∷ []) (Startup 1) ∷ []) ∷ first

-- a session with the peer 5, under the session ID 3
abbrev pub session : Joined
session = record { peer = 5 ∷ []; n = 2; near = 3; far = 4; ni = 7 ∷ []; nr = 8 ∷ []; k = 0 }

-- the context of a session in one direction
abbrev pub towards : Bool → Context
towards to_responder = Session 0 (7 ∷ []) (8 ∷ []) (5 ∷ []) (6 ∷ []) 4 3 to_responder

abbrev pub sealed_for : Context → Sealed
sealed_for context = record { datagram = 1 ∷ []; context = context }
