-- The context that a datagram's session ID names at an end where it names one alone, whether or not
-- the datagram opens in it.
use Rattle.std.specs.Prelude.{ℕ, nat_lt, false, if◌then◌else◌, List, [], ◌∷◌, length, Option, Some, None}
use Rattle.std.specs.FinMap.{get}
use Rattle.crypto_profile.specs.declared.keys.Context.{Context}
use Rattle.crypto_profile.specs.declared.keys.Context.TheVariants.{Startup as StartupContext}
use Rattle.packet_scramble.specs.Datagram.{sid_of}
use Rattle.session_core.specs.Session.{context_of}
use Rattle.endpoint_model.specs.declared.row.Row.{Row}
use Rattle.endpoint_model.specs.declared.place.Place.{Place}
use Rattle.endpoint_model.specs.declared.place.Place.TheVariants.{Startup, Attempt, Session}
use Rattle.endpoint_model.specs.State.{State}
use Rattle.endpoint_model.specs.Admission.{places_of}

-- a session's context towards this end
abbrev pub context_towards : Option Row → Option Context
context_towards None = None
context_towards (Some row) = Some (context_of row.session false)

-- that of a place: startup in the generation of the place, but for a session
abbrev pub context_of_place : State → Option Place → Option Context
context_of_place s None = None
context_of_place s (Some (Startup generation)) = Some (StartupContext generation)
context_of_place s (Some (Attempt near generation)) = Some (StartupContext generation)
context_of_place s (Some (Session near)) = context_towards (get s.sessions near)

-- the session ID of a datagram; none where it has fewer than 36 bytes
abbrev pub named_id : List ℕ → Option ℕ
named_id datagram = if nat_lt (length datagram) 36 then None else Some (sid_of datagram)

-- the first of the places where a datagram may belong
abbrev pub first_place : List Place → Option Place
first_place [] = None
first_place (place ∷ rest) = Some place

-- the place where it belongs if anywhere; none where there are two
abbrev pub only_place : List Place → Option Place
only_place [] = None
only_place (place ∷ []) = Some place
only_place (place ∷ next ∷ rest) = None

-- That of the only place: under session ID 0 there is none while a next generation is known. A
-- datagram of fewer than 36 bytes names none.
abbrev pub named_context : State → List ℕ → Option Context
named_context s datagram = if nat_lt (length datagram) 36 then None
    else context_of_place s (only_place (places_of s (sid_of datagram)))
