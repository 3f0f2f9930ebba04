-- The nonces that calls drew: each told by its event alone, so that an attempt which a search
-- became draws none.
use Rattle.std.specs.Prelude.{ℕ, List, [], ◌∷◌, ◌++◌, Option, Some, None}
use Rattle.glare_core.specs.declared.facts.Fact.{Fact}
use Rattle.glare_core.specs.declared.facts.Fact.TheVariants.{Started, Born, Opened, Confirmed, Ended}
use Rattle.glare_core.specs.Told.{AllDifferent}
use Rattle.endpoint_model.specs.declared.entry.Entry.{Entry}
use Rattle.endpoint_model.specs.Views.{NamedSearch, fact_in, sought_in}
use Rattle.endpoint_model.specs.Event.{Setup, OpenCall, SeekCall, Call, open_in, seek_in}
use Rattle.endpoint_laws.specs.Past.{Past, Happening, OfEvent, OfEntry, last_call, past_of_log}
use Rattle.endpoint_laws.specs.Contexts.{Secrets}
use Rattle.endpoint_laws.specs.History.{History, AreLawful, nonces_in}

-- the nonce of an attempt, where the call is an open
abbrev pub open_draws : Option OpenCall → List ℕ → List (List ℕ)
open_draws None ni = []
open_draws (Some opens) ni = ni ∷ []

-- the nonce of an attempt that an open started, or of a session that was born
abbrev pub fact_draws : Option Fact → Option OpenCall → List (List ℕ)
fact_draws None opens = []
fact_draws (Some (Started peer n near ni)) opens = open_draws opens ni
fact_draws (Some (Born j)) opens = j.nr ∷ []
fact_draws (Some (Opened j)) opens = []
fact_draws (Some (Confirmed peer near)) opens = []
fact_draws (Some (Ended peer near why)) opens = []

-- the nonce of a search, which its seek drew
abbrev pub seek_draws : Option NamedSearch → Option SeekCall → List (List ℕ)
seek_draws None seek = []
seek_draws (Some sought) None = []
seek_draws (Some sought) (Some seek) = seek.draws.nonce ∷ []

-- what an entry of a call tells of the nonces that the call drew
abbrev pub draws_in : Call → Entry → List (List ℕ)
draws_in call entry = seek_draws (sought_in entry) (seek_in call) ++
    fact_draws (fact_in entry) (open_in call)

abbrev pub draws_done : Happening → Option Call → List (List ℕ)
draws_done (OfEvent event) call = []
draws_done (OfEntry entry) None = []
draws_done (OfEntry entry) (Some call) = draws_in call entry

-- the nonces that an end drew, the newest first
abbrev pub draws_of : Past → List (List ℕ)
draws_of [] = []
draws_of (s ∷ earlier) = draws_done s.what (last_call earlier) ++ draws_of earlier

-- the nonces that the calls of a history drew, at whatever end
abbrev pub drawn_in : History → List (List ℕ)
drawn_in [] = []
drawn_in (h ∷ earlier) = draws_of (past_of_log (h.event ∷ [])) ++ drawn_in earlier

-- Where no nonce was drawn twice, the nonces of all attempts and of all sessions that were born are
-- different in each lawful history, those of attempts that were searches included.
abbrev pub WhatIsDrawnOnceIsStatedOnce : Type 0
WhatIsDrawnOnceIsStatedOnce = (secrets : Secrets) (ends : ℕ → Setup) (history : History) →
    AreLawful secrets ends history →
    AllDifferent (drawn_in history) → AllDifferent (nonces_in history)
