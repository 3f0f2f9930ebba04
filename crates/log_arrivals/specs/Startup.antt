-- In which generation the datagram of an event opened outside of sessions.
use Rattle.std.specs.Prelude.{ℕ, ◌≡◌, Option, Some, None}
use Rattle.endpoint_model.specs.Event.{Setup}
use Rattle.endpoint_laws.specs.Past.{Past}
use Rattle.endpoint_laws.specs.Contexts.{Secrets, EventOpenedIn}
use Rattle.log_arrivals.specs.declared.arrival.Arrival.{Arrival}
use Rattle.log_arrivals.specs.declared.arrival.Arrival.TheVariants.{Nowhere, Startup, Session}

abbrev pub generation_in : Arrival → Option ℕ
generation_in Nowhere = None
generation_in (Startup generation) = Some generation
generation_in Session = None

-- It is that of the last event that began, if its datagram opened so; and no other.
pub record TellsStartup (secrets : Secrets) (setup : Setup) (past : Past) (found : Option ℕ)
    : Type 0 where
  pub opened : (generation : ℕ) → found ≡ Some generation →
      EventOpenedIn secrets setup past generation
  pub only : (generation : ℕ) → EventOpenedIn secrets setup past generation →
      found ≡ Some generation
