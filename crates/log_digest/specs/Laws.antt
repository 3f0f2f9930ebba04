-- The laws of what is kept of a log.
use Rattle.std.specs.Prelude.{ℕ, List, ◌≡◌, Some}
use Rattle.endpoint_model.specs.declared.entry.Entry.{Entry}
use Rattle.endpoint_model.specs.Event.{Setup, own_of, Call, Event}
use Rattle.endpoint_laws.specs.Past.{Past, last_call, with_begun}
use Rattle.endpoint_laws.specs.Contexts.{Secrets}
use Rattle.endpoint_laws.specs.Lawful.{Line}
use Rattle.log_digest.specs.declared.numbers.Stamp.{Stamp}
use Rattle.log_digest.specs.Changes.{MayCome}
use Rattle.log_digest.specs.Numbers.{AreNumbersOf, HasNumber}

-- An entry of the last event that meets its line may be added to what is kept of the log.
abbrev pub EachLawfulEntryMayCome : Type 0
EachLawfulEntryMayCome = (secrets : Secrets) (setup : Setup) (now : ℕ) (call : Call) (past : Past)
    (rest : List Entry) (entry : Entry) → last_call past ≡ Some call →
    Line secrets setup now call past rest entry →
    MayCome (own_of setup) past entry × HasNumber entry

-- What began used no number.
abbrev pub EventsUseNoNumber : Type 0
EventsUseNoNumber = (moment : ℕ) (e : Event) (past : Past) (stamps : List Stamp) →
    AreNumbersOf past stamps → AreNumbersOf (with_begun moment e past) stamps
