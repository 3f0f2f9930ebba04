-- A history end by end.
use Rattle.std.specs.Prelude.{ℕ, List, [], ◌∷◌, ◌++◌, ◌≡◌, cond}
use Rattle.std.specs.Str.{bytes_eq}
use Rattle.glare_core.specs.Steps.{Item, view, IsTail}
use Rattle.glare_core.specs.Told.{Event, steps, DoneLawful, told_to, IsLawful}

-- the events of an end
abbrev pub events_of : List ℕ → List Event → List Event
events_of who [] = []
events_of who (e ∷ earlier) = cond (bytes_eq e.who who) (e ∷ events_of who earlier)
    (events_of who earlier)

abbrev pub done_on : List Item → List Item → List Item
done_on [] log = log
done_on (item ∷ items) log = done_on items (item ∷ log)

-- the log that the events of an end leave
abbrev pub log_of : List Event → List Item
log_of [] = []
log_of (e ∷ earlier) = done_on e.done (told_to e.told (log_of earlier))

-- The events of an end are lawful by that end's log alone.
abbrev pub LogLawful : List ℕ → List Event → Type 0
LogLawful who [] = Unit {0}
LogLawful who (e ∷ earlier) = DoneLawful who (told_to e.told (log_of earlier)) e.done ×
    LogLawful who earlier

-- What an end was told and did is what its events leave.
abbrev pub EachLogIsItsEvents : Type 0
EachLogIsItsEvents = (who : List ℕ) (history : List Event) →
    view who (steps history) ≡ log_of (events_of who history)

-- A history is lawful where each end's events are.
abbrev pub LawfulEndByEnd : Type 0
LawfulEndByEnd = (history : List Event) → ((who : List ℕ) → LogLawful who (events_of who history)) →
    IsLawful history

-- Each history that went before is a moment of the history: what holds at each moment holds after
-- each event.
abbrev pub EachPrefixIsAMoment : Type 0
EachPrefixIsAMoment = (later early : List Event) → IsTail (steps early) (steps (later ++ early))
