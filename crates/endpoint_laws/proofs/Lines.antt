-- The table of lawful logs in three parts: the lines of facts, their numbers, and the line of datagrams that go out.
use Rattle.std.proofs.Common.{ℕ, ◌≡◌, List, [], ◌∷◌, Option, Some, None}
use Rattle.glare_core.specs.declared.facts.Fact.{Fact}
use Rattle.glare_core.specs.Standing.{count}
use Rattle.glare_core.specs.Stands.{Stands}
use Rattle.endpoint_model.specs.declared.entry.Entry.{Entry}
use Rattle.endpoint_model.specs.Views.{Sending, NamedSearch, EndedSearch, fact_in, out_in, closed_in, sought_in, unsought_in, learnt_in, advanced_in}
use Rattle.endpoint_model.specs.Event.{Setup, own_of, Call, Event, moment_at}
use Rattle.endpoint_laws.specs.Past.{Past, begun, stamped, with_event, facts_of}
use Rattle.endpoint_laws.specs.Contexts.{Secrets}
use Rattle.endpoint_laws.specs.Lawful.{FactLine, IsCounted, OutLine, ClosedLine, SearchLine, LearntLine, AdvancedLine, GenerationLine, LineOf, EntriesLawful, LawfulFrom}

-- what is asked of an entry, by its event, the entries before it, and those after it in its event
abbrev pub Part : Type 1
Part = Secrets → Setup → ℕ → Call → Past → List Entry → Entry → Type 0

-- of a fact, where there is one
abbrev pub FactMeets : Secrets → Setup → ℕ → Call → Past → List Entry → Option Fact → Type 0
FactMeets secrets setup now call past rest None = Unit {0}
FactMeets secrets setup now call past rest (Some fact) = Stands (own_of setup) (count (facts_of past)) (facts_of past) fact × FactLine secrets setup now call past rest fact

abbrev pub OutMeets : Secrets → Setup → Call → Past → Option Sending → Type 0
OutMeets secrets setup call past None = Unit {0}
OutMeets secrets setup call past (Some sent) = OutLine secrets setup call past sent.datagram sent.context

-- of the end of a closing, or what is said of a search, and of the group's generations where that is said
abbrev pub ClosedMeets : Secrets → Setup → ℕ → Call → Past → Option ℕ → Option NamedSearch → Option EndedSearch → Option ℕ → Option ℕ → Type 0
ClosedMeets secrets setup now call past (Some near) sought ended learnt advanced = ClosedLine secrets setup now call past near
ClosedMeets secrets setup now call past None sought ended None None = SearchLine now call past sought ended
ClosedMeets secrets setup now call past None sought ended (Some learnt) advanced = SearchLine now call past sought ended × LearntLine setup call past learnt
ClosedMeets secrets setup now call past None sought ended None (Some advanced) = SearchLine now call past sought ended × AdvancedLine call past advanced

abbrev pub CountMeets : Option Fact → Type 0
CountMeets None = Unit {0}
CountMeets (Some fact) = IsCounted fact

-- of a fact, of the end of a closing, of a search, or of a generation
abbrev pub FactPart : Part
FactPart secrets setup now call past rest entry =
    FactMeets secrets setup now call past rest (fact_in entry) × ClosedMeets secrets setup now call past (closed_in entry) (sought_in entry) (unsought_in entry) (learnt_in entry) (advanced_in entry)

abbrev pub OutPart : Part
OutPart secrets setup now call past rest entry = OutMeets secrets setup call past (out_in entry)

abbrev pub CountPart : Part
CountPart secrets setup now call past rest entry = CountMeets (fact_in entry)

abbrev pub EntriesMeet : Part → Secrets → Setup → ℕ → Call → Past → List Entry → Type 0
EntriesMeet P secrets setup now call past [] = Unit {0}
EntriesMeet P secrets setup now call past (entry ∷ rest) = P secrets setup now call past rest entry × EntriesMeet P secrets setup now call (stamped now entry ∷ past) rest

abbrev pub EventsMeet : Part → Secrets → Setup → ℕ → Past → List Event → Type 0
EventsMeet P secrets setup last past [] = Unit {0}
EventsMeet P secrets setup last past (e ∷ events) =
    EntriesMeet P secrets setup (moment_at last e) e.call (begun (moment_at last e) e ∷ past) e.entries × EventsMeet P secrets setup (moment_at last e) (with_event (moment_at last e) e past) events

-- these parts are the whole table

others_of : (secrets : Secrets) (setup : Setup) (now : ℕ) (call : Call) (past : Past) (sought : Option NamedSearch) (ended : Option EndedSearch) (learnt advanced : Option ℕ) →
    ClosedMeets secrets setup now call past None sought ended learnt advanced → SearchLine now call past sought ended × GenerationLine setup call past learnt advanced
others_of secrets setup now call past sought ended None None c = (c, tt)
others_of secrets setup now call past sought ended (Some learnt) advanced c = c
others_of secrets setup now call past sought ended None (Some advanced) c = c

line_of : (secrets : Secrets) (setup : Setup) (now : ℕ) (call : Call) (past : Past) (rest : List Entry) (fact : Option Fact) (sent : Option Sending) (over : Option ℕ) (sought : Option NamedSearch) (ended : Option EndedSearch) (learnt advanced : Option ℕ) →
    FactMeets secrets setup now call past rest fact → CountMeets fact → OutMeets secrets setup call past sent → ClosedMeets secrets setup now call past over sought ended learnt advanced →
    LineOf secrets setup now call past rest fact sent over sought ended learnt advanced
line_of secrets setup now call past rest (Some fact) sent over sought ended learnt advanced f n o c = (f.0, f.1, n)
line_of secrets setup now call past rest None (Some sent) over sought ended learnt advanced f n o c = o
line_of secrets setup now call past rest None None (Some near) sought ended learnt advanced f n o c = c
line_of secrets setup now call past rest None None None sought ended learnt advanced f n o c = others_of secrets setup now call past sought ended learnt advanced c

-- an entry that ends no closing and says nothing of searches and of generations
pub nothing_over : (secrets : Secrets) (setup : Setup) (now : ℕ) (call : Call) (past : Past) (over : Option ℕ) (sought : Option NamedSearch) (ended : Option EndedSearch) (learnt advanced : Option ℕ) → over ≡ None → sought ≡ None → ended ≡ None →
    learnt ≡ None → advanced ≡ None → ClosedMeets secrets setup now call past over sought ended learnt advanced
nothing_over secrets setup now call past None None None None None p q r l a = tt
nothing_over secrets setup now call past (Some near) sought ended learnt advanced p q r l a = absurd (cc)
nothing_over secrets setup now call past None (Some search) ended learnt advanced p q r l a = absurd (cc)
nothing_over secrets setup now call past None None (Some search) learnt advanced p q r l a = absurd (cc)
nothing_over secrets setup now call past None None None (Some generation) advanced p q r l a = absurd (cc)
nothing_over secrets setup now call past None None None None (Some generation) p q r l a = absurd (cc)

entries_lawful : (secrets : Secrets) (setup : Setup) (now : ℕ) (call : Call) (past : Past) (entries : List Entry) → EntriesMeet FactPart secrets setup now call past entries →
    EntriesMeet CountPart secrets setup now call past entries → EntriesMeet OutPart secrets setup now call past entries → EntriesLawful secrets setup now call past entries
entries_lawful secrets setup now call past [] f n o = tt
entries_lawful secrets setup now call past (entry ∷ rest) f n o = (
  line_of secrets setup now call past rest (fact_in entry) (out_in entry) (closed_in entry) (sought_in entry) (unsought_in entry) (learnt_in entry) (advanced_in entry) f.0.0 n.0 o.0 f.0.1,
  entries_lawful secrets setup now call (stamped now entry ∷ past) rest f.1 n.1 o.1,
)

pub events_lawful : (secrets : Secrets) (setup : Setup) (last : ℕ) (past : Past) (events : List Event) → EventsMeet FactPart secrets setup last past events →
    EventsMeet CountPart secrets setup last past events → EventsMeet OutPart secrets setup last past events → LawfulFrom secrets setup last past events
events_lawful secrets setup last past [] f n o = tt
events_lawful secrets setup last past (e ∷ events) f n o =
    (entries_lawful secrets setup (moment_at last e) e.call (begun (moment_at last e) e ∷ past) e.entries f.0 n.0 o.0, events_lawful secrets setup (moment_at last e) (with_event (moment_at last e) e past) events f.1 n.1 o.1)
