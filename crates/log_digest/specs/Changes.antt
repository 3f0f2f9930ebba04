-- What an entry changes of what stands under session IDs, and which entries may come.
use Rattle.std.specs.Prelude.{ℕ, List, ◌≡◌, ◌⊎◌, false, Option, Some, None, if◌then◌else◌}
use Rattle.std.specs.FinMap.{insert, remove}
use Rattle.glare_core.specs.declared.facts.Fact.{Fact}
use Rattle.glare_core.specs.declared.facts.Fact.TheVariants.{Started, Born, Opened, Confirmed, Ended}
use Rattle.glare_core.specs.declared.facts.Held.{Held}
use Rattle.glare_core.specs.Standing.{count}
use Rattle.glare_core.specs.Stands.{Stands}
use Rattle.endpoint_model.specs.declared.entry.Entry.{Entry}
use Rattle.endpoint_model.specs.Event.{SeekCall}
use Rattle.endpoint_model.specs.Views.{NamedSearch, EndedSearch, fact_in, closed_in, sought_in, unsought_in}
use Rattle.endpoint_laws.specs.Past.{Past, facts_of, is_close, is_in_use, IsClosing, last_call, seek_of}
use Rattle.endpoint_laws.specs.Contexts.{SearchUnder}
use Rattle.log_digest.specs.declared.spot.Change.{Change}
use Rattle.log_digest.specs.declared.spot.Change.TheVariants.{Stays, Puts, Takes}
use Rattle.log_digest.specs.declared.spot.Drawn.{Drawn}
use Rattle.log_digest.specs.declared.spot.Spot.TheVariants.{Searching, Holding, Closing}
use Rattle.log_digest.specs.Spots.{SpotTable}

abbrev pub changed : Change → SpotTable → SpotTable
changed Stays spots = spots
changed (Puts near spot) spots = insert spots near spot
changed (Takes near) spots = remove spots near

-- a session that is closed now, where it was held
abbrev pub closing_change : ℕ → ℕ → Option Held → Change
closing_change near now None = Stays
closing_change near now (Some thing) = Puts near (Closing thing now)

-- what a fact changes, where this was held with its peer
abbrev pub fact_change : ℕ → Option Held → Fact → Change
fact_change now before (Started peer n near ni) = Puts near (Holding peer now)
fact_change now before (Born j) = Puts j.near (Holding j.peer now)
fact_change now before (Opened j) = Puts j.near (Holding j.peer now)
fact_change now before (Confirmed peer near) = Stays
fact_change now before (Ended peer near why) =
    if is_close why then closing_change near now before else Takes near

-- what a search changes that begins, by what its seek drew
abbrev pub sought_change : ℕ → Option Drawn → NamedSearch → Change
sought_change now None sought = Stays
sought_change now (Some drawn) sought =
    Puts sought.near (Searching sought.name drawn.tag drawn.ni now)

-- the session ID under which nothing stands now
abbrev pub over_change : Option ℕ → Option EndedSearch → Change
over_change (Some near) ended = Takes near
over_change None (Some ended) = Takes ended.near
over_change None None = Stays

abbrev pub search_change : ℕ → Option Drawn → Option NamedSearch → Option ℕ → Option EndedSearch →
    Change
search_change now drawn (Some sought) over ended = sought_change now drawn sought
search_change now drawn None over ended = over_change over ended

-- what an entry changes, by what it is
abbrev pub change_by : ℕ → Option Drawn → Option Held → Option Fact → Option NamedSearch →
    Option ℕ → Option EndedSearch → Change
change_by now drawn before (Some fact) sought over ended = fact_change now before fact
change_by now drawn before None sought over ended = search_change now drawn sought over ended

-- the tag and the nonce that a seek drew
abbrev pub drawn_in : Option SeekCall → Option Drawn
drawn_in None = None
drawn_in (Some seek) = Some (record { tag = seek.draws.tag; ni = seek.draws.nonce })

-- those of the last event that began, where it is a seek
abbrev pub drawn_of : Past → Option Drawn
drawn_of past = drawn_in (seek_of (last_call past))

-- ---- which entries may come

-- What begins under a session ID begins under a free one; an attempt also under that of a search.
abbrev pub HasPlace : Past → Fact → Type 0
HasPlace past (Started peer n near ni) = (is_in_use near past ≡ false) ⊎ SearchUnder past near
HasPlace past (Born j) = is_in_use j.near past ≡ false
HasPlace past (Opened j) = Unit {0}
HasPlace past (Confirmed peer near) = Unit {0}
HasPlace past (Ended peer near why) = Unit {0}

-- A session under this session ID is closing.
abbrev pub ClosingUnder : Past → ℕ → Type 0
ClosingUnder past near = (thing : Held) × (at : ℕ) × IsClosing near thing at past

-- A search begins by what its seek drew, under a session ID that is free, and is over where it
-- stands.
abbrev pub SearchMayCome : Past → Option NamedSearch → Option EndedSearch → Type 0
SearchMayCome past (Some sought) ended = (is_in_use sought.near past ≡ false) ×
    ((drawn : Drawn) × (drawn_of past ≡ Some drawn))
SearchMayCome past None (Some ended) = SearchUnder past ended.near
SearchMayCome past None None = Unit {0}

abbrev pub MayComeBy : List ℕ → Past → Option Fact → Option ℕ → Option NamedSearch →
    Option EndedSearch → Type 0
MayComeBy own past (Some fact) over sought ended =
    Stands own (count (facts_of past)) (facts_of past) fact × HasPlace past fact
MayComeBy own past None (Some near) sought ended = ClosingUnder past near
MayComeBy own past None None sought ended = SearchMayCome past sought ended

-- What the table of lawful logs asks of an entry as far as session IDs and facts go, whatever the
-- secrets are.
abbrev pub MayCome : List ℕ → Past → Entry → Type 0
MayCome own past entry =
    MayComeBy own past (fact_in entry) (closed_in entry) (sought_in entry) (unsought_in entry)
