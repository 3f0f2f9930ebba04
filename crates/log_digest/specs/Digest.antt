-- When a digest is that of a log.
use Rattle.std.specs.Prelude.{ℕ, ◌≡◌, max, Option, Some, None}
use Rattle.glare_core.specs.declared.facts.Fact.{Fact}
use Rattle.glare_core.specs.declared.facts.Held.{Held}
use Rattle.glare_core.specs.Standing.{peer_of}
use Rattle.glare_core.specs.Ledger.{row_in}
use Rattle.fact_digest.specs.Roll.{Rolled, with_fact, IsOfFacts}
use Rattle.endpoint_model.specs.declared.entry.Entry.{Entry}
use Rattle.endpoint_model.specs.Views.{fact_in, closed_in, sought_in, unsought_in}
use Rattle.endpoint_laws.specs.Past.{Past, facts_of}
use Rattle.log_digest.specs.declared.spot.Change.{Change}
use Rattle.log_digest.specs.declared.spot.Drawn.{Drawn}
use Rattle.log_digest.specs.Spots.{AreSpotsOf, IsOrderly}
use Rattle.log_digest.specs.Changes.{change_by, changed, drawn_of}
use Rattle.log_digest.specs.Kept.{Digested}

-- The digest is that of an end whose last moment is this, and which did this.
pub record IsDigestOf (last : ℕ) (past : Past) (d : Digested) : Type 0 where
  pub moment_is : d.moment ≡ last
  pub drawn_is : d.drawn ≡ drawn_of past
  pub roll_is : IsOfFacts (facts_of past) d.roll
  pub spots_are : AreSpotsOf past d.spots
  pub orderly : IsOrderly past

-- the digest once an event began
abbrev pub begun_with : ℕ → Option Drawn → Digested → Digested
begun_with moment drawn d = record {
  moment = max d.moment moment;
  drawn = drawn;
  roll = d.roll;
  spots = d.spots;
}

-- what an entry changes under the session IDs
abbrev pub held_before : Option Fact → Rolled → Option Held
held_before None roll = None
held_before (Some fact) roll = (row_in roll.rows (peer_of fact)).held

abbrev pub entry_change : Digested → Entry → Change
entry_change d entry =
    change_by d.moment d.drawn (held_before (fact_in entry) d.roll) (fact_in entry)
    (sought_in entry) (closed_in entry) (unsought_in entry)

-- what the facts say with an entry, where it is one
abbrev pub roll_with : Option Fact → Rolled → Rolled
roll_with None roll = roll
roll_with (Some fact) roll = with_fact fact roll

-- the digest with one more entry
abbrev pub added : Entry → Digested → Digested
added entry d = record {
  moment = d.moment;
  drawn = d.drawn;
  roll = roll_with (fact_in entry) d.roll;
  spots = changed (entry_change d entry) d.spots;
}
