-- What stands under each session ID, by what an end did.
use Rattle.std.specs.Prelude.{ℕ, List, [], ◌∷◌, ◌==◌, length, false, ◌≡◌, ◌<◌, ◌≤◌, Option, Some, is_some}
use Rattle.std.specs.List.{list_any}
use Rattle.std.specs.Ordering.{nat_cmp}
use Rattle.std.specs.FinMap.{FinMap, get, len}
use Rattle.glare_core.specs.declared.facts.Fact.{Fact}
use Rattle.glare_core.specs.declared.facts.Fact.TheVariants.{Started, Born, Opened}
use Rattle.glare_core.specs.declared.facts.Held.{Held}
use Rattle.glare_core.specs.declared.facts.Held.TheVariants.{Opening, HalfOpen, KeptAsResponder, KeptAsInitiator}
use Rattle.glare_core.specs.declared.facts.Joined.{Joined}
use Rattle.glare_core.specs.Standing.{held, seen, count}
use Rattle.glare_core.specs.Things.{near_of}
use Rattle.endpoint_laws.specs.Past.{Past, Search, facts_of, IsClosing, IsSearch, ids_in_use, is_in_use, WasStated}
use Rattle.log_digest.specs.declared.spot.Spot.{Spot}
use Rattle.log_digest.specs.declared.spot.Spot.TheVariants.{Searching, Holding, Closing}

-- the fact with which a thing began that is held with this peer
abbrev pub beginning : List ℕ → Held → Fact
beginning peer (Opening n near ni) = Started peer n near ni
beginning peer (HalfOpen j) = Born j
beginning peer (KeptAsResponder j) = Born j
beginning peer (KeptAsInitiator j) = Opened j

-- With this peer something is held under this session ID, which began at this moment and at no
-- other one.
pub record IsHeldSince (past : Past) (near : ℕ) (peer : List ℕ) (at : ℕ) : Type 0 where
  pub thing : Held
  pub is_held : held peer (facts_of past) ≡ Some thing
  pub id : near_of thing ≡ near
  pub began : WasStated at (beginning peer thing) past
  pub once : (moment : ℕ) → WasStated moment (beginning peer thing) past → moment ≡ at

abbrev pub searching : Search → ℕ → Spot
searching which at = Searching which.name which.tag which.ni at

-- This is what stands under a session ID: each search, closing session and held thing under it, and
-- nothing else.
pub record IsSpotOf (past : Past) (near : ℕ) (spot : Option Spot) : Type 0 where
  pub search_there : (which : Search) (at : ℕ) → IsSearch near which at past →
      spot ≡ Some (searching which at)
  pub search_is : (which : Search) (at : ℕ) → spot ≡ Some (searching which at) →
      IsSearch near which at past
  pub closing_there : (thing : Held) (at : ℕ) → IsClosing near thing at past →
      spot ≡ Some (Closing thing at)
  pub closing_is : (thing : Held) (at : ℕ) → spot ≡ Some (Closing thing at) →
      IsClosing near thing at past
  pub held_there : (peer : List ℕ) (at : ℕ) → IsHeldSince past near peer at →
      spot ≡ Some (Holding peer at)
  pub held_is : (peer : List ℕ) (at : ℕ) → spot ≡ Some (Holding peer at) →
      IsHeldSince past near peer at
  pub used : is_in_use near past ≡ is_some spot

abbrev pub SpotTable : Type 0
SpotTable = FinMap nat_cmp Spot

-- None of them stands there twice.
abbrev pub AreApart : List ℕ → Type 0
AreApart [] = Unit {0}
AreApart (near ∷ ids) = (list_any (λ id. id == near) ids ≡ false) × AreApart ids

pub record AreSpotsOf (past : Past) (spots : SpotTable) : Type 0 where
  pub spot : (near : ℕ) → IsSpotOf past near (get spots near)
  pub apart : AreApart (ids_in_use past)
  pub uses : length (ids_in_use past) ≡ len spots

-- What is stated once isn't stated again, as the numbers of attempts rise; and each thing that is
-- held began at one moment.
pub record IsOrderly (past : Past) : Type 0 where
  pub started : (at : ℕ) (peer : List ℕ) (n near : ℕ) (ni : List ℕ) →
      WasStated at (Started peer n near ni) past → n ≤ count (facts_of past)
  pub born : (at : ℕ) (j : Joined) → WasStated at (Born j) past → j.n ≤ seen j.peer (facts_of past)
  pub opened : (at : ℕ) (j : Joined) → WasStated at (Opened j) past → j.n ≤ count (facts_of past)
  pub over : (at : ℕ) (j : Joined) → WasStated at (Opened j) past →
      (n near : ℕ) (ni : List ℕ) → held j.peer (facts_of past) ≡ Some (Opening n near ni) → j.n < n
  pub since : (peer : List ℕ) (thing : Held) → held peer (facts_of past) ≡ Some thing →
      (at : ℕ) × IsHeldSince past (near_of thing) peer at
