-- What was before an end that makes way for a birth, by what is kept.
use Rattle.std.specs.Prelude.{ℕ, List, Bool, true, false, Option, Some, None, if◌then◌else◌}
use Rattle.std.specs.FinMap.{len}
use Rattle.glare_core.specs.declared.facts.Fact.{Fact}
use Rattle.glare_core.specs.declared.facts.Fact.TheVariants.{Started, Born, Opened, Confirmed, Ended}
use Rattle.glare_core.specs.declared.facts.Held.{Held}
use Rattle.glare_core.specs.declared.facts.Why.{Why}
use Rattle.glare_core.specs.declared.facts.Why.TheVariants.{Cancelled, Expired, Glare, Override, Unconfirmed, Near, Far, Idle}
use Rattle.glare_core.specs.Ledger.{row_in}
use Rattle.log_digest.specs.Kept.{Digested}
use Rattle.log_births.specs.declared.party.Way.{Way}

abbrev pub is_for_born : Why → Bool
is_for_born Cancelled = false
is_for_born Expired = false
is_for_born Glare = true
is_for_born Override = true
is_for_born Unconfirmed = false
is_for_born Near = false
is_for_born Far = false
is_for_born Idle = false

abbrev pub way_from : List ℕ → Option Held → ℕ → Option Way
way_from peer None uses = None
way_from peer (Some thing) uses = Some (record { peer = peer; thing = thing; uses = uses })

-- what was before a fact, if it is an end that makes way
abbrev pub way_by : Digested → Option Fact → Option Way
way_by d None = None
way_by d (Some (Started peer n near ni)) = None
way_by d (Some (Born j)) = None
way_by d (Some (Opened j)) = None
way_by d (Some (Confirmed peer near)) = None
way_by d (Some (Ended peer near why)) = if is_for_born why then
    way_from peer (row_in d.roll.rows peer).held (len d.spots) else None
