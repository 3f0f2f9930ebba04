-- How what stands under session IDs is kept, and what a digest is.
use Rattle.std.specs.Prelude.{ℕ, Option, None, refl}
use Rattle.std.specs.Coded.{Coded, code_by, coded×, coded_ℕ, coded_option}
use Rattle.std.specs.FinMap.{empty, code}
use Rattle.glare_core.specs.declared.facts.Held.{Held}
use Rattle.fact_digest.specs.Roll.{Rolled, no_facts, rolled_code}
use Rattle.log_digest.specs.declared.spot.Drawn.{Drawn}
use Rattle.log_digest.specs.declared.spot.Spot.{Spot}
use Rattle.log_digest.specs.Spots.{SpotTable}

-- the spots, and how many more there is room for
pub record SpotMap : Type 0 where
  pub table : SpotTable
  pub spare : ℕ

abbrev pub spot_map_code : Coded Spot → Coded SpotMap
spot_map_code spot =
    code_by (SpotTable × ℕ) (coded× (code coded_ℕ spot) coded_ℕ) (λ m. (m.table, m.spare))
    (λ p. record { table = p.0; spare = p.1 }) (λ _. refl)

-- the largest moment so far, what the last event drew for a search, what the facts say, and what
-- stands under the session IDs
pub record Digested : Type 0 where
  pub moment : ℕ
  pub drawn : Option Drawn
  pub roll : Rolled
  pub spots : SpotTable

abbrev pub nothing_kept : Digested
nothing_kept = record { moment = 0; drawn = None; roll = no_facts; spots = empty }

-- It is stored as the tuple of its fields.
abbrev pub digested_code : Coded Drawn → Coded Held → Coded Spot → Coded Digested
digested_code drawn held spot =
    code_by (ℕ × (Option Drawn × (Rolled × SpotTable)))
    (coded× coded_ℕ
    (coded× (coded_option drawn) (coded× (rolled_code held) (code coded_ℕ spot))))
    (λ d. (d.moment, (d.drawn, (d.roll, d.spots))))
    (λ p. record { moment = p.0; drawn = p.1.0; roll = p.1.1.0; spots = p.1.1.1 }) (λ _. refl)
