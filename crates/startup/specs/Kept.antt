-- How what answers repeated keyings is kept.
use Rattle.std.specs.Prelude.{ℕ, refl}
use Rattle.std.specs.Coded.{Coded, code_by, coded×, coded_ℕ, coded_list}
use Rattle.std.specs.FinMap.{code}
use Rattle.startup.specs.declared.kept.KeptKeying.{KeptKeying}
use Rattle.startup.specs.State.{KeptKeyings}

-- the kept keyings, and for how many more there is room
pub record Kept : Type 0 where
  pub keyings : KeptKeyings
  pub spare : ℕ

abbrev pub kept_code : Coded KeptKeying → Coded Kept
kept_code keying =
    code_by (KeptKeyings × ℕ) (coded× (code (coded_list coded_ℕ) keying) coded_ℕ)
    (λ k. (k.keyings, k.spare)) (λ p. record { keyings = p.0; spare = p.1 }) (λ _. refl)
