-- What contracts see of keys by near ids.
use Rattle.std.specs.Prelude.{ℕ, refl}
use Rattle.std.specs.Coded.{Coded, code_by, coded×, coded_ℕ}
use Rattle.std.specs.Ordering.{nat_cmp}
use Rattle.std.specs.FinMap.{FinMap, code}
use Rattle.keyed_slab.specs.declared.keys.Key.{Key}

abbrev pub KeyTable : Type 0
KeyTable = FinMap nat_cmp Key

-- the keys by near ids, and how many more there is room for
pub record KeyMap : Type 0 where
  pub keys : KeyTable
  pub spare : ℕ

-- It is stored as the pair of its fields.
abbrev pub key_map_code : Coded Key → Coded KeyMap
key_map_code key =
    code_by (KeyTable × ℕ) (coded× (code coded_ℕ key) coded_ℕ) (λ m. (m.keys, m.spare))
    (λ p. record { keys = p.0; spare = p.1 }) (λ _. refl)
