-- Keyings that go out one after another.
use Rattle.std.proofs.Common.{ℕ, List, ◌≡◌, ◌≤◌, length}
use Rattle.log_contexts.specs.Kept.{ThreadMap, ThreadTable}
use Rattle.log_contexts.specs.Changes.{with_keyings}

-- These are left of all, and there is room for them.
pub record AreLeft (generation : ℕ) (nears : List ℕ) (first : ThreadTable) (rest : List ℕ) (now : ThreadMap) : Type 0 where
  pub table : with_keyings generation rest now.table ≡ with_keyings generation nears first
  pub room : length rest ≤ now.spare
