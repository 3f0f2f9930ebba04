-- A set of turns below 2,048, as the bits of 32 words.
use Rattle.std.specs.Prelude.{ℕ, ◌≡◌, ◌==◌, ◌/◌, ◌%◌, ◌<◌, ◌≤◌, Bool, true, false, List, get_or}
use Rattle.std.specs.Prelude.{Option, Some, None}
use Rattle.std.specs.Int.{bit_at}

abbrev pub bit_of : List ℕ → ℕ → ℕ
bit_of words turn = bit_at (get_or words (turn / 64) 0) (turn % 64)

-- the turn is in the set
abbrev pub has_turn : List ℕ → ℕ → Bool
has_turn words turn = bit_of words turn == 1

-- it is the first one from a turn on
pub record IsFirst (words : List ℕ) (from turn : ℕ) : Type 0 where
  pub low : from ≤ turn
  pub there : has_turn words turn ≡ true
  pub none : (t : ℕ) → from ≤ t → t < turn → has_turn words t ≡ false

abbrev pub IsFirstFrom : List ℕ → ℕ → Option ℕ → Type 0
IsFirstFrom words from None = (t : ℕ) → from ≤ t → has_turn words t ≡ false
IsFirstFrom words from (Some turn) = IsFirst words from turn

-- ---- words

-- the lowest bit from one on
pub record IsLowestBit (word from bit : ℕ) : Type 0 where
  pub low : from ≤ bit
  pub few : bit < 64
  pub set : bit_at word bit ≡ 1
  pub none : (i : ℕ) → from ≤ i → i < bit → bit_at word i ≡ 0

abbrev pub IsLowest : ℕ → ℕ → Option ℕ → Type 0
IsLowest word from None = (i : ℕ) → from ≤ i → bit_at word i ≡ 0
IsLowest word from (Some bit) = IsLowestBit word from bit

-- A word that has a turn has its bit, and no other has.
pub record IsTied (full : ℕ) (words : List ℕ) : Type 0 where
  pub empty : (w : ℕ) → w < 32 → bit_at full w ≡ 0 → get_or words w 0 ≡ 0
  pub used : (w : ℕ) → w < 32 → bit_at full w ≡ 1 → 0 < get_or words w 0
