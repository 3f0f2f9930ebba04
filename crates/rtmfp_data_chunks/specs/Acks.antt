-- What acks tell beside their cumulative number (RFC 7016 sections 2.3.13 and 2.3.14). Own: no
-- number above 64 bits.
use Rattle.std.specs.Prelude.{◌≡◌, ℕ, ◌+◌, ◌-◌, ◌*◌, ◌^◌, ◌<◌, ◌≤◌, ◌⊎◌, List, [], ◌∷◌, ◌++◌, length, get_or}
use Rattle.std.specs.Int.{bit_at}
use Rattle.rtmfp_data_chunks.specs.Fields.{NumbersSpell, NumbersBreak}

-- ---- bits: the least significant bit of the first byte speaks of upto + 2, and each further one
-- of the next number

-- a set bit of byte i speaks of a number above 64 bits
abbrev pub Passes : ℕ → List ℕ → ℕ → Type 0
Passes upto bits i = (j : ℕ) × (j < 8) × (bit_at (get_or bits i 0) j ≡ 1) ×
    (2 ^ 64 ≤ upto + 2 + (8 * i + j))

abbrev pub BitsFit : ℕ → List ℕ → Type 0
BitsFit upto bits = (i : ℕ) → Passes upto bits i → ⊥

-- this is the first such byte
pub record BitsPass (upto : ℕ) (bits : List ℕ) (at : ℕ) : Type 0 where
  pub passes : Passes upto bits at
  pub first : (i : ℕ) → i < at → Passes upto bits i → ⊥

-- ---- pairs: each is one less than the count of numbers that are missing, and one less than the
-- count of those that are there, and they walk upward

-- the pairs tell of these spans above a number, each by its first and its last number
abbrev pub PairsTell : ℕ → List (ℕ × ℕ) → List ℕ → Type 0
PairsTell above [] b = b ≡ []
PairsTell above (s ∷ ss) b =
    (pair : List ℕ)
    × (rest : List ℕ)
    × (b ≡ pair ++ rest)
    × (above + 2 ≤ s.0)
    × (s.0 ≤ s.1)
    × (s.1 < 2 ^ 64)
    × NumbersSpell ((s.0 - (above + 2)) ∷ (s.1 - s.0) ∷ []) pair
    × PairsTell s.1 ss rest

-- the last number that spans above a number tell of
abbrev pub last_told : ℕ → List (ℕ × ℕ) → ℕ
last_told above [] = above
last_told above (s ∷ ss) = last_told s.1 ss

-- a pair stands in front that passes 64 bits
pub record PairPasses (above : ℕ) (b : List ℕ) : Type 0 where
  pub holes : ℕ
  pub received : ℕ
  pub pair : List ℕ
  pub rest : List ℕ
  pub whole : b ≡ pair ++ rest
  pub spell : NumbersSpell (holes ∷ received ∷ []) pair
  pub passes : 2 ^ 64 ≤ above + holes + 2 + received

-- bytes are left, and no good pair is in front of them: a number is missing at this offset, or the
-- pair passes
abbrev pub PairBreaks : ℕ → List ℕ → ℕ → Type 0
PairBreaks above b at = (0 < length b) × (NumbersBreak 2 b at ⊎ (PairPasses above b × (at ≡ 0)))

-- pairs, and then one that is not good
pub record PairsBreak (upto : ℕ) (b : List ℕ) (at : ℕ) : Type 0 where
  pub spans : List (ℕ × ℕ)
  pub front : List ℕ
  pub rest : List ℕ
  pub within : ℕ
  pub whole : b ≡ front ++ rest
  pub told : PairsTell upto spans front
  pub breaks : PairBreaks (last_told upto spans) rest within
  pub begins : at ≡ length front + within
