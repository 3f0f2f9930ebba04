-- Variable-length unsigned integers (RFC 7016 section 2.1.2): seven bits of the number in each
-- byte, the most significant first, and the high bit set on every byte but the last. Own: at most
-- ten bytes, and numbers below 2 ^ 64.
use Rattle.std.specs.Prelude.{◌≡◌, ◌≢◌, ℕ, zero, suc, ◌+◌, ◌++◌, ◌*◌, ◌/◌, ◌%◌, ◌^◌, ◌<◌, ◌≤◌, ◌⊎◌, List, [], ◌∷◌, length, take}
use Rattle.std.specs.List.{AllByRecursion}

-- the low seven bits of each byte, times 128 to the power of the number of bytes after it
abbrev pub value : List ℕ → ℕ
value [] = 0
value (b ∷ bs) = (b % 128) * 128 ^ length bs + value bs

-- a byte with its high bit set: another one follows
abbrev pub IsContinued : ℕ → Type 0
IsContinued b = (128 ≤ b) × (b < 256)

abbrev pub AllContinued : List ℕ → Type 0
AllContinued bs = AllByRecursion IsContinued bs

-- the last byte is below 128, and each one before it has its high bit set
abbrev pub IsEnded : List ℕ → Type 0
IsEnded [] = ⊥
IsEnded (b ∷ []) = b < 128
IsEnded (b ∷ c ∷ bs) = IsContinued b × IsEnded (c ∷ bs)

-- the bytes are a spelling of v, not only the shortest one
pub record VluSpells (v : ℕ) (b : List ℕ) : Type 0 where
  pub size : length b ≤ 10
  pub ended : IsEnded b
  pub sum : value b ≡ v
  pub fits : v < 2 ^ 64

-- the first byte isn't 0x80, which would add nothing
abbrev pub IsUnpadded : List ℕ → Type 0
IsUnpadded [] = ⊥
IsUnpadded (b ∷ bs) = b ≢ 128

-- the bytes are the shortest spelling of v
pub record Shortest (v : ℕ) (b : List ℕ) : Type 0 where
  pub spells : VluSpells v b
  pub unpadded : IsUnpadded b

-- the bytes end before the spelling does
abbrev pub IsCut : List ℕ → Type 0
IsCut b = (length b < 10) × AllContinued b

-- a spelling of n bytes stands in front
abbrev pub EndsAt : ℕ → List ℕ → Type 0
EndsAt n b = (n ≤ length b) × (n ≤ 10) × IsEnded (take n b)

-- ten bytes stand in front, and none of them ends the spelling; or it ends, and its value needs
-- more than 64 bits
abbrev pub IsLarge : List ℕ → Type 0
IsLarge b =
    ((10 ≤ length b) × AllContinued (take 10 b))
    ⊎ ((n : ℕ) × EndsAt n b × (2 ^ 64 ≤ value (take n b)))

-- the groups of a number before the last one, of which there are at most count, and none before the
-- first that counts
unfoldable pub groups_before : ℕ → ℕ → List ℕ
groups_before zero v = []
groups_before (suc count) zero = []
groups_before (suc count) (suc v) = groups_before count (suc v / 128) ++ (128 + suc v % 128) ∷ []

-- the shortest spelling of a number below 2 ^ 64
unfoldable pub vlu : ℕ → List ℕ
vlu v = groups_before 9 (v / 128) ++ (v % 128) ∷ []
