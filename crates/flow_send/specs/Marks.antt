-- Blocks of numbers in which a message may begin of which a lost number was sent again as often as its
-- limit allows.
use Rattle.std.specs.Prelude.{ℕ, ◌≡◌, ◌≢◌, ◌+◌, ◌/◌, ◌%◌, ◌<◌, ◌≤◌, nat_le, nat_lt, Bool, true, false, ◌||◌, List, [], ◌∷◌}
use Rattle.std.specs.Prelude.{Option, Some, None, get_or}
use Rattle.rtmfp_data_chunks.specs.HandsOver.{IsIn}
use Rattle.flow_send.specs.declared.waiting.Waiting.{Waiting}
use Rattle.flow_send.specs.declared.loss.Loss.{Loss}
use Rattle.flow_send.specs.declared.loss.Loss.TheVariants.{Late, Third}
use Rattle.flow_send.specs.Rows.{Row, is_lost}
use Rattle.flow_send.specs.Sender.{has_number, is_late, is_spent}
use Rattle.flow_send.specs.Acks.{is_third}
use Rattle.flow_send.specs.Lows.{block_of, low_at}

-- all: each block is marked; blocks use 2,056 places in turn
pub record Marked : Type 0 where
  pub all : Bool
  pub places : List Bool

abbrev pub marked_at : Marked → ℕ → Bool
marked_at m block = m.all || get_or m.places (block % 2056) false

-- 32 places one after another are a group: no place of the group of a place has a mark
abbrev pub IsBare : ℕ → List Bool → Type 0
IsBare place places = (i : ℕ) → i < 2056 → i / 32 ≡ place / 32 → get_or places i false ≡ false

-- no other one of the group has
abbrev pub IsBareBeside : ℕ → List Bool → Type 0
IsBareBeside place places = (i : ℕ) → i < 2056 → i / 32 ≡ place / 32 → i ≢ place →
    get_or places i false ≡ false

-- a place with a mark is in a group that tells so
abbrev pub AreGroups : List Bool → List Bool → Type 0
AreGroups groups places = (i : ℕ) → i < 2056 → get_or groups (i / 32) false ≡ false →
    get_or places i false ≡ false

-- so many resends are as many as a limit allows
abbrev pub is_reached : Option ℕ → ℕ → Bool
is_reached None resends = false
is_reached (Some limit) resends = nat_le limit resends

-- the message of number k begins in a marked block, where so many resends reach its limit
abbrev pub Noted : Marked → List Waiting → ℕ → ℕ → Type 0
Noted m ws k resends = (w : Waiting) → IsIn w ws → has_number w k ≡ true →
    is_reached w.options.resends resends ≡ true → marked_at m (block_of w.number) ≡ true

-- so it is of each row by its number
abbrev pub AllRows : (ℕ → Row → Type 0) → ℕ → List Row → Type 0
AllRows P n [] = Unit {0}
AllRows P n (r ∷ rows) = P n r × AllRows P (n + 1) rows

-- of the lost ones
abbrev pub Covers : Marked → List Waiting → ℕ → List Row → Type 0
Covers m ws n rows = AllRows (λ k r. is_lost r.state ≡ true → Noted m ws k r.resends) n rows

-- a row that will be lost
abbrev pub is_losing : Loss → Row → Bool
is_losing (Late moment resend) r = is_late moment resend r
is_losing (Third ordinal) r = is_third ordinal r

abbrev pub WillCover : Marked → List Waiting → Loss → ℕ → List Row → Type 0
WillCover m ws loss n rows = AllRows (λ k r. is_losing loss r ≡ true → Noted m ws k r.resends) n rows

-- what is marked stays so
abbrev pub Grows : Marked → Marked → Type 0
Grows old new = (b : ℕ) → marked_at old b ≡ true → marked_at new b ≡ true

-- a number that was last sent with an ordinal, at a moment, may be lost so
abbrev pub may_lose : Loss → ℕ → ℕ → Bool
may_lose (Late moment resend) sent at = nat_le (at + resend) moment
may_lose (Third ordinal) sent at = nat_lt sent ordinal

-- the first block from one to before another that is marked, or whose moment is before one
abbrev pub IsFirstBlock : List ℕ → Marked → ℕ → ℕ → ℕ → Option ℕ → Type 0
IsFirstBlock lows m from to moment None = (b : ℕ) → from ≤ b → b < to →
    (moment ≤ low_at lows b) × (marked_at m b ≡ false)
IsFirstBlock lows m from to moment (Some g) = (from ≤ g) × (g < to) ×
    ((b : ℕ) → from ≤ b → b < g → (moment ≤ low_at lows b) × (marked_at m b ≡ false))

-- of no message that begins in a block before one a lost number was sent again as often as its limit
-- allows
abbrev pub NoneSpentBefore : ℕ → ℕ → List Row → List Waiting → Type 0
NoneSpentBefore end n rows ws = (w : Waiting) → IsIn w ws → block_of w.number < end →
    is_spent w.options.resends w n rows ≡ false

-- of none whose block uses the place of one from one to before another
abbrev pub NoneSpentBeside : ℕ → ℕ → ℕ → List Row → List Waiting → Type 0
NoneSpentBeside from end n rows ws = (w : Waiting) → IsIn w ws → (b : ℕ) → from ≤ b → b < end →
    block_of w.number % 2056 ≡ b % 2056 → is_spent w.options.resends w n rows ≡ false
