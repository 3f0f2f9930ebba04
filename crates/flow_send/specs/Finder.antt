-- Marks of the blocks of rows in which a row waits to be sent, or to be sent again.
use Rattle.std.specs.Prelude.{ℕ, ◌≡◌, ◌+◌, ◌/◌, ◌%◌, ◌<◌, ◌≤◌, Bool, true, false, List, length, get_or}
use Rattle.std.specs.Int.{bit_at}
use Rattle.flow_send.specs.declared.finder.Finder.{Finder}
use Rattle.flow_send.specs.declared.finder.Pending.{Pending}
use Rattle.flow_send.specs.declared.finder.Pending.TheVariants.{First, Again}
use Rattle.flow_send.specs.declared.state.State.{State}
use Rattle.flow_send.specs.Rows.{Row, row_at, is_unsent, is_lost}

-- a row in such a state waits so
abbrev pub is_pending : Pending → State → Bool
is_pending First state = is_unsent state
is_pending Again state = is_lost state

-- blocks use the bits of 34 words in turn
abbrev pub bit_of : List ℕ → ℕ → ℕ
bit_of words block = bit_at (get_or words (block / 64 % 34) 0) (block % 64)

-- the block of the row at an index
abbrev pub block_at : Finder → ℕ → ℕ
block_at f at = (f.base + at) / 64

-- each row that waits so is in a block with a mark
abbrev pub Finds : Pending → Finder → List Row → Type 0
Finds pending f rows = (i : ℕ) → i < length rows → is_pending pending (row_at rows i).state ≡ true →
    bit_of f.words (block_at f i) ≡ 1

-- none from one index to before another waits so
abbrev pub NoneIn : Pending → ℕ → ℕ → List Row → Type 0
NoneIn pending from to rows = (i : ℕ) → from ≤ i → i < to →
    is_pending pending (row_at rows i).state ≡ false
