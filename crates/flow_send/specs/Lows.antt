-- Moments before which no deadline is, by the blocks of numbers that messages begin in.
use Rattle.std.specs.Prelude.{ℕ, ◌≡◌, ◌≢◌, ◌==◌, ◌&&◌, ◌/◌, ◌%◌, ◌<◌, ◌≤◌, Bool, true, false, List}
use Rattle.std.specs.Prelude.{Option, Some, None, get_or}
use Rattle.std.specs.Option.{IsSomeAnd}
use Rattle.rtmfp_data_chunks.specs.HandsOver.{IsIn}
use Rattle.flow_send.specs.declared.waiting.Waiting.{Waiting}
use Rattle.flow_send.specs.Rows.{Row}
use Rattle.flow_send.specs.Sender.{message_at, is_overdue}
use Rattle.flow_send.specs.Deadlines.{IsNotBefore}

-- blocks have 64 numbers, and 2,056 places are used for them in turn; a moment that isn't there is
-- the last one
abbrev pub block_of : ℕ → ℕ
block_of n = n / 64

abbrev pub low_at : List ℕ → ℕ → ℕ
low_at lows block = get_or lows (block % 2056) 18446744073709551615

-- 32 places one after another are a group: a moment before which none of the group of a place is
abbrev pub IsTop : ℕ → List ℕ → ℕ → Type 0
IsTop place lows top = (i : ℕ) → i < 2056 → i / 32 ≡ place / 32 → top ≤ get_or lows i 18446744073709551615

-- before which none of the others of the group is
abbrev pub IsTopBeside : ℕ → List ℕ → ℕ → Type 0
IsTopBeside place lows top = (i : ℕ) → i < 2056 → i / 32 ≡ place / 32 → i ≢ place →
    top ≤ get_or lows i 18446744073709551615

-- the moments of all groups
abbrev pub AreTops : List ℕ → List ℕ → Type 0
AreTops tops lows = (i : ℕ) → i < 2056 →
    get_or tops (i / 32) 18446744073709551615 ≤ get_or lows i 18446744073709551615

-- no deadline is before the moment of its message's block
abbrev pub AreLows : List ℕ → List Waiting → Type 0
AreLows lows ws = (w : Waiting) → IsIn w ws →
    IsNotBefore (low_at lows (block_of w.number)) w.options.deadline

-- it begins in a block and is overdue
abbrev pub overdue_in : ℕ → ℕ → List Row → ℕ → Option Waiting → Bool
overdue_in moment n rows block None = false
overdue_in moment n rows block (Some w) = block_of w.number == block && is_overdue moment n rows w

-- of the messages of a block this one is the first that is overdue
abbrev pub IsFoundIn : ℕ → ℕ → List Row → ℕ → List Waiting → Option ℕ → Type 0
IsFoundIn moment n rows block ws None = (w : Waiting) → IsIn w ws → block_of w.number ≡ block →
    is_overdue moment n rows w ≡ false
IsFoundIn moment n rows block ws (Some g) =
    IsSomeAnd (message_at g ws) (λ w. is_overdue moment n rows w ≡ true) × (block_of g ≡ block) ×
    ((w : Waiting) → IsIn w ws → block_of w.number ≡ block → w.number < g →
    is_overdue moment n rows w ≡ false)

-- no deadline of the messages of a block is before a moment
abbrev pub IsLowIn : ℕ → List Waiting → ℕ → Type 0
IsLowIn block ws low = (w : Waiting) → IsIn w ws → block_of w.number ≡ block →
    IsNotBefore low w.options.deadline

-- nor of those of the blocks behind it and before another that use its place
abbrev pub IsLowFrom : ℕ → ℕ → List Waiting → ℕ → Type 0
IsLowFrom block to ws low = (w : Waiting) → IsIn w ws → block ≤ block_of w.number →
    block_of w.number < to → block_of w.number % 2056 ≡ block % 2056 → IsNotBefore low w.options.deadline

-- each message begins in a block from one to before another
abbrev pub AllInBlocks : ℕ → ℕ → List Waiting → Type 0
AllInBlocks from to ws = (w : Waiting) → IsIn w ws →
    (from ≤ block_of w.number) × (block_of w.number < to)
