-- The bytes of the runs that aren't whole, by the block of numbers that the last one of each is in.
use Rattle.std.specs.Prelude.{ℕ, zero, suc, ◌≡◌, ◌==◌, ◌+◌, ◌/◌, ◌%◌, ◌≤◌, nat_lt, false}
use Rattle.std.specs.Prelude.{if◌then◌else◌, List, [], ◌∷◌, Option, Some, None, length, get_or}
use Rattle.std.specs.List.{sum_by}
use Rattle.rtmfp_data_chunks.specs.Runs.{Run, is_whole}
use Rattle.flow_recv.specs.declared.sums.Open.{Open}

-- the bytes of a run that isn't whole
abbrev pub open_bytes : Run → ℕ
open_bytes y = if is_whole y then 0 else length y.bytes

-- blocks have 64 numbers, and 1,028 places are used for them in turn
abbrev pub place : ℕ → ℕ
place n = n / 64 % 1028

abbrev pub open_of : Run → Open
open_of y = record { last = y.last; bytes = open_bytes y }

abbrev pub open_at : Option Run → Open
open_at None = record { last = 0; bytes = 0 }
open_at (Some y) = open_of y

-- what a run gives to the sum of a place
abbrev pub share : ℕ → Open → ℕ
share i o = if place o.last == i then o.bytes else 0

abbrev pub given : ℕ → Run → ℕ
given i y = share i (open_of y)

-- each place has the sum of its runs; a sum that isn't there is 0
abbrev pub AreSums : List ℕ → List Run → Type 0
AreSums sums runs = (i : ℕ) → get_or sums i 0 ≡ sum_by (given i) runs

-- the sums of so many blocks from one on
abbrev pub sum_from : List ℕ → ℕ → ℕ → ℕ
sum_from sums block zero = 0
sum_from sums block (suc k) = sum_from sums block k + get_or sums ((block + k) % 1028) 0

-- the bytes of those that aren't whole and end in a block before one
abbrev pub before : ℕ → Run → ℕ
before block y = if nat_lt (y.last / 64) block then open_bytes y else 0

abbrev pub open_before : ℕ → List Run → ℕ
open_before block runs = sum_by (before block) runs

-- those that aren't whole end from a number on, and at most 65,537 above it
abbrev pub AllEndNear : ℕ → List Run → Type 0
AllEndNear through [] = Unit {0}
AllEndNear through (y ∷ later) =
    (is_whole y ≡ false → (through ≤ y.last) × (y.last ≤ through + 65537)) ×
    AllEndNear through later
