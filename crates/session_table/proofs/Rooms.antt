-- Room for one more row.
use Rattle.std.proofs.Common.{ℕ, ◌≤◌, ◌<◌, ◌&&◌, if◌then◌else◌, nat_le, arith}
use Rattle.std.proofs.lemmas.Bool.Decides.{nat_tests}

-- where there is room, each slot that a row may get has a deadline's place and one in the set
pub deadline_room : (room deadlines flags more : ℕ) → 0 < (if nat_le room deadlines && nat_le room flags then more else 0) → room ≤ deadlines
deadline_room room deadlines flags more some = grind (arith, nat_tests)

pub flag_room : (room deadlines flags more : ℕ) → 0 < (if nat_le room deadlines && nat_le room flags then more else 0) → room ≤ flags
flag_room room deadlines flags more some = grind (arith, nat_tests)
