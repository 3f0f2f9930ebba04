-- For how many more rows there is room.
use Rattle.std.specs.Prelude.{ℕ, ◌&&◌, if◌then◌else◌, length, min, nat_le}
use Rattle.session_table.specs.declared.kept.Kept.{Kept}

-- A row needs a slot and a key, and each slot a deadline and a place in the set.
abbrev pub free_of : Kept → ℕ
free_of k =
    if nat_le k.rows.room (length k.deadlines) && nat_le k.rows.room (length k.busy)
    then min k.rows.free k.keys.spare else 0
