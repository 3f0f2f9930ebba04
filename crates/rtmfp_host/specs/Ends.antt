-- How the children of a spawner in memory end.
use Rattle.std.specs.Prelude.{ℕ, pos, List, [], slice_get, Option, Some, None}
use Rattle.rtmfp_host.specs.declared.child_end.ChildEnd.{ChildEnd}

-- the end of a child that has no place in the list
abbrev pub end_or_none : Option ChildEnd → ChildEnd
end_or_none None = record { status = pos 0; text = [] }
end_or_none (Some end) = end

abbrev pub end_at : ℕ → List ChildEnd → ChildEnd
end_at child ends = end_or_none (slice_get ends child)
