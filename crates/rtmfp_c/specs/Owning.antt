-- What a word of memory owns that C holds. Assumes nothing: these are definitions.
use Rattle.std.specs.Prelude.{Option, Some, None}
use base.Fml.{Fml, ftrue}
use denote.RattleType.{RattleType}
use denote.RawPtr.{Ptr}
use Rattle.std.specs.Box.Ownership.{box_owns}
use Rattle.libc.specs.Heap.{chunk}

-- the block of a box with this value at p, or nothing
unfoldable pub holds : (R : RattleType) → Ptr → Option R.Denot → Fml
holds R p (Some x) = box_owns chunk R p x
holds R p None = ftrue
