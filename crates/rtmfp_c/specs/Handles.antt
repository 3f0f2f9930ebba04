-- What a handle holds, and what a call does to it.
use Rattle.std.specs.Prelude.{ℕ, ◌≡◌, nat_eq, if◌then◌else◌, Option, Some, None}
use Rattle.rtmfp_c.specs.declared.handle.Handle.{Handle}
use Rattle.rtmfp_c.specs.declared.node.Node.{Node}

-- the number that tells that a handle holds an end
abbrev pub live_mark : ℕ
live_mark = 0x72746d66702d3031

-- the end that a handle holds, if it holds one
abbrev pub end_in : Handle → Option Node
end_in h = if nat_eq h.live live_mark then h.held.node else None

-- The handle held no end, and is as it was.
pub record IsEmpty (old new : Handle) : Type 0 where
  pub none : end_in old ≡ None
  pub same : new ≡ old

-- The handle held an end, it holds one, and this went on between the two.
pub record Goes (P : Node → Node → Type 0) (old new : Handle) : Type 0 where
  pub before : Node
  pub after : Node
  pub held : end_in old ≡ Some before
  pub holds : end_in new ≡ Some after
  pub goes : P before after

-- The handle holds the end that it held, or it held none and is as it was.
abbrev pub IsKept : Handle → Handle → Type 0
IsKept old new = end_in new ≡ end_in old
