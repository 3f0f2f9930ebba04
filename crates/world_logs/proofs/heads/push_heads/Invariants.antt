use Rattle.std.proofs.Common.{◌≡◌, ◌++◌, take}
use Rattle.log_writing.specs.Written.{text_of}
use Rattle.world_logs.specs.Heads.{heads_of}
use Rattle.world_logs.proofs.heads.push_heads.Given as goal

abbrev pub invariant-loop-number : goal.invariant-loop-number
invariant-loop-number l = l.text ≡ l.fn.text ++ text_of (heads_of (take l.number l.world.ends))
