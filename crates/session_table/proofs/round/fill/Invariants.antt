use Rattle.std.proofs.Common.{◌≡◌, ◌<◌, ◌+◌, length, vec_capacity, vec_len}
use Rattle.session_table.proofs.Rounds.{AreFilled}
use Rattle.session_table.proofs.round.fill.Given as goal

abbrev pub invariant-loop-index : goal.invariant-loop-index
invariant-loop-index l = (vec_len l.nears ≡ l.index + 1) × (length l.slots < vec_capacity l.nears) × AreFilled l.rows.things l.slots l.nears.items l.index
