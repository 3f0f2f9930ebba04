use Rattle.std.proofs.Common.{arith}
use Rattle.session_table.proofs.Rounds.{shuffled_left, sorted_rises}
use Rattle.session_table.specs.Table.{near_of}
use Rattle.session_table.proofs.round.list.Goals as goal

pub push_reserved-requires : goal.push_reserved-requires
push_reserved-requires c = omega (arith, c.requires.none, c.requires.room)

pub fill-requires-clause-one : goal.fill-requires-clause-one
fill-requires-clause-one c = omega (arith, c.push_reserved.ensures.len, c.requires.none)

pub fill-requires-clause-room : goal.fill-requires-clause-room
fill-requires-clause-room c = omega (arith, c.push_reserved.ensures.capacity, c.requires.room)

pub returns-clause-rises : goal.returns-clause-rises
returns-clause-rises c = sorted_rises _ c.sort_unstable.ensures.sorted

pub returns-clause-left : goal.returns-clause-left
returns-clause-left c place row less at = shuffled_left _ _ (near_of row) c.sort_unstable.ensures.permutation (c.fill.ensures place row less at)
