use Rattle.std.proofs.Common.{arith}
use Rattle.rtmfp_audit.proofs.Going.{going_more, going_ends}
use Rattle.rtmfp_audit.proofs.reading.read_lines.Goals as goal

pub lines-preserved : goal.lines-preserved
lines-preserved g c = record {
  going = going_more _ _ _ c.lines.gathered c.next_turn.new.gathered c.lines.buffer.bytes c.next_turn.new.buffer.bytes c.lines.invariant.going c.in-Went.ensures.turned;
  capacity = omega (arith, c.in-Went.ensures.capacity, c.lines.invariant.capacity);
}

pub returns-in-Ended : goal.returns-in-Ended
returns-in-Ended g c = going_ends c.in-Ended.status _ _ _ c.lines.gathered c.next_turn.new.gathered c.lines.buffer.bytes c.next_turn.new.buffer.bytes c.lines.invariant.going c.in-Ended.ensures.turned
