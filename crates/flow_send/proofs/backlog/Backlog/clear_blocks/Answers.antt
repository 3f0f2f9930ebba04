use Rattle.std.proofs.Common.{◌+◌, arith}
use Rattle.flow_send.proofs.Marking.{covers_cleared}
use Rattle.flow_send.proofs.backlog.Backlog.clear_blocks.Goals as goal

pub loop-block-preserved : goal.loop-block-preserved
loop-block-preserved c = record {
  covers = covers_cleared c.loop-block.marks c.clear.new.self c.args.from c.args.end c.loop-block.block c.args.self.now (c.args.forward + 1) c.args.rows.now.rows c.loop-block.invariant.from c.loop-block-test.true c.requires.passed c.clear.ensures c.loop-block.invariant.covers;
  from = omega (arith, c.loop-block.invariant.from, c.saturating_add-block.ensures, c.max.ensures);
}
