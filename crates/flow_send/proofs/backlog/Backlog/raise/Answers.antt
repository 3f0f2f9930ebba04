use Rattle.std.proofs.Common.{◌+◌, length, sym, subst}
use Rattle.flow_send.specs.Lows.{AllInBlocks}
use Rattle.flow_send.specs.Messages.{InLine}
use Rattle.flow_send.proofs.Walking.{in_line}
use Rattle.flow_send.proofs.backlog.Backlog.raise.Goals as goal

pub raise_block-requires-clause-within : goal.raise_block-requires-clause-within
raise_block-requires-clause-within c = subst (AllInBlocks c.blocks-from.result.0 c.blocks-from.result.1) (sym c.loop-block.invariant.same) c.blocks-from.ensures.within

pub raise_block-requires-clause-line : goal.raise_block-requires-clause-line
raise_block-requires-clause-line c = subst (InLine 0) (sym c.loop-block.invariant.same) (in_line 0 (c.args.forward + 1 + length c.args.rows.now.rows) c.args.self.now c.requires)
