use Rattle.std.proofs.Common.{◌+◌, arith}
use Rattle.flow_send.proofs.Marking.{covers_quiet, none_beside}
use Rattle.flow_send.proofs.backlog.Backlog.clear.Goals as goal

pub clear_blocks-requires-clause-covers : goal.clear_blocks-requires-clause-covers
clear_blocks-requires-clause-covers c =
    covers_quiet c.args.marks.now c.forget_all.new.self c.args.self.now (c.args.forward + 1) c.args.rows.now.rows (λ w i. let k = c.blocks-first.ensures.within w i in c.requires.passed w i (let k1 = k.1 in omega (arith, k1, c.if-end-to.true))) c.requires.covers

pub clear_blocks-requires-clause-passed : goal.clear_blocks-requires-clause-passed
clear_blocks-requires-clause-passed c = λ w i b lo hi e. c.requires.passed w i (let k1 = (c.blocks-first.ensures.within w i).1 in omega (arith, k1, c.if-end-to.true))

pub clear_blocks-requires-2-clause-passed : goal.clear_blocks-requires-2-clause-passed
clear_blocks-requires-2-clause-passed c =
    none_beside c.blocks-first.result.0 c.max-from.result c.blocks-first.result.1 c.args.end c.args.self.now (c.args.forward + 1) c.args.rows.now.rows c.blocks-first.ensures.within (omega (arith, c.max-from.ensures, c.saturating_sub.ensures)) c.requires.passed
