use Rattle.std.proofs.Common.{◌+◌}
use Rattle.flow_send.proofs.Marking.{unlimited, all_marked}
use Rattle.flow_send.proofs.ordered.Sendings.mark.Goals as goal

pub returns-then-not-is_limited-clause-covers : goal.returns-then-not-is_limited-clause-covers
returns-then-not-is_limited-clause-covers c = unlimited c.args.marks.now c.args.waiting.now c.args.loss (c.args.forward + 1) c.args.rows.now.rows (c.is_limited.ensures c.if-not-is_limited.true)

pub returns-then-not-self-clause-covers : goal.returns-then-not-self-clause-covers
returns-then-not-self-clause-covers c = all_marked c.mark_all.new.self c.args.waiting.now c.args.loss (c.args.forward + 1) c.args.rows.now.rows c.mark_all.ensures
