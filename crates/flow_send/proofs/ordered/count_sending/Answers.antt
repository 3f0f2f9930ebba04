use Rattle.std.proofs.Common.{◌+◌, ◌-◌, arith}
use Rattle.flow_send.proofs.Orders.{one_below, one_beyond, one_here}
use Rattle.flow_send.proofs.ordered.count_sending.Goals as goal

pub returns-then-number-forward-clause-rows : goal.returns-then-number-forward-clause-rows
returns-then-number-forward-clause-rows c = one_below (c.args.forward + 1 + c.args.to) c.args.ordinal c.args.sent c.args.number (c.args.forward + 1) c.args.rows.now.rows (omega (arith, c.if-number-forward.true))

pub returns-then-at-to-clause-rows : goal.returns-then-at-to-clause-rows
returns-then-at-to-clause-rows c = one_beyond (c.args.forward + 1 + c.args.to) c.args.ordinal c.args.sent c.args.number (c.args.forward + 1) c.args.rows.now.rows (omega (arith, c.if-number-forward.false, c.if-at-to.true))

pub returns-clause-rows : goal.returns-clause-rows
returns-clause-rows c =
    one_here (c.args.forward + 1 + c.args.to) c.args.ordinal c.args.sent c.args.number (c.args.forward + 1) (c.args.number - c.args.forward - 1) c.args.rows.now.rows c.count_sent.new.self.rows
    (omega (arith, c.if-number-forward.false, c.if-at-to.false, c.requires)) (omega (arith, c.if-number-forward.false)) (omega (arith, c.if-number-forward.false, c.if-at-to.false)) c.count_sent.ensures.rows
