use Rattle.flow_send.proofs.Orders.{more_lost}
use Rattle.flow_send.proofs.ordered.Sendings.count_acks.Goals as goal

pub returns-clause-lost : goal.returns-clause-lost
returns-clause-lost c = more_lost c.args.ordinal c.args.to c.lost-before.result c.lost.result c.args.rows.now.rows c.count_before.new.rows.rows c.lost-before.ensures c.count_before.ensures.rows c.lost.ensures
