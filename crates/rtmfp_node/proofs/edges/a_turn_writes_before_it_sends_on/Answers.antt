use Rattle.rtmfp_node.proofs.Ordering.{lost_first, report_first}
use Rattle.rtmfp_node.proofs.edges.a_turn_writes_before_it_sends_on.Goals as goal

pub returns-clause-report : goal.returns-clause-report
returns-clause-report c turn count report part call calls h = report_first turn count report part call calls h

pub returns-clause-lost : goal.returns-clause-lost
returns-clause-lost c turn count to datagram call calls lines h = lost_first turn count to datagram call calls h.earlier h.last lines h.k h.all h.one h.part h.whole
