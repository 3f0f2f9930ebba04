use Rattle.flow_send.specs.Sender.{sender_of}
use Rattle.flow_send.proofs.Ends.{line_rows}
use Rattle.flow_send.proofs.sender.FlowSender.first_overdue.Goals as goal

pub look-requires-clause-line : goal.look-requires-clause-line
look-requires-clause-line c =
    let i = c.self.inside in
    line_rows (sender_of i.forward i.rows.rows i.waiting i.finish i.sent i.upto i.told i.notice i.order) c.self.invariant.0

pub look-requires-clause-covers : goal.look-requires-clause-covers
look-requires-clause-covers c = c.self.invariant.4
