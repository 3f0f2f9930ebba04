use Rattle.flow_send.proofs.Ends.{line_rows}
use Rattle.flow_send.specs.Sender.{sender_of}
use Rattle.flow_send.proofs.sender.FlowSender.renew.Goals as goal

pub first_overdue-requires-clause-line : goal.first_overdue-requires-clause-line
first_overdue-requires-clause-line c =
    let i = c.self.inside in
    line_rows (sender_of i.forward i.rows.rows i.waiting i.finish i.sent i.upto i.told i.notice i.order) c.self.invariant.0

pub first_overdue-requires-clause-covers : goal.first_overdue-requires-clause-covers
first_overdue-requires-clause-covers c = c.self.invariant.4
