use Rattle.std.proofs.Common.{◌+◌, length, sym, subst}
use Rattle.flow_send.specs.Steady.{Line}
use Rattle.flow_send.proofs.Walking.{at_in, line_in}
use Rattle.flow_send.proofs.backlog.Backlog.is_overdue_in.Goals as goal

pub is_overdue-requires : goal.is_overdue-requires
is_overdue-requires c =
    let ws = c.self.inside.messages in
    let high = c.args.forward + 1 + length c.args.rows.now.rows in
    line_in 0 high ws c.in-Some.message (subst (Line 0 high) (sym c.self.view_is) c.requires) (at_in c.args.number ws c.in-Some.message (sym c.in-Some.ensures)).0
