use Rattle.std.proofs.Common.{subst, arith}
use Rattle.flow_send.specs.Deadlines.{Reach}
use Rattle.flow_send.proofs.Quiet.{none_overdue}
use Rattle.flow_send.proofs.backlog.Backlog.is_quiet.Goals as goal

pub returns : goal.returns
returns c = λ e n.
    let ws = c.args.self.now in
    let i = c.self.inside in
    let reach : Reach i.soonest i.limited ws = subst (Reach i.soonest i.limited) c.self.view_is c.self.invariant.2 in
    none_overdue c.args.moment n i.soonest c.args.rows.now.rows ws (omega (arith, c.if-moment-self.false)) reach.deadlines (c.is_unspent.ensures e)
