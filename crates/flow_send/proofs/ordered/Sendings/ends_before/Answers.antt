use Rattle.std.proofs.Common.{◌-◌, arith, subst}
use Rattle.std.specs.VecDeque.{deque_len}
use Rattle.std.proofs.lemmas.Bool.{leb-true}
use Rattle.flow_send.specs.Ordered.{Ordered, EndsBefore, EndsBy}
use Rattle.flow_send.proofs.Orders.{last_before, last_by}
use Rattle.flow_send.proofs.ordered.Sendings.ends_before.Goals as goal

pub returns-then-last-ordinal-clause-ordinal : goal.returns-then-last-ordinal-clause-ordinal
returns-then-last-ordinal-clause-ordinal c = λ e.
    let q = c.self.inside.queue in
    subst (λ (o : Ordered). EndsBefore c.args.ordinal o.queue) c.self.view_is
    (last_before c.args.ordinal (deque_len q - 1) q.items c.in-Some.field-0.now (omega (arith, q.ok)) c.in-Some.ensures.lookup c.if-last-ordinal.true)

pub returns-then-last-ordinal-clause-moment : goal.returns-then-last-ordinal-clause-moment
returns-then-last-ordinal-clause-moment c = λ e.
    let q = c.self.inside.queue in
    subst (λ (o : Ordered). EndsBy c.args.moment o.queue) c.self.view_is
    (last_by c.args.moment (deque_len q - 1) q.items c.in-Some.field-0.now (omega (arith, q.ok)) c.in-Some.ensures.lookup (leb-true c.in-Some.field-0.now.2 c.args.moment e))
