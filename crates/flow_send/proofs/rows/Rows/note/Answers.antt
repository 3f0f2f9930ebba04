use Rattle.std.proofs.Common.{◌-◌, drop, sym, subst}
use Rattle.flow_send.specs.Rows.{Roomy}
use Rattle.flow_send.specs.Passed.{AllAcked}
use Rattle.flow_send.proofs.rows.Rows.note.Goals as goal

pub invariant_of-self : goal.invariant_of-self
invariant_of-self c =
    let acked = subst (λ (q : Roomy). AllAcked (c.args.to - c.args.from) (drop c.args.from q.rows)) (sym c.self.view_is) c.requires in
    (c.self.invariant.0, c.note.ensures.counts c.self.inside.rows.items acked c.self.invariant.1, c.self.invariant.2, c.self.invariant.3)
