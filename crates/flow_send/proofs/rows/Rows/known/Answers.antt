use Rattle.std.proofs.Common.{drop, subst}
use Rattle.flow_send.specs.Rows.{Roomy}
use Rattle.flow_send.specs.Passed.{AllAcked}
use Rattle.flow_send.proofs.rows.Rows.known.Goals as goal

pub returns : goal.returns
returns c = subst (λ (q : Roomy). AllAcked c.from.result (drop c.args.at q.rows)) c.self.view_is (c.from.ensures c.self.inside.rows.items c.self.invariant.1)
