use Rattle.std.proofs.Common.{◌<◌, length, ap, ◌∙◌, arith}
use Rattle.flow_send.specs.Rows.{Roomy, Row, is_acknowledged, is_lost, is_unsent}
use Rattle.flow_send.proofs.Passing.{acked_unlost, kept_at, acked_row}
use Rattle.flow_send.proofs.Finding.{found_settled, acked_sent}
use Rattle.flow_send.specs.declared.finder.Pending.TheVariants.{First, Again}
use Rattle.flow_send.proofs.rows.Rows.acknowledge_at.Goals as goal

pub invariant_of-self : goal.invariant_of-self
invariant_of-self c =
    let i = c.self.inside in
    let x = c.index_mut-row.result.now in
    let y = c.acknowledge.new.self in
    let lt : c.args.at < length i.rows.items = omega (arith, c.requires, ap (λ (p : Roomy). length p.rows) c.self.view_is) in
    let k = kept_at i.passed.counts i.totals c.totals-before.result c.totals-after.result c.moved-self-inside.result i.rows.items c.args.at x y c.self.invariant.0 c.totals-before.ensures c.totals-after.ensures c.index_mut-row.ensures.value lt
    c.moved-self-inside.ensures (λ h. ap (λ (r : Row). is_acknowledged r.state) c.acknowledge.ensures ∙ acked_row x) c.self.invariant.1 in
    (k.0, k.1, found_settled Again i.lost_rows i.rows.items c.args.at y (ap (λ (r : Row). is_lost r.state) c.acknowledge.ensures ∙ acked_unlost x) c.self.invariant.2, found_settled First i.unsent_rows i.rows.items c.args.at y (ap (λ (r : Row). is_unsent r.state) c.acknowledge.ensures ∙ acked_sent x) c.self.invariant.3)
