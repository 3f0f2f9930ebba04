use Rattle.std.proofs.Common.{◌≡◌, ◌+◌, ◌-◌, min, ◌∙◌, arith}
use Rattle.flow_send.proofs.Tellings.{span_rows, span_most}
use Rattle.flow_send.proofs.acking.acknowledge_span.Goals as goal

pub returns-clause-rows : goal.returns-clause-rows
returns-clause-rows c =
    let to : c.saturating_sub-to.result ≡ c.args.last - c.args.forward = c.saturating_sub-to.ensures in
    let from : c.min.result ≡ min (c.args.first - (c.args.forward + 1)) (c.args.last - c.args.forward) = omega (arith, c.min.ensures, c.saturating_sub.ensures, c.saturating_sub-from.ensures, to) in
    c.acknowledge.ensures.rows ∙ span_rows c.args.first c.args.last c.args.forward c.min.result c.saturating_sub-to.result c.args.rows.now.rows from to

pub returns-clause-ordinal : goal.returns-clause-ordinal
returns-clause-ordinal c =
    let to : c.saturating_sub-to.result ≡ c.args.last - c.args.forward = c.saturating_sub-to.ensures in
    let from : c.min.result ≡ min (c.args.first - (c.args.forward + 1)) (c.args.last - c.args.forward) = omega (arith, c.min.ensures, c.saturating_sub.ensures, c.saturating_sub-from.ensures, to) in
    c.acknowledge.ensures.ordinal ∙ span_most c.args.first c.args.last c.args.forward c.min.result c.saturating_sub-to.result c.args.rows.now.rows from to
