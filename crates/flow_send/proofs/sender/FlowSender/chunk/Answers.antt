use Rattle.std.proofs.Common.{◌+◌, ◌<◌, ◌≤◌, length, sym, subst, ap, rules, arith}
use Rattle.flow_send.specs.declared.pick.Pick.{Pick}
use Rattle.flow_send.specs.Rows.{Row, row_at}
use Rattle.flow_send.specs.Picked.{IsThere}
use Rattle.flow_send.specs.Flow.{Flow}
use Rattle.flow_send.proofs.Fitting.{short_at}
use Rattle.flow_send.proofs.sender.FlowSender.chunk.Goals as goal

pub returns-in-Row-clause-chunk : goal.returns-in-Row-clause-chunk
returns-in-Row-clause-chunk c = search rules

pub returns-in-Row-clause-short : goal.returns-in-Row-clause-short
returns-in-Row-clause-short c =
    let i = c.self.inside in
    let there : c.in-Row.at < length i.rows.rows =
    subst (λ (f : Flow). c.in-Row.at < length f.sender.rows) (sym c.self.view_is) (subst (λ (p : Pick). IsThere c.args.self.now.sender p) c.in-Row.is c.requires) in
    let short : length (row_at i.rows.rows c.in-Row.at).fragment.bytes ≤ 1000 = short_at i.sent (i.forward + 1) i.rows.rows c.in-Row.at c.self.invariant.0.rows there in
    let row : length c.row-row.result.now.fragment.bytes ≤ 1000 = subst (λ (r : Row). length r.fragment.bytes ≤ 1000) (sym c.row-row.ensures) short in
    omega (arith, row, ap length c.bytes.ensures, c.chunk_options.ensures.short)
