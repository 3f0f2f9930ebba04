use Rattle.std.proofs.Common.{◌≡◌, ◌<◌, ◌^◌, true, false, length, ap, sym, ◌∙◌, arith}
use Rattle.flow_send.specs.Rows.{Row, Roomy, stored_of, row_at, end_row, is_acknowledged, is_lost, is_unsent}
use Rattle.flow_send.proofs.Summing.{fits_at, default_row}
use Rattle.flow_send.proofs.Passing.{kept_at}
use Rattle.flow_send.proofs.Finding.{found_settled}
use Rattle.flow_send.specs.declared.finder.Pending.TheVariants.{First, Again}
use Rattle.flow_send.proofs.rows.Rows.send.Goals as goal

pub moved-self-inside-requires-clause-fits : goal.moved-self-inside-requires-clause-fits
moved-self-inside-requires-clause-fits c =
    let i = c.self.inside in
    let x = c.index_mut-row.result.now in
    let y = c.send.new.self in
    let s : i.totals.stored < 2 ^ 64 = omega arith in
    let n : length i.rows.items < 2 ^ 64 = omega (arith, i.rows.ok, i.rows.small) in
    let lt : c.args.at < length i.rows.items = omega (arith, c.requires.there, ap (λ (p : Roomy). length p.rows) c.self.view_is) in
    fits_at _ _ _ i.rows.items c.args.at x y c.self.invariant.0 c.totals-before.ensures c.totals-after.ensures c.index_mut-row.ensures.value lt (ap stored_of c.send.ensures) s n

pub invariant_of-self : goal.invariant_of-self
invariant_of-self c =
    let i = c.self.inside in
    let x = c.index_mut-row.result.now in
    let y = c.send.new.self in
    let lt : c.args.at < length i.rows.items = omega (arith, c.requires.there, ap (λ (p : Roomy). length p.rows) c.self.view_is) in
    let is : x ≡ row_at c.args.self.now.rows c.args.at = (c.index_mut-row.ensures.value ∙ default_row i.rows.items c.args.at x end_row lt) ∙ ap (λ (p : Roomy). row_at p.rows c.args.at) c.self.view_is in
    let k = kept_at i.passed.counts i.totals c.totals-before.result c.totals-after.result c.moved-self-inside.result i.rows.items c.args.at x y c.self.invariant.0 c.totals-before.ensures c.totals-after.ensures c.index_mut-row.ensures.value lt
    c.moved-self-inside.ensures (λ h. absurd (let no : true ≡ false = sym h ∙ (ap (λ (r : Row). is_acknowledged r.state) is ∙ c.requires.open) in cc)) c.self.invariant.1 in
    (k.0, k.1, found_settled Again i.lost_rows i.rows.items c.args.at y (ap (λ (r : Row). is_lost r.state) c.send.ensures) c.self.invariant.2, found_settled First i.unsent_rows i.rows.items c.args.at y (ap (λ (r : Row). is_unsent r.state) c.send.ensures) c.self.invariant.3)
