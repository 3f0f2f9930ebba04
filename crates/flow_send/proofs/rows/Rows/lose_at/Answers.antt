use Rattle.std.proofs.Common.{◌<◌, ◌^◌, length, ap, sym, refl, ◌∙◌, arith}
use Rattle.flow_send.specs.Rows.{Row, Roomy, stored_of, is_acknowledged, is_unsent}
use Rattle.flow_send.proofs.Summing.{fits_at, lost_stored}
use Rattle.flow_send.proofs.Passing.{kept_at, lost_acked}
use Rattle.flow_send.proofs.Finding.{found_set, found_kept, late_unsent}
use Rattle.flow_send.specs.declared.finder.Pending.TheVariants.{First, Again}
use Rattle.flow_send.proofs.rows.Rows.lose_at.Goals as goal

pub moved-self-inside-requires-clause-fits : goal.moved-self-inside-requires-clause-fits
moved-self-inside-requires-clause-fits c =
    let i = c.self.inside in
    let x = c.index_mut-row.result.now in
    let y = c.lose_if_late.new.self in
    let s : i.totals.stored < 2 ^ 64 = omega arith in
    let n : length i.rows.items < 2 ^ 64 = omega (arith, i.rows.ok, i.rows.small) in
    let lt : c.args.at < length i.rows.items = omega (arith, c.requires, ap (λ (p : Roomy). length p.rows) c.self.view_is) in
    fits_at _ _ _ i.rows.items c.args.at x y c.self.invariant.0 c.totals-before.ensures c.totals-after.ensures c.index_mut-row.ensures.value lt (ap stored_of c.lose_if_late.ensures ∙ lost_stored c.args.moment c.args.resend_after x) s n

pub invariant_of-self : goal.invariant_of-self
invariant_of-self c =
    let i = c.self.inside in
    let x = c.index_mut-row.result.now in
    let y = c.lose_if_late.new.self in
    let lt : c.args.at < length i.rows.items = omega (arith, c.requires, ap (λ (p : Roomy). length p.rows) c.self.view_is) in
    let k = kept_at i.passed.counts i.totals c.totals-before.result c.totals-after.result c.moved-self-inside.result i.rows.items c.args.at x y c.self.invariant.0 c.totals-before.ensures c.totals-after.ensures c.index_mut-row.ensures.value lt
    c.moved-self-inside.ensures (λ h. ap (λ (r : Row). is_acknowledged r.state) c.lose_if_late.ensures ∙ lost_acked c.args.moment c.args.resend_after x h) c.self.invariant.1 in (
      k.0,
      k.1,
      found_set Again i.lost_rows c.note.new.self i.rows.items c.args.at y c.note.ensures.base c.note.ensures.others (λ e. c.note.ensures.own refl) c.self.invariant.2,
      found_kept First i.unsent_rows i.rows.items c.args.at x y c.index_mut-row.ensures.value lt (λ e. late_unsent c.args.moment c.args.resend_after x (sym (ap (λ (r : Row). is_unsent r.state) c.lose_if_late.ensures) ∙ e)) c.self.invariant.3,
    )
