use Rattle.std.proofs.Common.{◌≡◌, ◌<◌, ◌^◌, length, ap, sym, ◌∙◌, arith}
use Rattle.flow_send.specs.Rows.{Row, Roomy, stored_of, is_acknowledged, is_unsent}
use Rattle.flow_send.proofs.Summing.{fits_at, count_stored}
use Rattle.flow_send.proofs.Passing.{kept_at, counted_acked}
use Rattle.flow_send.proofs.Finding.{found_set, found_kept, counted_unsent}
use Rattle.flow_send.specs.Finder.{is_pending}
use Rattle.flow_send.specs.declared.finder.Pending.TheVariants.{First, Again}
use Rattle.flow_send.proofs.rows.Rows.count_ack_at.Goals as goal

pub moved-self-inside-requires-clause-fits : goal.moved-self-inside-requires-clause-fits
moved-self-inside-requires-clause-fits c =
    let i = c.self.inside in
    let x = c.index_mut-row.result.now in
    let y = c.count_ack.new.self in
    let s : i.totals.stored < 2 ^ 64 = omega arith in
    let n : length i.rows.items < 2 ^ 64 = omega (arith, i.rows.ok, i.rows.small) in
    let lt : c.args.at < length i.rows.items = omega (arith, c.requires, ap (λ (p : Roomy). length p.rows) c.self.view_is) in
    fits_at _ _ _ i.rows.items c.args.at x y c.self.invariant.0 c.totals-before.ensures c.totals-after.ensures c.index_mut-row.ensures.value lt (ap stored_of c.count_ack.ensures ∙ count_stored c.args.ordinal x) s n

pub invariant_of-self : goal.invariant_of-self
invariant_of-self c =
    let i = c.self.inside in
    let x = c.index_mut-row.result.now in
    let y = c.count_ack.new.self in
    let lt : c.args.at < length i.rows.items = omega (arith, c.requires, ap (λ (p : Roomy). length p.rows) c.self.view_is) in
    let k = kept_at i.passed.counts i.totals c.totals-before.result c.totals-after.result c.moved-self-inside.result i.rows.items c.args.at x y c.self.invariant.0 c.totals-before.ensures c.totals-after.ensures c.index_mut-row.ensures.value lt
    c.moved-self-inside.ensures (λ h. ap (λ (r : Row). is_acknowledged r.state) c.count_ack.ensures ∙ counted_acked c.args.ordinal x h) c.self.invariant.1 in
    let state : c.state-state.result ≡ y.state = c.state-state.ensures in (
      k.0,
      k.1,
      found_set Again i.lost_rows c.note.new.self i.rows.items c.args.at y c.note.ensures.base c.note.ensures.others (λ e. c.note.ensures.own (ap (is_pending Again) state ∙ e)) c.self.invariant.2,
      found_kept First i.unsent_rows i.rows.items c.args.at x y c.index_mut-row.ensures.value lt (λ e. counted_unsent c.args.ordinal x (sym (ap (λ (r : Row). is_unsent r.state) c.count_ack.ensures) ∙ e)) c.self.invariant.3,
    )
