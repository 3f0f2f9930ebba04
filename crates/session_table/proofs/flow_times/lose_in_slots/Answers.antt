use Rattle.std.proofs.Common.{◌<◌, ◌∙◌, Some, length, set, sym, subst, arith}
use Rattle.endpoint_model.specs.declared.row.Row.{Row}
use Rattle.endpoint_model.specs.FlowTimes.{late_marked}
use Rattle.keyed_slab.specs.KeyedSlab.{IsChangedAt}
use Rattle.keyed_slab.specs.SlotSet.{slot_at}
use Rattle.keyed_slab.proofs.Seated.{set_at}
use Rattle.keyed_slab.proofs.Walked.{next_stands, next_changed}
use Rattle.session_table.proofs.flow_times.lose_in_slots.Goals as goal

pub loop-index-preserved : goal.loop-index-preserved
loop-index-preserved c =
    let l = c.loop-index in
    let slots = c.args.slots.now in
    let less : l.index < length slots = omega (arith, c.loop-index-test.true, l.auto.index-end) in
    let old = c.args.rows.now.things in
    let row = c.index_mut.result.now in
    let new = set l.rows.things (slot_at slots l.index) (Some c.lose_in.new.row) in
    let at = sym (next_stands (late_marked c.args.moment) old l.rows.things new slots l.index c.requires.apart less l.invariant.0) ∙ c.index_mut.ensures.value in
    let is = subst (λ (r : Row). IsChangedAt l.rows.things new (slot_at slots l.index) (Some r)) c.lose_in.ensures (set_at l.rows.things (slot_at slots l.index) row c.lose_in.new.row c.index_mut.ensures.value) in
    (next_changed (late_marked c.args.moment) old l.rows.things new slots l.index row c.requires.apart less l.invariant.0 at is, l.invariant.1)
