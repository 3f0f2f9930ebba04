use Rattle.std.proofs.Common.{ℕ, ◌≡◌, ◌<◌, ◌+◌, ◌^◌, Option, length, refl, sym, subst, arith}
use Rattle.endpoint_model.specs.FlowTimes.{is_row_due}
use Rattle.keyed_slab.specs.SlotSet.{slot_at}
use Rattle.keyed_slab.specs.Walks.{IsBestOf, IsLookedAt}
use Rattle.keyed_slab.proofs.Walked.{looked_by_deadline, looked_further, first_or_none}
use Rattle.session_table.specs.Table.{near_of}
use Rattle.session_table.specs.Inside.{due_from, may_be_due_of}
use Rattle.session_table.proofs.OwnDue.{due_passes, why_due}
use Rattle.session_table.proofs.kept.Kept.first_of_all.Goals as goal

pub loop-index-init : goal.loop-index-init
loop-index-init c =
    let k = c.args.self.now in
    let m = c.args.moment in
    let below : m < 2 ^ 64 = c.ranges.moment.fits in
    looked_by_deadline near_of due_from may_be_due_of (is_row_due m) k.rows.things k.rows.generations k.keys.keys k.deadlines k.busy m c.requires.seats (λ row. due_passes m row below) c.slots-slots.result.now c.due-best.result c.due-best.ensures.some c.due-best.ensures.none

pub loop-index-preserved : goal.loop-index-preserved
loop-index-preserved c =
    let k = c.args.self.now in
    let m = c.args.moment in
    let l = c.loop-index in
    let slots = c.slots-slots.result.now in
    let less : l.index < length slots = omega (arith, c.loop-index-test.true, l.auto.index-end) in
    subst (λ (o : Option ℕ). IsBestOf near_of (is_row_due m) k.rows.things (IsLookedAt k.deadlines m slots (l.index + 1)) o) (sym c.better-best.ensures)
    (looked_further near_of due_from may_be_due_of (is_row_due m) k.rows.things k.rows.generations k.keys.keys k.deadlines k.busy m c.requires.seats slots l.index (slot_at slots l.index) l.best c.slots-slots.ensures less refl l.invariant)

pub returns-clause-none : goal.returns-clause-none
returns-clause-none c =
    let k = c.args.self.now in
    let m = c.args.moment in
    let l = c.loop-index in
    let slots = c.slots-slots.result.now in
    let below : m < 2 ^ 64 = c.ranges.moment.fits in
    let all : l.index ≡ length slots = omega (arith, c.loop-index-test.false, l.auto.index-end) in
    (first_or_none near_of due_from may_be_due_of (is_row_due m) k.rows.things k.rows.generations k.keys.keys k.deadlines k.busy m c.requires.seats (λ row. why_due m row below) slots c.slots-slots.ensures l.best
    (subst (λ (n : ℕ). IsBestOf near_of (is_row_due m) k.rows.things (IsLookedAt k.deadlines m slots n) l.best) all l.invariant)).0

pub returns-clause-some : goal.returns-clause-some
returns-clause-some c =
    let k = c.args.self.now in
    let m = c.args.moment in
    let l = c.loop-index in
    let slots = c.slots-slots.result.now in
    let below : m < 2 ^ 64 = c.ranges.moment.fits in
    let all : l.index ≡ length slots = omega (arith, c.loop-index-test.false, l.auto.index-end) in
    (first_or_none near_of due_from may_be_due_of (is_row_due m) k.rows.things k.rows.generations k.keys.keys k.deadlines k.busy m c.requires.seats (λ row. why_due m row below) slots c.slots-slots.ensures l.best
    (subst (λ (n : ℕ). IsBestOf near_of (is_row_due m) k.rows.things (IsLookedAt k.deadlines m slots n) l.best) all l.invariant)).1
