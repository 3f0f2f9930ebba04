use Rattle.std.proofs.Common.{ℕ, List, sym, subst}
use Rattle.endpoint_model.specs.FlowTimes.{late_marked}
use Rattle.keyed_slab.specs.Seating.{IsKept}
use Rattle.keyed_slab.proofs.Walked.{changed_kept, changed_found}
use Rattle.session_table.specs.Inside.{due_from, may_be_due_of}
use Rattle.session_table.specs.Table.{near_of}
use Rattle.session_table.proofs.Late.{late_keeps}
use Rattle.session_table.proofs.Rounds.{begun_awaits, listed_stands}
use Rattle.session_table.proofs.LateKept.{late_deadline, late_may_be_due_of, late_idle}
use Rattle.session_table.proofs.kept.Kept.lose_late.Goals as goal

pub begin-requires : goal.begin-requires
begin-requires c =
    let k = c.args.self.now in
    let m = c.args.moment in
    let seats : IsKept near_of due_from may_be_due_of c.lose_in_slots.new.rows.things c.lose_in_slots.new.rows.generations k.keys.keys k.deadlines k.busy =
    subst (λ (g : List ℕ). IsKept near_of due_from may_be_due_of c.lose_in_slots.new.rows.things g k.keys.keys k.deadlines k.busy) (sym c.lose_in_slots.ensures.generations)
    (changed_kept near_of due_from may_be_due_of (late_marked m) k.rows.things c.lose_in_slots.new.rows.things k.rows.generations k.keys.keys k.deadlines k.busy c.slots.result.now c.requires.seats (late_keeps m) (late_deadline m) (late_may_be_due_of m) (late_idle m) c.slots.ensures c.lose_in_slots.ensures.things) in
    listed_stands c.lose_in_slots.new.rows.things k.busy c.slots-2.result.now seats.marked c.slots-2.ensures

pub returns-clause-kept : goal.returns-clause-kept
returns-clause-kept c =
    let k = c.args.self.now in
    let m = c.args.moment in
    let seats : IsKept near_of due_from may_be_due_of c.lose_in_slots.new.rows.things c.lose_in_slots.new.rows.generations k.keys.keys k.deadlines k.busy =
    subst (λ (g : List ℕ). IsKept near_of due_from may_be_due_of c.lose_in_slots.new.rows.things g k.keys.keys k.deadlines k.busy) (sym c.lose_in_slots.ensures.generations)
    (changed_kept near_of due_from may_be_due_of (late_marked m) k.rows.things c.lose_in_slots.new.rows.things k.rows.generations k.keys.keys k.deadlines k.busy c.slots.result.now c.requires.seats (late_keeps m) (late_deadline m) (late_may_be_due_of m) (late_idle m) c.slots.ensures c.lose_in_slots.ensures.things) in
    record {
      seats = seats;
      rises = c.begin.ensures.rises;
      awaits = begun_awaits c.lose_in_slots.new.rows.things k.busy c.slots-2.result.now seats.marked c.slots-2.ensures c.begin.new.self m c.ranges.moment.fits c.begin.ensures.moment c.begin.ensures.left;
    }

pub returns-clause-late : goal.returns-clause-late
returns-clause-late c =
    let k = c.args.self.now in
    let m = c.args.moment in
    changed_found near_of due_from may_be_due_of (late_marked m) k.rows.things c.lose_in_slots.new.rows.things k.rows.generations k.keys.keys k.deadlines k.busy c.slots.result.now c.requires.seats (late_keeps m) (late_deadline m) (late_may_be_due_of m) (late_idle m) c.slots.ensures c.lose_in_slots.ensures.things
