use Rattle.std.proofs.Common.{◌≡◌, ◌∙◌, set, sym, ap, subst}
use Rattle.deadlines.specs.Deadlines.{Slots, deadline_set}
use Rattle.keyed_slab.specs.Seating.{IsKept}
use Rattle.keyed_slab.specs.SlotSet.{Flags}
use Rattle.keyed_slab.proofs.Seated.{free_there, settled}
use Rattle.session_table.specs.Inside.{due_from, may_be_due_of}
use Rattle.session_table.specs.Table.{near_of}
use Rattle.session_table.proofs.Rounds.{settled_awaits}
use Rattle.session_table.proofs.kept.Kept.settle.Goals as goal

pub set-requires-clause-free : goal.set-requires-clause-free
set-requires-clause-free c = λ other d n is same.
    let k = c.args.self.now in
    free_there near_of due_from may_be_due_of k.rows.things k.rows.generations k.keys.keys k.deadlines k.busy c.args.slot c.index-row.result.now c.requires.seats c.index-row.ensures other d n is (same ∙ c.near_of-near.ensures)

pub put-requires : goal.put-requires
put-requires c = c.requires.rises

pub returns-clause-kept : goal.returns-clause-kept
returns-clause-kept c =
    let k = c.args.self.now in
    let row = c.index-row.result.now in
    let timers : c.set.new.self ≡ deadline_set k.deadlines c.args.slot (due_from row) (near_of row) = c.set.ensures ∙ (λ i. deadline_set k.deadlines c.args.slot (c.deadline_of.ensures i) (c.near_of-near.ensures i)) in
    let marks : c.set-2.new.self ≡ set k.busy c.args.slot (may_be_due_of row) = c.set-2.ensures ∙ ap (set k.busy c.args.slot) c.may_be_due-is_busy.ensures in
    record {
      seats = subst (λ (d : Slots). IsKept near_of due_from may_be_due_of k.rows.things k.rows.generations k.keys.keys d c.set-2.new.self) (sym timers)
          (subst (λ (f : Flags). IsKept near_of due_from may_be_due_of k.rows.things k.rows.generations k.keys.keys (deadline_set k.deadlines c.args.slot (due_from row) (near_of row)) f) (sym marks)
          (settled near_of due_from may_be_due_of k.rows.things k.rows.generations k.keys.keys k.deadlines k.busy c.args.slot row c.requires.seats c.index-row.ensures));
      rises = c.put.ensures.rises;
      awaits = settled_awaits k.rows.things k.round c.put.new.self c.args.slot c.near_of-near.result row c.index-row.ensures c.near_of-near.ensures c.requires.awaits c.put.ensures.moment c.put.ensures.put c.put.ensures.rest;
    }
