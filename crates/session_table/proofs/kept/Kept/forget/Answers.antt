use Rattle.std.proofs.Common.{◌∙◌, sym, ap, subst}
use Rattle.std.specs.FinMap.{remove}
use Rattle.std.proofs.lemmas.Option.{same_Some}
use Rattle.deadlines.specs.Deadlines.{Slots, deadline_cleared}
use Rattle.keyed_slab.specs.Seating.{IsKept}
use Rattle.keyed_slab.specs.SlotSet.{Flags}
use Rattle.keyed_slab.proofs.Seated.{left_kept, is_left}
use Rattle.session_table.specs.Inside.{due_from, rows_in, may_be_due_of}
use Rattle.session_table.specs.Table.{near_of}
use Rattle.session_table.proofs.Rounds.{gone_awaits}
use Rattle.session_table.proofs.kept.Kept.forget.Goals as goal

pub returns-clause-kept : goal.returns-clause-kept
returns-clause-kept c =
    let k = c.args.self.now in
    let left = c.take.ensures.rest ∙ ap (remove k.keys.keys) c.near_of-near.ensures in
    record {
      seats = subst (λ (d : Slots). IsKept near_of due_from may_be_due_of c.remove.new.self.things c.remove.new.self.generations c.take.new.self.keys d c.set.new.self) (sym c.clear.ensures)
          (subst (λ (f : Flags). IsKept near_of due_from may_be_due_of c.remove.new.self.things c.remove.new.self.generations c.take.new.self.keys (deadline_cleared k.deadlines c.args.slot) f) (sym c.set.ensures)
          (left_kept near_of due_from may_be_due_of k.rows.things k.rows.generations k.keys.keys k.deadlines k.busy c.remove.new.self.things c.take.new.self.keys c.remove.new.self.generations c.args.slot c.index.result.now c.requires.kept.seats c.index.ensures c.remove.ensures.things c.remove.ensures.generations left));
      rises = c.requires.kept.rises;
      awaits = gone_awaits k.rows.things c.remove.new.self.things c.args.slot k.round c.remove.ensures.things c.requires.kept.awaits;
    }

pub returns-clause-table : goal.returns-clause-table
returns-clause-table c = λ row at.
    let k = c.args.self.now in
    let left = c.take.ensures.rest ∙ ap (remove k.keys.keys) c.near_of-near.ensures in
    is_left near_of k.rows.things c.remove.new.self.things k.rows.generations k.keys.keys c.args.slot c.requires.kept.seats.names c.index.result.now c.take.new.self.keys c.remove.new.self.generations c.index.ensures c.remove.ensures.things c.remove.ensures.generations left
    ∙ ap (λ r. remove (rows_in k.rows) (near_of r)) (same_Some c.index.result.now row (sym c.index.ensures ∙ at))
