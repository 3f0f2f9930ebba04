use Rattle.std.proofs.Common.{◌+◌, ◌∙◌, refl, ap, arith}
use Rattle.deadlines.specs.Deadlines.{Slots, entry_of}
use Rattle.deadlines.proofs.Keeping.{entry_in_room}
use Rattle.keyed_slab.proofs.Seated.{wider_kept}
use Rattle.session_table.specs.Inside.{due_from, may_be_due_of}
use Rattle.session_table.specs.Table.{near_of}
use Rattle.session_table.proofs.Rounds.{same_awaits, same_rises}
use Rattle.session_table.proofs.kept.Kept.find_room.Goals as goal

pub returns-in_err-last-clause-kept : goal.returns-in_err-last-clause-kept
returns-in_err-last-clause-kept c =
    let k = c.args.self.now in
    record {
      seats = wider_kept near_of due_from may_be_due_of k.rows.things k.rows.generations k.keys.keys k.deadlines k.busy _ _ _ _ _ c.requires.kept.seats c.reserve-2.ensures.things c.reserve-2.ensures.generations c.reserve.ensures.keys
          (λ _. refl) (λ _. refl) (omega arith);
      rises = same_rises k.round k.round refl refl c.requires.kept.rises;
      awaits = same_awaits k.rows.things c.reserve-2.new.self.things k.round k.round c.reserve-2.ensures.things refl refl refl c.requires.kept.awaits;
    }

pub returns-in_err-reserve-2-clause-kept : goal.returns-in_err-reserve-2-clause-kept
returns-in_err-reserve-2-clause-kept c =
    let k = c.args.self.now in
    record {
      seats = wider_kept near_of due_from may_be_due_of k.rows.things k.rows.generations k.keys.keys k.deadlines k.busy _ _ _ _ _ c.requires.kept.seats c.reserve-2.ensures.things c.reserve-2.ensures.generations c.reserve.ensures.keys
          (λ slot. ap (λ (d : Slots). entry_of d slot) c.in_err-reserve-2.ensures.err) (λ _. refl) (omega arith);
      rises = same_rises k.round k.round refl refl c.requires.kept.rises;
      awaits = same_awaits k.rows.things c.reserve-2.new.self.things k.round k.round c.reserve-2.ensures.things refl refl refl c.requires.kept.awaits;
    }

pub returns-in_err-reserve-3-clause-kept : goal.returns-in_err-reserve-3-clause-kept
returns-in_err-reserve-3-clause-kept c =
    let k = c.args.self.now in
    record {
      seats = wider_kept near_of due_from may_be_due_of k.rows.things k.rows.generations k.keys.keys k.deadlines k.busy _ _ _ _ _ c.requires.kept.seats c.reserve-2.ensures.things c.reserve-2.ensures.generations c.reserve.ensures.keys
          (λ slot. ap (λ (d : Slots). entry_of d slot) c.in_ok-reserve-2.ensures.ok ∙ entry_in_room k.deadlines (c.in_ok-last.last + 1) slot) c.reserve-4.ensures.flags c.reserve-4.ensures.grown;
      rises = same_rises k.round k.round refl refl c.requires.kept.rises;
      awaits = same_awaits k.rows.things c.reserve-2.new.self.things k.round k.round c.reserve-2.ensures.things refl refl refl c.requires.kept.awaits;
    }

pub returns-clause-kept : goal.returns-clause-kept
returns-clause-kept c =
    let k = c.args.self.now in
    record {
      seats = wider_kept near_of due_from may_be_due_of k.rows.things k.rows.generations k.keys.keys k.deadlines k.busy _ _ _ _ _ c.requires.kept.seats c.reserve-2.ensures.things c.reserve-2.ensures.generations c.reserve.ensures.keys
          (λ slot. ap (λ (d : Slots). entry_of d slot) c.in_ok-reserve-2.ensures.ok ∙ entry_in_room k.deadlines (c.in_ok-last.last + 1) slot) c.reserve-4.ensures.flags c.reserve-4.ensures.grown;
      rises = same_rises k.round c.reserve-5.new.self c.reserve-5.ensures.nears c.reserve-5.ensures.next c.requires.kept.rises;
      awaits = same_awaits k.rows.things c.reserve-2.new.self.things k.round c.reserve-5.new.self c.reserve-2.ensures.things c.reserve-5.ensures.moment c.reserve-5.ensures.nears c.reserve-5.ensures.next c.requires.kept.awaits;
    }
