use Rattle.std.proofs.Common.{ℕ, Option, ◌∙◌, refl, sym, subst, ap}
use Rattle.std.specs.FinMap.{get}
use Rattle.startup.specs.State.{Attempts}
use Rattle.startup.specs.Indexed.{IsIndexed, IsPut, AreSized, number_word, tag_word}
use Rattle.startup.specs.Sought.{change_of, number_got}
use Rattle.startup.specs.Table.{Table}
use Rattle.startup.proofs.Indices.{changed_is_indexed, got_is_indexed, number_after, tag_stays}
use Rattle.startup.specs.Marks.{IsMarked, IsMarkedBut, AreOf, AreOfOthers}
use Rattle.startup.proofs.Marking.{whole_changed, but_changed}
use Rattle.startup.proofs.Owning.{changed_others, changed_are_of}
use Rattle.startup.proofs.Widths.{changed_are_sized, change_is_sized}
use Rattle.startup.proofs.indexed.IndexedAttempts.change.Goals as goal

pub invariant_of-self : goal.invariant_of-self
invariant_of-self c =
    let i = c.self.inside in
    subst (λ (x : Attempts). IsIndexed number_word i.numbers x × IsIndexed tag_word i.tags x × IsMarked i.cookies x × AreSized x × AreOf i.cookies.marks x) (sym c.change.ensures) (
      got_is_indexed number_word i.numbers i.numbers i.table.attempts c.self.invariant.0 c.args.near (number_got c.args.change.now) (change_of c.args.change.now c.args.moment)
          (subst (λ (o : Option ℕ). IsPut o c.args.near i.numbers i.numbers) (sym (c.keeps_mark.ensures.number c.if-keeps_mark.true)) refl) (number_after c.args.change.now c.args.moment),
      changed_is_indexed tag_word i.tags i.table.attempts c.self.invariant.1 c.args.near (change_of c.args.change.now c.args.moment) (tag_stays c.args.change.now c.args.moment),
      whole_changed i.cookies i.table.attempts c.args.near (change_of c.args.change.now c.args.moment) (λ a q. c.keeps_mark.ensures.marks c.if-keeps_mark.true c.args.moment a q) c.self.invariant.2,
      changed_are_sized i.table.attempts c.args.near c.self.invariant.3 (change_of c.args.change.now c.args.moment) (λ a there. change_is_sized c.args.change.now c.args.moment a (c.requires a (ap (λ (t : Table). get t.attempts c.args.near) (sym c.self.view_is) ∙ there))),
      changed_are_of i.cookies.marks i.table.attempts c.args.near (change_of c.args.change.now c.args.moment) (λ a q. c.keeps_mark.ensures.marks c.if-keeps_mark.true c.args.moment a q) c.self.invariant.4,
    )

pub mark-requires-clause-marked : goal.mark-requires-clause-marked
mark-requires-clause-marked c =
    subst (IsMarkedBut c.args.near c.unmark.new.marks) (sym c.change-2.ensures)
    (but_changed c.unmark.new.marks c.self.inside.table.attempts c.args.near (change_of c.args.change.now c.args.moment) c.unmark.ensures.marked)

pub mark-requires-clause-others : goal.mark-requires-clause-others
mark-requires-clause-others c =
    subst (AreOfOthers c.args.near c.unmark.new.marks.marks) (sym c.change-2.ensures)
    (changed_others c.unmark.new.marks.marks c.self.inside.table.attempts c.args.near (change_of c.args.change.now c.args.moment) c.unmark.ensures.others)

pub invariant_of-self-2 : goal.invariant_of-self-2
invariant_of-self-2 c =
    let i = c.self.inside in
    subst (λ (x : Attempts). IsIndexed number_word c.put.new.index x × IsIndexed tag_word i.tags x × IsMarked c.mark.new.marks x × AreSized x × AreOf c.mark.new.marks.marks x) (sym c.change-2.ensures) (
      got_is_indexed number_word i.numbers c.put.new.index i.table.attempts c.self.invariant.0 c.args.near (number_got c.args.change.now) (change_of c.args.change.now c.args.moment)
          (subst (λ (o : Option ℕ). IsPut o c.args.near i.numbers c.put.new.index) c.number_got.ensures c.put.ensures) (number_after c.args.change.now c.args.moment),
      changed_is_indexed tag_word i.tags i.table.attempts c.self.invariant.1 c.args.near (change_of c.args.change.now c.args.moment) (tag_stays c.args.change.now c.args.moment),
      subst (IsMarked c.mark.new.marks) c.change-2.ensures c.mark.ensures.marked,
      changed_are_sized i.table.attempts c.args.near c.self.invariant.3 (change_of c.args.change.now c.args.moment) (λ a there. change_is_sized c.args.change.now c.args.moment a (c.requires a (ap (λ (t : Table). get t.attempts c.args.near) (sym c.self.view_is) ∙ there))),
      subst (AreOf c.mark.new.marks.marks) c.change-2.ensures c.mark.ensures.own,
    )
