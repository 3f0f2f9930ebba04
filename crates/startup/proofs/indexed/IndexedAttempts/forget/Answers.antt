use Rattle.std.proofs.Common.{ℕ, Option, Some, ◌∙◌, sym, subst, ap}
use Rattle.startup.specs.State.{Attempts}
use Rattle.startup.specs.Indexed.{IsIndexed, IsTaken, AreSized, number_word, tag_word}
use Rattle.startup.proofs.Indices.{left_is_indexed, gone_is_indexed}
use Rattle.startup.specs.Marks.{IsMarked, AreOf}
use Rattle.startup.proofs.Marking.{whole_left}
use Rattle.startup.proofs.Owning.{left_are_of}
use Rattle.startup.proofs.Widths.{left_are_sized}
use Rattle.startup.proofs.indexed.IndexedAttempts.forget.Goals as goal

pub invariant_of-self : goal.invariant_of-self
invariant_of-self c =
    let i = c.self.inside in
    subst (λ (x : Attempts). IsIndexed number_word i.numbers x × IsIndexed tag_word i.tags x × IsMarked c.unmark.new.marks x × AreSized x × AreOf c.unmark.new.marks.marks x) (sym c.forget.ensures)
    (left_is_indexed number_word i.numbers i.table.attempts c.self.invariant.0 c.args.near, left_is_indexed tag_word i.tags i.table.attempts c.self.invariant.1 c.args.near, whole_left c.unmark.new.marks i.table.attempts c.args.near c.unmark.ensures.marked, left_are_sized i.table.attempts c.args.near c.self.invariant.3, left_are_of c.unmark.new.marks.marks i.table.attempts c.args.near c.unmark.ensures.others)

pub invariant_of-self-2 : goal.invariant_of-self-2
invariant_of-self-2 c =
    let i = c.self.inside in
    let a = c.in-Some.attempt.now in
    subst (λ (x : Attempts). IsIndexed number_word c.take.new.index x × IsIndexed tag_word c.take-2.new.index x × IsMarked c.unmark.new.marks x × AreSized x × AreOf c.unmark.new.marks.marks x) (sym c.forget-2.ensures) (
      gone_is_indexed number_word i.numbers c.take.new.index i.table.attempts c.self.invariant.0 c.args.near a (sym c.in-Some.ensures)
          (subst (λ (o : Option ℕ). IsTaken o i.numbers c.take.new.index) (c.word.ensures ∙ ap number_word c.attempt.view_is) c.take.ensures),
      gone_is_indexed tag_word i.tags c.take-2.new.index i.table.attempts c.self.invariant.1 c.args.near a (sym c.in-Some.ensures)
          (subst (λ (o : Option ℕ). IsTaken o i.tags c.take-2.new.index) (ap (λ (w : ℕ). Some w) c.word_of.ensures ∙ ap tag_word c.attempt.view_is) c.take-2.ensures),
      whole_left c.unmark.new.marks i.table.attempts c.args.near c.unmark.ensures.marked,
      left_are_sized i.table.attempts c.args.near c.self.invariant.3,
      left_are_of c.unmark.new.marks.marks i.table.attempts c.args.near c.unmark.ensures.others,
    )
