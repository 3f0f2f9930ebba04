use Rattle.std.proofs.Common.{◌∙◌, sym, ap, subst}
use Rattle.std.specs.FinMap.{get}
use Rattle.startup.specs.State.{Attempts}
use Rattle.startup.specs.Indexed.{IsIndexed, AreSized, number_word, tag_word}
use Rattle.startup.specs.Marks.{IsMarked, AreOf}
use Rattle.startup.proofs.Marking.{marked_is}
use Rattle.startup.proofs.indexed.IndexedAttempts.reserve.Goals as goal

pub invariant_of-self : goal.invariant_of-self
invariant_of-self c =
    (λ whole near a w there has. ap (λ m. get m w) c.reserve.ensures.nears ∙ c.self.invariant.0 (sym c.reserve.ensures.whole ∙ whole) near a w there has, c.self.invariant.1, c.self.invariant.2, c.self.invariant.3, c.self.invariant.4)

pub invariant_of-self-2 : goal.invariant_of-self-2
invariant_of-self-2 c =
    let i = c.self.inside in
    subst (λ (x : Attempts). IsIndexed number_word c.reserve.new.self x × IsIndexed tag_word c.reserve-2.new.self x × IsMarked c.reserve-3.new.self x × AreSized x × AreOf c.reserve-3.new.self.marks x) (sym c.reserve-4.ensures.attempts) (
      (λ whole near a w there has. ap (λ m. get m w) c.reserve.ensures.nears ∙ c.self.invariant.0 (sym c.reserve.ensures.whole ∙ whole) near a w there has),
      (λ whole near a w there has. ap (λ m. get m w) c.reserve-2.ensures.nears ∙ c.self.invariant.1 (sym c.reserve-2.ensures.whole ∙ whole) near a w there has),
      marked_is i.cookies c.reserve-3.new.self i.table.attempts c.reserve-3.ensures.marks c.reserve-3.ensures.whole c.self.invariant.2,
      c.self.invariant.3,
      subst (λ l. AreOf l i.table.attempts) (sym c.reserve-3.ensures.marks) c.self.invariant.4,
    )
