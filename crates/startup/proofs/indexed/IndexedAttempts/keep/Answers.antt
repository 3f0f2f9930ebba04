use Rattle.std.proofs.Common.{ℕ, Option, Some, ◌∙◌, sym, subst, ap}
use Rattle.std.specs.FinMap.{get}
use Rattle.startup.specs.State.{Attempts}
use Rattle.startup.specs.Table.{Table}
use Rattle.startup.specs.Indexed.{IsIndexed, IsPut, AreSized, number_word, tag_word}
use Rattle.startup.proofs.Indices.{put_is_indexed}
use Rattle.startup.specs.Marks.{IsMarked, IsMarkedBut, AreOf, AreOfOthers}
use Rattle.startup.proofs.Marking.{but_kept}
use Rattle.startup.proofs.Owning.{kept_others}
use Rattle.startup.proofs.Widths.{kept_are_sized}
use Rattle.startup.proofs.indexed.IndexedAttempts.keep.Goals as goal

pub invariant_of-self : goal.invariant_of-self
invariant_of-self c =
    let i = c.self.inside in
    let a = c.args.attempt in
    let number = c.word.ensures ∙ ap number_word c.attempt.view_is in
    let tag = ap (λ (w : ℕ). Some w) c.word_of.ensures ∙ ap tag_word c.attempt.view_is in
    subst (λ (x : Attempts). IsIndexed number_word c.put.new.index x × IsIndexed tag_word c.put-2.new.index x × IsMarked c.mark.new.marks x × AreSized x × AreOf c.mark.new.marks.marks x) (sym c.keep.ensures) (
      put_is_indexed number_word i.numbers c.put.new.index i.table.attempts c.self.invariant.0 c.args.near a
          (subst (λ (o : Option ℕ). IsPut o c.args.near i.numbers c.put.new.index) number c.put.ensures),
      put_is_indexed tag_word i.tags c.put-2.new.index i.table.attempts c.self.invariant.1 c.args.near a
          (subst (λ (o : Option ℕ). IsPut o c.args.near i.tags c.put-2.new.index) tag c.put-2.ensures),
      subst (IsMarked c.mark.new.marks) c.keep.ensures c.mark.ensures.marked,
      kept_are_sized i.table.attempts c.args.near c.self.invariant.3 a c.is_sized.ensures,
      subst (AreOf c.mark.new.marks.marks) c.keep.ensures c.mark.ensures.own,
    )

pub mark-requires-clause-marked : goal.mark-requires-clause-marked
mark-requires-clause-marked c = let i = c.self.inside in subst (IsMarkedBut c.args.near i.cookies) (sym c.keep.ensures) (but_kept i.cookies i.table.attempts c.args.near c.args.attempt c.self.invariant.2)

pub mark-requires-clause-others : goal.mark-requires-clause-others
mark-requires-clause-others c =
    let i = c.self.inside in
    subst (AreOfOthers c.args.near i.cookies.marks) (sym c.keep.ensures)
    (kept_others i.cookies.marks i.table.attempts c.args.near c.args.attempt (ap (λ (t : Table). get t.attempts c.args.near) c.self.view_is ∙ c.requires.free) c.self.invariant.4)
