use Rattle.std.proofs.Common.{sym, subst}
use Rattle.startup.specs.Table.{Table}
use Rattle.startup.specs.Indexed.{IsIndexed, AreSized, number_word, tag_word}
use Rattle.startup.specs.Marks.{IsMarked, AreOf}
use Rattle.startup.proofs.indexed.IndexedAttempts.advance.Goals as goal

pub invariant_of-self : goal.invariant_of-self
invariant_of-self c =
    let i = c.self.inside in
    subst (λ (t : Table). IsIndexed number_word i.numbers t.attempts × IsIndexed tag_word i.tags t.attempts × IsMarked i.cookies t.attempts × AreSized t.attempts × AreOf i.cookies.marks t.attempts) (sym c.advance.ensures) c.self.invariant
