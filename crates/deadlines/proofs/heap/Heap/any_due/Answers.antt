use Rattle.std.proofs.Common.{◌<◌, ◌∙◌, length, subst, sym, arith}
use Rattle.std.proofs.lemmas.List.{get_or_default}
use Rattle.deadlines.specs.Inside.{NoneBelow, IsDuePlace, blank}
use Rattle.deadlines.specs.Deadlines.{NoneIsDue}
use Rattle.deadlines.specs.Halves.{IsDueIn}
use Rattle.deadlines.proofs.Finding.{none_due, due_in}
use Rattle.deadlines.proofs.heap.Heap.any_due.Goals as goal

pub returns-in-None-clause-none : goal.returns-in-None-clause-none
returns-in-None-clause-none c = subst (λ v. NoneIsDue v c.args.moment) c.self.view_is
    (none_due c.self.inside.entries.items c.self.inside.places.items c.self.inside.count c.args.moment (subst (λ e. NoneBelow e c.self.inside.count c.args.moment 0) c.deref.ensures.value c.in-None.ensures.none))

pub returns-in-Some-clause-some : goal.returns-in-Some-clause-some
returns-in-Some-clause-some c =
    let e = c.self.inside.entries.items in
    let n = c.self.inside.count in
    let low : IsDuePlace e n c.args.moment c.in-Some.place = subst (λ e. IsDuePlace e n c.args.moment c.in-Some.place) c.deref.ensures.value c.in-Some.ensures.some in
    let next = due_in c.self.inside.by e c.self.inside.places.items n c.args.moment c.in-Some.place c.self.invariant low in
    let within : c.in-Some.place < length e = omega (arith, low.inside, c.self.invariant.fits, c.self.invariant.tied.long) in
    let read = c.index.ensures ∙ get_or_default e c.in-Some.place c.index.result.now blank within in
    subst (λ v. IsDueIn v c.args.moment c.index.result.now) c.self.view_is (subst (IsDueIn _ c.args.moment) (sym read) next)
