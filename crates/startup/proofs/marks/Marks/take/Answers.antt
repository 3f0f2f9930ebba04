use Rattle.std.proofs.Common.{◌≡◌, ◌<◌, ◌+◌, List, length, sym, subst, arith}
use Rattle.startup.specs.declared.marks.Mark.{Mark}
use Rattle.startup.specs.Marks.{Marked, IsPlace, Stands, mark_at, no_mark}
use Rattle.startup.proofs.Rising.{taken_rises, taken_rest}
use Rattle.startup.proofs.marks.Marks.take.Goals as goal

pub invariant_of-self : goal.invariant_of-self
invariant_of-self c =
    let old = c.self.inside.marks.items in
    let new = c.remove-gone.new.self.items in
    let at = c.place-at.result in
    let spot : IsPlace old c.args.mark at = subst (λ (l : List Mark). IsPlace l c.args.mark at) c.as_slice.ensures.value c.place-at.ensures in
    let shorter : length new + 1 ≡ length old = omega (arith, c.remove-gone.ensures.len, c.self.inside.marks.ok.0, c.remove-gone.new.self.ok.0) in
    taken_rises old c.args.mark at spot c.self.invariant new (λ k lt. c.remove-gone.ensures.by_index.0 k no_mark lt) shorter (λ k le. c.remove-gone.ensures.by_index.1 k no_mark le)

pub returns-then-stands_at-clause-rest : goal.returns-then-stands_at-clause-rest
returns-then-stands_at-clause-rest c other apart was =
    let old = c.self.inside.marks.items in
    let new = c.remove-gone.new.self.items in
    let at = c.place-at.result in
    let spot : IsPlace old c.args.mark at = subst (λ (l : List Mark). IsPlace l c.args.mark at) c.as_slice.ensures.value c.place-at.ensures in
    let shorter : length new + 1 ≡ length old = omega (arith, c.remove-gone.ensures.len, c.self.inside.marks.ok.0, c.remove-gone.new.self.ok.0) in
    let there : at < length old = subst (λ (l : List Mark). at < length l) c.as_slice-2.ensures.value (c.stands_at.ensures.there c.if-stands_at.true) in
    let is : mark_at old at ≡ c.args.mark = subst (λ (l : List Mark). mark_at l at ≡ c.args.mark) c.as_slice-2.ensures.value (c.stands_at.ensures.yes c.if-stands_at.true) in
    taken_rest old c.args.mark at spot c.self.invariant new (λ k lt. c.remove-gone.ensures.by_index.0 k no_mark lt) shorter (λ k le. c.remove-gone.ensures.by_index.1 k no_mark le) there is other apart
    (subst (λ (m : Marked). Stands m.marks other) (sym c.self.view_is) was)
