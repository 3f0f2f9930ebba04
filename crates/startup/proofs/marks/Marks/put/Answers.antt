use Rattle.std.proofs.Common.{◌≡◌, ◌<◌, ◌+◌, false, List, length, vec_capacity, refl, sym, subst, arith}
use Rattle.startup.specs.declared.marks.Mark.{Mark}
use Rattle.startup.specs.Marks.{Marked, IsPlace, Stands, is_whole_then, mark_at, no_mark}
use Rattle.startup.proofs.Marking.{rest_stands, full_is_not_whole}
use Rattle.startup.proofs.Rising.{put_rises}
use Rattle.startup.proofs.marks.Marks.put.Goals as goal

pub invariant_of-self-2 : goal.invariant_of-self-2
invariant_of-self-2 c =
    let old = c.self.inside.marks.items in
    let new = c.insert.new.self.items in
    let at = c.place-at.result in
    let spot : IsPlace old c.args.mark at = subst (λ (l : List Mark). IsPlace l c.args.mark at) c.as_slice.ensures.value c.place-at.ensures in
    let longer : length new ≡ length old + 1 = omega (arith, c.in-Ok.ensures.len, c.self.inside.marks.ok.0, c.insert.new.self.ok.0) in
    put_rises old c.args.mark at spot c.self.invariant new (λ k lt. c.in-Ok.ensures.by_index.1 k no_mark lt) longer (c.in-Ok.ensures.by_index.0 no_mark refl) (λ k gt. c.in-Ok.ensures.by_index.2 k no_mark refl gt)
    (subst (λ (l : List Mark). at < length l → mark_at l at ≡ c.args.mark → ⊥) c.as_slice-2.ensures.value (c.stands_at.ensures.no c.if-stands_at.false))

pub returns-clause-rest : goal.returns-clause-rest
returns-clause-rest c other was =
    let old = c.self.inside.marks.items in
    let new = c.insert.new.self.items in
    let longer : length new ≡ length old + 1 = omega (arith, c.in-Ok.ensures.len, c.self.inside.marks.ok.0, c.insert.new.self.ok.0) in
    rest_stands old new c.place-at.result longer (λ k lt. c.in-Ok.ensures.by_index.1 k no_mark lt) (λ k gt. c.in-Ok.ensures.by_index.2 k no_mark refl gt) other
    (subst (λ (m : Marked). Stands m.marks other) (sym c.self.view_is) was)

pub returns-then-len-capacity-clause-whole : goal.returns-then-len-capacity-clause-whole
returns-then-len-capacity-clause-whole c =
    let m : Marked = record { marks = c.self.inside.marks.items; whole = c.self.inside.whole; room = vec_capacity c.self.inside.marks } in
    subst (λ (n : Marked). false ≡ is_whole_then n) c.self.view_is
    (full_is_not_whole m (omega (arith, c.if-len-capacity.true, c.capacity.ensures, c.len.ensures, c.self.inside.marks.ok.0)))
