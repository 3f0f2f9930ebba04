use Rattle.std.proofs.Common.{◌∙◌, length, sym, ap}
use Rattle.deadlines.specs.Inside.{IsKept}
use Rattle.deadlines.proofs.Keeping.{whole}
use Rattle.deadlines.proofs.heap.Heap.set.Goals as goal

pub invariant_of-self : goal.invariant_of-self
invariant_of-self c =
    let d = c.self.inside in
    let made = c.put-self-inside in
    let long-places = made.ensures.long ∙ ap length c.deref_mut-2.ensures.value in
    let long-entries = made.ensures.tied.long ∙ long-places ∙ sym c.self.invariant.tied.long in
    let kept : IsKept d.by made.new.entries made.new.places made.result = record { tied = made.ensures.tied; fits = made.ensures.fits; heap = made.ensures.heap } in
    rw (whole d.entries.items made.new.entries d.entries.len d.entries.ok.0 long-entries, whole d.places.items made.new.places d.places.len d.places.ok.0 long-places) kept
