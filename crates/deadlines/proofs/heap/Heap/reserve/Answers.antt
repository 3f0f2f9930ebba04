use Rattle.std.proofs.Common.{◌≤◌, length, sym, subst, ap, arith}
use Rattle.deadlines.specs.Inside.{IsHeap, key_of, keys_of}
use Rattle.deadlines.proofs.Keeping.{heap_same}
use Rattle.deadlines.proofs.heap.Heap.reserve.Goals as goal

pub invariant_of-self-2 : goal.invariant_of-self-2
invariant_of-self-2 c =
    let d = c.self.inside in
    let e-same = c.in-Ok.ensures.items in
    let p-same = c.in-Ok-reserve.ensures.items in
    let kept = c.self.invariant in
    let grown = c.widen.ensures.grown in
    let fits : d.count ≤ length c.reserve-2.new.self.items = rw p-same kept.fits in
    let heap : IsHeap (keys_of d.by c.reserve.new.self.items) d.count = subst (λ e. IsHeap (keys_of d.by e) d.count) (sym e-same) kept.heap in
    record {
      tied = c.widen.ensures.tied;
      fits = omega (arith, fits, grown);
      heap = heap_same (keys_of d.by c.reserve.new.self.items) (keys_of d.by c.widen.new.entries.items) d.count (λ j l. ap (key_of d.by) (c.widen.ensures.kept j (omega (arith, l, fits)))) heap;
    }
