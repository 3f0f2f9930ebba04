use Rattle.std.proofs.Common.{ℕ, List, sym, subst, take}
use Rattle.keyed_slab.specs.SlotSet.{AreListed, Flags, flags_of}
use Rattle.keyed_slab.proofs.Slots.{first_listed}
use Rattle.keyed_slab.proofs.slot_set.SlotSet.slots.Goals as goal

pub returns : goal.returns
returns c =
    let i = c.self.inside in
    subst (λ (f : Flags). AreListed f (take i.count c.deref.result.now)) c.self.view_is
    (subst (λ (s : List ℕ). AreListed (flags_of i.places.items i.count) (take i.count s)) (sym c.deref.ensures.value) (first_listed i.slots.items i.places.items i.count c.self.invariant.0 c.self.invariant.1))
