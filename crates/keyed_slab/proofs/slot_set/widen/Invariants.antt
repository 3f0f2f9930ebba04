use Rattle.std.proofs.Common.{◌≡◌, ◌≤◌, ◌-◌, ℕ, length, vec_len, vec_capacity}
use Rattle.keyed_slab.specs.SlotSet.{IsTied, flag_of, flags_of}
use Rattle.keyed_slab.proofs.slot_set.widen.Given as goal

abbrev pub invariant-loop-places : goal.invariant-loop-places
invariant-loop-places l = IsTied l.slots.items l.places.items × (l.room ≤ vec_capacity l.slots) × (l.room ≤ vec_capacity l.places)
    × (length l.initial.places.items ≤ length l.places.items)
    × ((count slot : ℕ) → count ≤ length l.initial.places.items → flag_of (flags_of l.places.items count) slot ≡ flag_of (flags_of l.initial.places.items count) slot)

abbrev pub decreases-loop-places : goal.decreases-loop-places
decreases-loop-places l = l.room - vec_len l.places
