use Rattle.std.proofs.Common.{◌≡◌, ◌≤◌, ◌-◌, ◌⊎◌, ℕ, length, vec_len, vec_capacity, slice_index_or}
use Rattle.keyed_slab.proofs.keyed_slab.widen.Given as goal

abbrev pub invariant-loop-generations : goal.invariant-loop-generations
invariant-loop-generations l = (l.room ≤ vec_capacity l.generations) × (length l.initial.generations.items ≤ length l.generations.items)
    × ((length l.generations.items ≡ length l.initial.generations.items) ⊎ (length l.generations.items ≤ l.room))
    × ((slot : ℕ) → slice_index_or l.generations.items slot 0 ≡ slice_index_or l.initial.generations.items slot 0)

abbrev pub decreases-loop-generations : goal.decreases-loop-generations
decreases-loop-generations l = l.room - vec_len l.generations
