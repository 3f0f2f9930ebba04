-- How far beyond the lowest missing number a receiver goes.
use Rattle.std.specs.Prelude.{ℕ, ◌≡◌, ◌+◌, ◌≤◌, true, None}
use Rattle.rtmfp_data_chunks.specs.Runs.{Chunk}
use Rattle.flow_recv.specs.Receiver.{Receiver, Apart, FromZero, knows, end_of_first, beyond_buffer}
use Rattle.flow_recv.specs.Receiver.{taken}

-- each number that isn't missing is at most 65,536 above the lowest missing one
abbrev pub IsWithin : Receiver → Type 0
IsWithin r = (n : ℕ) → knows r.spans n ≡ true → n ≤ end_of_first r.spans + 1 + 65536

abbrev pub KeepsWithin : Type 0
KeepsWithin = (r : Receiver) (c : Chunk) → Apart r.spans → FromZero r.spans → IsWithin r →
    beyond_buffer r c ≡ None → IsWithin (taken r c)
