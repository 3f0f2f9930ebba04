use Rattle.std.proofs.Common.{ℕ, ◌≤◌, List, length, sym, subst}
use Rattle.end_loops.proofs.walking.go_through_whole.Goals as goal

pub packet_at-requires : goal.packet_at-requires
packet_at-requires c = subst (λ (bytes : List ℕ). length bytes ≤ 4096) (sym c.as_slice.ensures) c.requires
