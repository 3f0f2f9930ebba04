use Rattle.std.proofs.Common.{ℕ, ◌≡◌, ◌%◌, ◌+◌, ◌-◌, ◌<◌, false, length}
use Rattle.flow_send.specs.Rows.{row_at}
use Rattle.flow_send.specs.Finder.{is_pending, block_at}
use Rattle.flow_send.proofs.finder.Finder.any_with_mark.Given as goal

abbrev pub invariant-loop-block : goal.invariant-loop-block
invariant-loop-block l = record {
  shared : l.block % 2176 ≡ block_at l.self l.at % 2176;
  looked : (i : ℕ) → i < length l.rows.items → block_at l.self i % 2176 ≡ block_at l.self l.at % 2176 → block_at l.self i < l.block → is_pending l.pending (row_at l.rows.items i).state ≡ false;
}

abbrev pub decreases-loop-block : goal.decreases-loop-block
decreases-loop-block l = l.last + 1 - l.block
