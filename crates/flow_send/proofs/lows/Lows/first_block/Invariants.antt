use Rattle.std.proofs.Common.{ℕ, ◌-◌, ◌≡◌, ◌≤◌, ◌<◌, false}
use Rattle.flow_send.specs.Lows.{low_at}
use Rattle.flow_send.specs.Marks.{marked_at}
use Rattle.flow_send.proofs.lows.Lows.first_block.Given as goal

abbrev pub invariant-loop-block : goal.invariant-loop-block
invariant-loop-block l = record {
  from : l.from ≤ l.block;
  passed : (b : ℕ) → l.from ≤ b → b < l.block → (l.moment ≤ low_at l.self b) × (marked_at l.marks b ≡ false);
}

abbrev pub decreases-loop-block : goal.decreases-loop-block
decreases-loop-block l = l.to - l.block
