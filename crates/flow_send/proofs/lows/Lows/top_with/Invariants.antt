use Rattle.std.proofs.Common.{ℕ, ◌≢◌, ◌≤◌, ◌<◌, get_or}
use Rattle.flow_send.proofs.lows.Lows.top_with.Given as goal

abbrev pub invariant-loop-other : goal.invariant-loop-other
invariant-loop-other l = record {
  own : l.top ≤ l.low;
  others : (i : ℕ) → l.first ≤ i → i < l.other → i ≢ l.place → l.top ≤ get_or l.self i 18446744073709551615;
}
