use Rattle.std.proofs.Common.{◌-◌, ◌≤◌, drop}
use Rattle.flow_send.specs.Passed.{AllAcked}
use Rattle.flow_send.proofs.rows.Rows.known_to.Given as goal

abbrev pub invariant-loop-at : goal.invariant-loop-at
invariant-loop-at l = record {
  order : l.from ≤ l.at;
  inside : l.at ≤ l.to;
  acked : AllAcked (l.at - l.from) (drop l.from l.self.rows);
}

abbrev pub decreases-loop-at : goal.decreases-loop-at
decreases-loop-at l = l.to - l.at
