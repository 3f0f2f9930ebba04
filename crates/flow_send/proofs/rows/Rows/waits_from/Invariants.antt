use Rattle.std.proofs.Common.{◌≡◌, not, false}
use Rattle.flow_send.specs.Rows.{any_between, is_settled}
use Rattle.flow_send.proofs.rows.Rows.waits_from.Given as goal

abbrev pub invariant-loop-at : goal.invariant-loop-at
invariant-loop-at l = any_between (λ r. not (is_settled r.state)) l.from l.at l.self.rows ≡ false
