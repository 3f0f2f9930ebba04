use Rattle.std.proofs.Common.{◌≤◌, subst}
use Rattle.glare_core.specs.Ledger.{row_count}
use Rattle.endpoint_model.specs.State.{State, uses}
use Rattle.endpoint.proofs.HeldThere.{few_uses, few_rows}
use Rattle.endpoint.proofs.endpoint.Endpoint.stays_within.Goals as goal

pub returns-clause-sessions : goal.returns-clause-sessions
returns-clause-sessions c = subst (λ (s : State). uses s ≤ s.config.max_sessions) c.self.view_is (few_uses c.self.inside.end c.self.invariant)

pub returns-clause-peers : goal.returns-clause-peers
returns-clause-peers c = subst (λ (s : State). row_count s.startup.ledger ≤ s.config.max_peers) c.self.view_is (few_rows c.self.inside.end c.self.invariant)
