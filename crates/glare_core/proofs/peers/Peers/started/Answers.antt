use Rattle.std.proofs.Common.{ap, ◌∙◌}
use Rattle.glare_core.specs.Ledger.{Ledger}
use Rattle.glare_core.proofs.Accounts.{reads_started}
use Rattle.glare_core.proofs.peers.Peers.started.Goals as goal

pub returns-clause-facts : goal.returns-clause-facts
returns-clause-facts c = λ from facts stands. ap (λ (l : Ledger). l.started) c.self.view_is ∙ reads_started from c.args.self.now facts stands
