use Rattle.std.proofs.Common.{ap, ◌∙◌}
use Rattle.glare_core.specs.Ledger.{knows}
use Rattle.glare_core.proofs.Accounts.{reads_knows}
use Rattle.glare_core.proofs.peers.Peers.knows.Goals as goal

pub returns-clause-facts : goal.returns-clause-facts
returns-clause-facts c = λ from facts stands.
    c.seat.ensures.known ∙ ap (λ l. knows l c.args.peer.now) c.self.view_is ∙ reads_knows from c.args.self.now facts stands c.args.peer.now
