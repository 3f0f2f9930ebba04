use Rattle.std.proofs.Common.{ap, ◌∙◌}
use Rattle.glare_core.specs.Ledger.{held_with}
use Rattle.glare_core.proofs.Accounts.{reads_held}
use Rattle.glare_core.proofs.peers.Peers.held.Goals as goal

pub returns-clause-held : goal.returns-clause-held
returns-clause-held c = c.held.ensures ∙ ap (λ l. held_with l c.args.peer.now) c.self.view_is

pub returns-clause-facts : goal.returns-clause-facts
returns-clause-facts c = λ from facts stands. returns-clause-held c ∙ reads_held from c.args.self.now facts stands c.args.peer.now
