use Rattle.std.proofs.Common.{ap, ◌∙◌}
use Rattle.glare_core.specs.Ledger.{floor_of}
use Rattle.glare_core.proofs.Accounts.{reads_floor}
use Rattle.glare_core.proofs.peers.Peers.floor.Goals as goal

pub returns-clause-facts : goal.returns-clause-facts
returns-clause-facts c = λ from facts stands.
    c.seat.ensures.floor ∙ ap (λ l. floor_of l c.args.peer.now) c.self.view_is ∙ reads_floor from c.args.self.now facts stands c.args.peer.now
