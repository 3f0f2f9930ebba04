use Rattle.std.proofs.Common.{subst}
use Rattle.endpoint_laws.specs.Agreed.{IsAgreed}
use Rattle.rendezvous_world.specs.Seen.{group_secrets, setup_at}
use Rattle.rendezvous_world.specs.History.{history_of}
use Rattle.placed_world.specs.Seen.{PlacedSeen}
use Rattle.placed_world.proofs.world.PlacedWorld.keeps.Goals as goal

pub returns-clause-agreed : goal.returns-clause-agreed
returns-clause-agreed c =
    subst (λ (p : PlacedSeen). IsAgreed group_secrets (setup_at p.world.ends) (history_of p.world)) c.self.view_is c.journal-journal.ensures.agreed
