use Rattle.std.proofs.Common.{subst}
use Rattle.endpoint_laws.specs.Agreed.{IsAgreed}
use Rattle.rendezvous_world.specs.Seen.{group_secrets, Seen, setup_at}
use Rattle.rendezvous_world.specs.Handing.{MessagesGoOver}
use Rattle.rendezvous_world.specs.History.{history_of}
use Rattle.rendezvous_world.specs.Sound.{IsSound}
use Rattle.rendezvous_world.specs.Inside.{world_seen}
use Rattle.rendezvous_world.proofs.Sounds.{sound}
use Rattle.rendezvous_world.proofs.Agreeing.{agreed}
use Rattle.rendezvous_world.proofs.Handing.{hands_over}
use Rattle.rendezvous_world.proofs.world.World.keeps.Goals as goal

pub returns-clause-sound : goal.returns-clause-sound
returns-clause-sound c =
    let i = c.self.inside in
    subst (λ (w : Seen). IsSound w) c.self.view_is (sound (world_seen i.moment i.ends.items i.journal) c.self.invariant.world)

pub returns-clause-agreed : goal.returns-clause-agreed
returns-clause-agreed c =
    let i = c.self.inside in
    subst (λ (w : Seen). IsAgreed group_secrets (setup_at w.ends) (history_of w)) c.self.view_is (agreed (world_seen i.moment i.ends.items i.journal) c.self.invariant.world)

pub returns-clause-go_over : goal.returns-clause-go_over
returns-clause-go_over c =
    let i = c.self.inside in
    subst (λ (w : Seen). MessagesGoOver (setup_at w.ends) (history_of w)) c.self.view_is (hands_over (world_seen i.moment i.ends.items i.journal) c.self.invariant.world)
