use Rattle.rendezvous_world.proofs.Pieces.{kept_moment}
use Rattle.rendezvous_world.proofs.world.World.set_moment.Goals as goal

pub invariant_of-self : goal.invariant_of-self
invariant_of-self c =
    let i = c.self.inside in
    kept_moment i.moment c.args.moment i.ends.items i.named i.journal i.starts.items i.sent i.keyed c.if-moment-self.false c.self.invariant
