use Rattle.std.proofs.Common.{◌≡◌, ◌<◌, length, sym, ◌∙◌, subst, arith}
use Rattle.std.proofs.lemmas.List.{length-map}
use Rattle.rendezvous_world.specs.Seen.{EndSeen, Seen, generation_at}
use Rattle.rendezvous_world.specs.Inside.{end_seen}
use Rattle.rendezvous_world.proofs.Pieces.{generation_there}
use Rattle.rendezvous_world.proofs.world.World.generation_at.Goals as goal

pub returns : goal.returns
returns c =
    let i = c.self.inside in
    let there : c.args.end < length i.ends.items = omega (arith, subst (λ (w : Seen). c.args.end < length w.ends) (sym c.self.view_is) c.requires, length-map {B = EndSeen} i.ends.items end_seen) in
    subst (λ (w : Seen). c.generation.result ≡ generation_at w.ends c.args.end) c.self.view_is
    (c.generation.ensures ∙ sym (generation_there i.ends.items c.args.end c.index-there.result.now c.index-there.ensures there))
