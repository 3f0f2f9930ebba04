use Rattle.std.proofs.Common.{rules, ◌≡◌, ◌∙◌}
use Rattle.keyed_slab.specs.KeyedSlab.{generation_in}
use Rattle.keyed_slab.proofs.Placing.{standing}
use Rattle.keyed_slab.proofs.keyed_slab.KeyedSlab.generation.Goals as goal

pub returns-in-Some : goal.returns-in-Some
returns-in-Some g c stood =
    let i = c.self.inside in
    let kept : c.in-Some.generation.now ≡ generation_in i.generations.items c.args.slot = search rules in
    kept ∙ standing i.places i.generations.items c.args.self.now c.args.slot c.self.invariant c.self.view_is stood

pub returns-in-None : goal.returns-in-None
returns-in-None g c stood =
    let i = c.self.inside in
    let kept : 0 ≡ generation_in i.generations.items c.args.slot = search rules in
    kept ∙ standing i.places i.generations.items c.args.self.now c.args.slot c.self.invariant c.self.view_is stood
