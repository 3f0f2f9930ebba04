use Rattle.std.proofs.Common.{◌<◌, ◌≡◌, length, rules, sym, subst}
use Rattle.keyed_slab.proofs.Placing.{covered}
use Rattle.keyed_slab.proofs.keyed_slab.KeyedSlab.bound.Goals as goal

pub returns : goal.returns
returns g c = λ slot there.
    let long : c.len.result ≡ length c.self.inside.generations.items = search rules in
    subst (λ n. slot < n) (sym long) (covered c.self.inside.places c.self.inside.generations.items c.args.self.now slot c.self.invariant c.self.view_is there)
