use Rattle.std.proofs.Common.{◌≤◌, ◌∙◌, List, ℕ, length, ap, subst}
use Rattle.slab.specs.Slab.{Slab}
use Rattle.keyed_slab.specs.KeyedSlab.{generation_in}
use Rattle.keyed_slab.specs.declared.keyed_slab.Place.{Place}
use Rattle.keyed_slab.proofs.Placing.{is_reserved}
use Rattle.keyed_slab.proofs.keyed_slab.KeyedSlab.reserve.Goals as goal

pub returns-clause-call : goal.returns-clause-call
returns-clause-call g c =
    let i = c.self.inside in
    is_reserved i.places c.reserve.new.self i.generations.items c.args.self.now c.self.invariant c.self.view_is c.widen.new.generations.items
    (ap (λ (s : Slab (Place g.row.T.Denot)). s.slots) c.reserve.ensures.rest_kept) (subst (λ (l : List ℕ). length l ≤ length c.widen.new.generations.items) c.reserve-2.ensures.items c.widen.ensures.least)
    (λ k. c.widen.ensures.kept k ∙ ap (λ (l : List ℕ). generation_in l k) c.reserve-2.ensures.items)

pub returns-clause-generations : goal.returns-clause-generations
returns-clause-generations g c = (returns-clause-call g c).generations
