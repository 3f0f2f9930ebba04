use Rattle.std.proofs.Common.{rules, ◌<◌, ◌∙◌, length, ap}
use Rattle.std.proofs.lemmas.List.{get_or_default}
use Rattle.keyed_slab.specs.KeyedSlab.{Seats}
use Rattle.keyed_slab.specs.Inside.{generation_of}
use Rattle.keyed_slab.proofs.Generations.{unspent}
use Rattle.keyed_slab.proofs.Placing.{is_put}
use Rattle.keyed_slab.proofs.keyed_slab.KeyedSlab.put.Goals as goal

pub returns-clause-call : goal.returns-clause-call
returns-clause-call g c =
    let i = c.self.inside in
    let inside : c.insert_reserved-slot.result < length i.generations.items = search rules in
    is_put i.places c.insert_reserved-slot.new.self i.generations.items c.args.self.now c.self.invariant c.self.view_is c.args.thing
    (record { slot = c.insert_reserved-slot.result; generation = c.index-generation.result.now }) c.insert_reserved-slot.ensures.was_vacant c.insert_reserved-slot.ensures.updates.changed c.insert_reserved-slot.ensures.updates.others
    (c.index-generation.ensures ∙ get_or_default i.generations.items c.insert_reserved-slot.result c.index-generation.result.now 0 inside)

pub returns-clause-things : goal.returns-clause-things
returns-clause-things g c = (returns-clause-call g c).things

pub returns-clause-generation : goal.returns-clause-generation
returns-clause-generation g c = (returns-clause-call g c).generation

pub returns-clause-generations : goal.returns-clause-generations
returns-clause-generations g c =
    let i = c.self.inside in
    unspent i.places.slots c.insert_reserved-slot.new.self.slots i.generations.items c.insert_reserved-slot.result c.args.thing (λ k. ap (λ o. generation_of o k) c.insert_reserved-slot.ensures.was_vacant)
    c.insert_reserved-slot.ensures.updates.changed c.insert_reserved-slot.ensures.updates.others ∙ ap (λ (s : Seats g.row.T.Denot). s.generations) c.self.view_is
