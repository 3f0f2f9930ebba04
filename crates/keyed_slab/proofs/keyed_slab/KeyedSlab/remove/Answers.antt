use Rattle.std.proofs.Common.{rules, ◌≡◌, ◌<◌, ◌+◌, ◌∙◌, ℕ, List, Some, None, length, get_or, slice_set, refl, sym, ap}
use Rattle.std.proofs.lemmas.List.{length-set, get_or-set_same, get_or-set_other, get_or_default}
use Rattle.keyed_slab.specs.KeyedSlab.{generation_in}
use Rattle.keyed_slab.specs.Inside.{place_in}
use Rattle.keyed_slab.specs.declared.keyed_slab.Place.TheVariants.{Spent}
use Rattle.keyed_slab.proofs.Placing.{covered, is_removed}
use Rattle.keyed_slab.proofs.keyed_slab.KeyedSlab.remove.Goals as goal

pub overflow_add-generation : goal.overflow_add-generation
overflow_add-generation g c = search rules

-- what is read there is what is kept
kept_there : (generations : List ℕ) (slot read : ℕ) → slot < length generations → read ≡ get_or generations slot read → read ≡ generation_in generations slot
kept_there generations slot read inside is = is ∙ get_or_default generations slot read 0 inside

pub returns-then-generation-clause-call : goal.returns-then-generation-clause-call
returns-then-generation-clause-call g c =
    let i = c.self.inside in
    let slot = c.insert_reserved.ensures.key ∙ c.remove.ensures.key_is_next in
    let inside = covered i.places i.generations.items c.args.self.now c.args.slot c.self.invariant c.self.view_is c.requires in
    let kept = kept_there i.generations.items c.args.slot c.index-generation.result.now inside c.index-generation.ensures in
    is_removed i.places c.insert_reserved.new.self i.generations.items c.args.self.now c.self.invariant c.self.view_is i.generations.items c.args.slot (Some Spent) c.requires
    (ap (place_in c.insert_reserved.new.self.slots) (sym slot) ∙ c.insert_reserved.ensures.updates.changed) refl
    (λ k n. c.insert_reserved.ensures.updates.others k (λ e. n (e ∙ slot)) ∙ c.remove.ensures.updates.others k n)
    (ap (λ g. g + 1) (sym c.if-generation.true ∙ kept)) refl (λ k n. refl)

pub returns-then-generation-clause-things : goal.returns-then-generation-clause-things
returns-then-generation-clause-things g c = (returns-then-generation-clause-call g c).things

pub returns-then-generation-clause-risen : goal.returns-then-generation-clause-risen
returns-then-generation-clause-risen g c = (returns-then-generation-clause-call g c).risen

pub returns-then-generation-clause-generations : goal.returns-then-generation-clause-generations
returns-then-generation-clause-generations g c = (returns-then-generation-clause-call g c).generations

pub returns-clause-call : goal.returns-clause-call
returns-clause-call g c =
    let i = c.self.inside in
    let next = c.index-generation.result.now + 1 in
    let inside = covered i.places i.generations.items c.args.self.now c.args.slot c.self.invariant c.self.view_is c.requires in
    let kept = kept_there i.generations.items c.args.slot c.index-generation.result.now inside c.index-generation.ensures in
    is_removed i.places c.remove.new.self i.generations.items c.args.self.now c.self.invariant c.self.view_is (slice_set i.generations.items c.args.slot next) c.args.slot None c.requires
    c.remove.ensures.updates.changed refl c.remove.ensures.updates.others
    (get_or-set_same i.generations.items c.args.slot next 0 inside ∙ ap (λ g. g + 1) kept) (length-set i.generations.items c.args.slot next) (λ k n. get_or-set_other i.generations.items c.args.slot k next 0 n)

pub returns-clause-things : goal.returns-clause-things
returns-clause-things g c = (returns-clause-call g c).things

pub returns-clause-risen : goal.returns-clause-risen
returns-clause-risen g c = (returns-clause-call g c).risen

pub returns-clause-generations : goal.returns-clause-generations
returns-clause-generations g c = (returns-clause-call g c).generations
