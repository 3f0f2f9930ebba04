use Rattle.std.proofs.Common.{◌∙◌, is_some, refl, sym, ap}
use Rattle.keyed_slab.specs.KeyedSlab.{Seats, thing_at, with_thing}
use Rattle.keyed_slab.specs.Inside.{thing_of}
use Rattle.keyed_slab.proofs.Placing.{seats_with, sound_with, thing_is}
use Rattle.keyed_slab.proofs.keyed_slab.KeyedSlabIndexMutUsize.index_mut.Goals as goal

pub invariant_of-self-lent : goal.invariant_of-self-lent
invariant_of-self-lent g c w = sound_with c.self.inside.places.slots c.self.inside.generations.items c.args.slot c.index_mut.result.now w c.self.invariant c.index_mut.ensures.value

pub returns : goal.returns
returns g c =
    let slots = c.self.inside.places.slots in (
      (refl, λ w. seats_with c.self.inside.places c.self.inside.generations.items c.args.slot c.index_mut.result.now w c.index_mut.ensures.value (ap is_some c.thing_mut.ensures.value) ∙ ap (λ (s : Seats g.row.T.Denot). with_thing s c.args.slot w) c.self.view_is),
      record {
        writes_back = tt;
        value = ap (λ (s : Seats g.row.T.Denot). thing_at s c.args.slot) (sym c.self.view_is) ∙ thing_is slots c.args.slot ∙ ap thing_of c.index_mut.ensures.value ∙ c.thing_mut.ensures.value;
      },
    )
