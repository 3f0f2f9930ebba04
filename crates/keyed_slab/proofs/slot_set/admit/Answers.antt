use Rattle.std.proofs.Common.{refl, arith}
use Rattle.keyed_slab.proofs.Slots.{stays_in, comes_in}
use Rattle.keyed_slab.proofs.slot_set.admit.Goals as goal

pub returns-then-place-count-clause-flags : goal.returns-then-place-count-clause-flags
returns-then-place-count-clause-flags c = stays_in c.args.slots.now c.args.places.now c.args.places.now c.args.count c.args.slot c.requires.tied c.requires.fits c.requires.room refl c.if-place-count.true

pub returns-clause-flags : goal.returns-clause-flags
returns-clause-flags c =
    let inside = c.requires.tied.inside c.args.slot c.requires.room in
    comes_in c.args.slots.now c.args.places.now c.exchange.new.places c.args.count c.args.slot c.requires.tied c.requires.fits c.requires.room c.exchange.ensures.long c.args.count (omega (arith, inside, c.if-place-count.false)) c.exchange.ensures.places refl c.if-place-count.false
