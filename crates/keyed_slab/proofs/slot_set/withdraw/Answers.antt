use Rattle.std.proofs.Common.{◌-◌, refl, arith}
use Rattle.keyed_slab.proofs.Slots.{stays_out, goes_out}
use Rattle.keyed_slab.proofs.slot_set.withdraw.Goals as goal

pub returns-then-place-count-clause-flags : goal.returns-then-place-count-clause-flags
returns-then-place-count-clause-flags c = stays_out c.args.slots.now c.args.places.now c.args.places.now c.args.count c.args.slot c.requires.tied c.requires.fits c.requires.room refl c.if-place-count.true

pub returns-clause-flags : goal.returns-clause-flags
returns-clause-flags c =
    goes_out c.args.slots.now c.args.places.now c.exchange.new.places c.args.count c.args.slot c.requires.tied c.requires.fits c.requires.room c.exchange.ensures.long (c.args.count - 1) (omega (arith, c.requires.fits, c.if-place-count.false)) c.exchange.ensures.places
    (omega (arith, c.if-place-count.false)) c.if-place-count.false
