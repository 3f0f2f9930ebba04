use Rattle.log_births.specs.Offers.{offer_of}
use Rattle.log_births.proofs.Offering.{no_keying, offers_is}
use Rattle.log_births.proofs.offers.offers.Goals as goal

pub returns-in_default : goal.returns-in_default
returns-in_default c =
    no_keying c.args.party.now c.args.from.now c.args.now c.args.under.now.secret (offer_of c.args.joined.now) c.args.packet.now c.first_initiator.result c.first_initiator.ensures c.in_default.is

pub returns : goal.returns
returns c =
    offers_is c.args.party.now c.args.from.now c.args.now c.args.under.now.secret (offer_of c.args.joined.now) c.args.packet.now c.first_initiator.result c.first_initiator.ensures
    c.in-Some.keying c.in-Some.is c.is_startup.result c.makes.result c.is_startup.ensures c.if-not-is_startup.false c.makes.ensures
