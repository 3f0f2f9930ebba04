use Rattle.log_births.specs.Offers.{offer_of}
use Rattle.log_births.proofs.Offering.{none_given}
use Rattle.log_births.proofs.offers.offered.Goals as goal

pub returns-in_default : goal.returns-in_default
returns-in_default c = λ setup past nonce plain comes.
    none_given c.args.secrets.now setup past c.args.party.now c.args.now (offer_of c.args.joined.now) nonce c.args.call.now (λ from datagram e. c.in_default.not-Receive from datagram e)
