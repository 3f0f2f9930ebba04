use Rattle.std.proofs.Common.{ℕ, List, ap, ◌∙◌}
use Rattle.startup_packets.specs.Packets.{is_signed_by}
use Rattle.log_packets.specs.Asked.{initiator_shown}
use Rattle.log_births.specs.Offers.{offer_of}
use Rattle.log_births.proofs.Offering.{makes_is}
use Rattle.log_births.proofs.offers.makes.Goals as goal

pub returns : goal.returns
returns c = λ spells.
    makes_is c.args.party.now c.args.from.now c.args.now c.args.under.now.secret (offer_of c.args.joined.now) c.args.keying.now.payload.now (initiator_shown c.args.keying.now)
    c.is_named.result c.is_cert_for.result c.is_current.result c.is_signed.result c.is_named.ensures c.if-not-is_named.false c.is_cert_for.ensures c.if-not-is_cert_for.false
    c.is_current.ensures c.if-not-is_current.false
    (c.is_signed.ensures ∙ ap (λ (key : List ℕ). is_signed_by key c.args.keying.now.payload.now c.args.keying.now.sign.now) c.sign.ensures) spells
