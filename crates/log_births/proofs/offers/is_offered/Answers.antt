use Rattle.std.proofs.Common.{Some, refl, sym, ◌∙◌}
use Rattle.std.specs.Option.{option_copied}
use Rattle.log_packets.proofs.Opens.{shown, shown_none}
use Rattle.log_facts.proofs.Answering.{no_packet, no_secret, no_startup, not_under, said}
use Rattle.log_births.specs.Offers.{Offers, offer_of, received}
use Rattle.log_births.proofs.Offering.{offers_by}
use Rattle.log_births.proofs.offers.is_offered.Goals as goal

pub returns-in_default : goal.returns-in_default
returns-in_default c = λ setup past plain draws comes.
    no_startup c.args.secrets.now setup past plain c.args.arrival (option_copied c.args.packet) 0 (Offers c.args.party.now c.args.from.now c.args.now (offer_of c.args.joined.now))
    (Some (received c.args.from.now c.args.datagram.now draws)) comes (sym c.startup_at.ensures ∙ c.in_default.is)

pub returns-in_default-packet : goal.returns-in_default-packet
returns-in_default-packet c = λ setup past plain draws comes.
    no_packet c.args.secrets.now setup past plain c.args.arrival (option_copied c.args.packet) 0 (Offers c.args.party.now c.args.from.now c.args.now (offer_of c.args.joined.now))
    (Some (received c.args.from.now c.args.datagram.now draws)) comes (shown_none c.args.packet (option_copied c.args.packet) refl c.in_default-packet.is)

pub returns-in_default-get : goal.returns-in_default-get
returns-in_default-get c = λ setup past plain draws comes.
    no_secret c.args.secrets.now setup past plain c.args.arrival (option_copied c.args.packet) 0 (Offers c.args.party.now c.args.from.now c.args.now (offer_of c.args.joined.now))
    (Some (received c.args.from.now c.args.datagram.now draws)) comes c.in-Some.generation (sym c.startup_at.ensures ∙ c.in-Some.is) c.in_default-get.ensures.none

pub returns-then-not-is_to_zero : goal.returns-then-not-is_to_zero
returns-then-not-is_to_zero c = λ setup past plain draws comes.
    not_under c.args.secrets.now setup past plain c.args.arrival (option_copied c.args.packet) 0 (Offers c.args.party.now c.args.from.now c.args.now (offer_of c.args.joined.now))
    (Some (received c.args.from.now c.args.datagram.now draws)) comes c.is_to_zero.result c.is_to_zero.ensures c.if-not-is_to_zero.true

pub returns : goal.returns
returns c = λ setup past plain draws comes.
    said c.args.secrets.now setup past plain c.args.arrival (option_copied c.args.packet) 0 (Offers c.args.party.now c.args.from.now c.args.now (offer_of c.args.joined.now))
    (Some (received c.args.from.now c.args.datagram.now draws)) comes c.in-Some.generation c.in-Some-packet.packet.now c.is_to_zero.result c.offers.result
    (sym c.startup_at.ensures ∙ c.in-Some.is) (shown c.args.packet c.in-Some-packet.packet (option_copied c.args.packet) refl c.in-Some-packet.is)
    c.is_to_zero.ensures c.if-not-is_to_zero.false
    (offers_by c.args.secrets.now c.args.party.now c.args.from.now c.args.now (offer_of c.args.joined.now) c.in-Some.generation c.in-Some-get.under.now.secret c.in-Some-packet.packet.now c.offers.result
    c.in-Some-get.ensures.some c.offers.ensures)
