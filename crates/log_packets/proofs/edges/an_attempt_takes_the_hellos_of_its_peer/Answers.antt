use Rattle.std.proofs.Common.{refl, arith}
use Rattle.log_packets.proofs.edges.an_attempt_takes_the_hellos_of_its_peer.Goals as goal

pub returns-clause-least : goal.returns-clause-least
returns-clause-least c = record { narrow = omega arith; is_cert = record { named = omega arith; short_named = omega arith; ascii = refl }; peer_is = refl }

pub returns-clause-most : goal.returns-clause-most
returns-clause-most c = record { narrow = omega arith; is_cert = record { named = omega arith; short_named = omega arith; ascii = refl }; peer_is = refl }

pub returns-clause-wide : goal.returns-clause-wide
returns-clause-wide c = λ peer cert from. omega (arith, from.narrow)

pub returns-clause-nameless : goal.returns-clause-nameless
returns-clause-nameless c = λ peer cookie from. omega (arith, from.is_cert.named)

pub returns-clause-long_named : goal.returns-clause-long_named
returns-clause-long_named c = λ peer cookie from. omega (arith, from.is_cert.short_named)

pub returns-clause-another : goal.returns-clause-another
returns-clause-another c = λ peer other from. other from.peer_is
