use Rattle.std.proofs.Common.{refl, sym, ◌∙◌}
use Rattle.std.specs.Option.{option_copied}
use Rattle.endpoint_model.specs.Event.{receive_in}
use Rattle.log_values.specs.Events.{call_of}
use Rattle.log_packets.proofs.Opens.{shown, shown_none}
use Rattle.log_facts.proofs.Answering.{HasHello, no_packet, no_search, no_startup, not_under, refuses_hello, said, takes_hello}
use Rattle.log_facts.proofs.answers.started_by_hello.Goals as goal

pub returns-in_default : goal.returns-in_default
returns-in_default c = λ secrets setup last past nonce plain n is comes counted.
    refuses_hello secrets setup past c.args.peer.now n c.args.near c.args.ni.now (receive_in (call_of nonce c.args.call.now))
    (no_startup secrets setup past plain c.args.arrival (option_copied c.args.packet) 0 _ (receive_in (call_of nonce c.args.call.now)) comes
    (sym c.startup_at.ensures ∙ c.in_default.is))

pub returns-in_default-packet : goal.returns-in_default-packet
returns-in_default-packet c = λ secrets setup last past nonce plain n is comes counted.
    refuses_hello secrets setup past c.args.peer.now n c.args.near c.args.ni.now (receive_in (call_of nonce c.args.call.now))
    (no_packet secrets setup past plain c.args.arrival (option_copied c.args.packet) 0 _ (receive_in (call_of nonce c.args.call.now)) comes
    (shown_none c.args.packet (option_copied c.args.packet) refl c.in_default-packet.is))

pub returns-then-not-goes_under : goal.returns-then-not-goes_under
returns-then-not-goes_under c = λ secrets setup last past nonce plain n is comes counted.
    refuses_hello secrets setup past c.args.peer.now n c.args.near c.args.ni.now (receive_in (call_of nonce c.args.call.now))
    (not_under secrets setup past plain c.args.arrival (option_copied c.args.packet) 0 _ (receive_in (call_of nonce c.args.call.now)) comes
    c.goes_under.result (c.goes_under.ensures nonce) c.if-not-goes_under.true)

pub returns-in_default-spot : goal.returns-in_default-spot
returns-in_default-spot c = λ secrets setup last past nonce plain n is comes counted.
    no_search secrets setup past c.args.peer.now n c.args.near c.args.ni.now _ (is.spots_are.spot c.args.near) (sym c.spot.ensures ∙ c.in_default-spot.is) (receive_in (call_of nonce c.args.call.now))

pub returns : goal.returns
returns c = λ secrets setup last past nonce plain n is comes counted.
    takes_hello secrets setup past c.args.peer.now n c.args.near c.args.ni.now _ (is.spots_are.spot c.args.near) c.in-Some-spot.spot (sym c.spot.ensures ∙ c.in-Some-spot.is) counted c.is_sought.ensures.sized
    (receive_in (call_of nonce c.args.call.now)) c.is_sought.result
    (said secrets setup past plain c.args.arrival (option_copied c.args.packet) 0 (HasHello c.in-Some-spot.spot c.args.peer.now c.args.ni.now) (receive_in (call_of nonce c.args.call.now)) comes
    c.in-Some.field-0 c.in-Some-packet.packet.now c.goes_under.result c.is_sought.result (sym c.startup_at.ensures ∙ c.in-Some.is)
    (shown c.args.packet c.in-Some-packet.packet (option_copied c.args.packet) refl c.in-Some-packet.is)
    (c.goes_under.ensures nonce) c.if-not-goes_under.false (λ secret known. c.is_sought.ensures.tells))
