use Rattle.endpoint_model.specs.Event.{receive_in}
use Rattle.log_values.specs.Events.{call_of}
use Rattle.log_packets.proofs.Opens.{shown, shown_none}
use Rattle.std.specs.Option.{option_copied}
use Rattle.std.proofs.Common.{refl, sym, ◌∙◌}
use Rattle.log_facts.proofs.Answering.{HasAnswer, answers_by, no_packet, no_secret, no_startup, not_under, said, takes_answer}
use Rattle.log_facts.proofs.answers.opened.Goals as goal

pub returns-in_default : goal.returns-in_default
returns-in_default c = λ setup past nonce plain comes.
    takes_answer c.args.secrets.now setup past c.args.joined.now (receive_in (call_of nonce c.args.call.now)) _
    (no_startup c.args.secrets.now setup past plain c.args.arrival (option_copied c.args.packet) c.args.joined.now.near (HasAnswer c.args.joined.now) (receive_in (call_of nonce c.args.call.now)) comes
    (sym c.startup_at.ensures ∙ c.in_default.is))

pub returns-in_default-packet : goal.returns-in_default-packet
returns-in_default-packet c = λ setup past nonce plain comes.
    takes_answer c.args.secrets.now setup past c.args.joined.now (receive_in (call_of nonce c.args.call.now)) _
    (no_packet c.args.secrets.now setup past plain c.args.arrival (option_copied c.args.packet) c.args.joined.now.near (HasAnswer c.args.joined.now) (receive_in (call_of nonce c.args.call.now)) comes
    (shown_none c.args.packet (option_copied c.args.packet) refl c.in_default-packet.is))

pub returns-in_default-get : goal.returns-in_default-get
returns-in_default-get c = λ setup past nonce plain comes.
    takes_answer c.args.secrets.now setup past c.args.joined.now (receive_in (call_of nonce c.args.call.now)) _
    (no_secret c.args.secrets.now setup past plain c.args.arrival (option_copied c.args.packet) c.args.joined.now.near (HasAnswer c.args.joined.now) (receive_in (call_of nonce c.args.call.now)) comes
    c.in-Some.generation (sym c.startup_at.ensures ∙ c.in-Some.is) c.in_default-get.ensures.none)

pub returns-then-not-goes_under : goal.returns-then-not-goes_under
returns-then-not-goes_under c = λ setup past nonce plain comes.
    takes_answer c.args.secrets.now setup past c.args.joined.now (receive_in (call_of nonce c.args.call.now)) _
    (not_under c.args.secrets.now setup past plain c.args.arrival (option_copied c.args.packet) c.args.joined.now.near (HasAnswer c.args.joined.now) (receive_in (call_of nonce c.args.call.now)) comes
    c.goes_under.result (c.goes_under.ensures nonce) c.if-not-goes_under.true)

pub returns : goal.returns
returns c = λ setup past nonce plain comes.
    takes_answer c.args.secrets.now setup past c.args.joined.now (receive_in (call_of nonce c.args.call.now)) _
    (said c.args.secrets.now setup past plain c.args.arrival (option_copied c.args.packet) c.args.joined.now.near (HasAnswer c.args.joined.now) (receive_in (call_of nonce c.args.call.now)) comes
    c.in-Some.generation c.in-Some-packet.packet.now c.goes_under.result c.is_answered.result (sym c.startup_at.ensures ∙ c.in-Some.is)
    (shown c.args.packet c.in-Some-packet.packet (option_copied c.args.packet) refl c.in-Some-packet.is)
    (c.goes_under.ensures nonce) c.if-not-goes_under.false
    (answers_by c.args.secrets.now c.args.joined.now c.in-Some.generation c.in-Some-get.under.now.secret c.in-Some-packet.packet.now c.is_answered.result
    c.in-Some-get.ensures.some c.is_answered.ensures.counted c.is_answered.ensures.tells))
