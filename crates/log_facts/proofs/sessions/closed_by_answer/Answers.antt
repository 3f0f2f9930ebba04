use Rattle.std.proofs.Common.{refl, ap, ◌∙◌}
use Rattle.std.specs.FinMap.{get}
use Rattle.std.specs.Option.{option_copied}
use Rattle.rtmfp_chunks.specs.Chunk.{CloseAck}
use Rattle.endpoint_model.specs.Event.{receive_in}
use Rattle.log_values.specs.Events.{call_of}
use Rattle.log_packets.proofs.Opens.{shown, shown_none}
use Rattle.log_facts.specs.Coming.{is_closing}
use Rattle.log_facts.proofs.Hearing.{chunk_tells, closed_back, is_there, not_closing, not_taken, nothing_read}
use Rattle.log_facts.proofs.sessions.closed_by_answer.Goals as goal

pub returns-then-not-is_taken : goal.returns-then-not-is_taken
returns-then-not-is_taken c = λ secrets setup last past nonce plain arrival is comes taken.
    not_taken secrets setup past plain arrival (option_copied c.args.packet) c.args.took c.args.near CloseAck (receive_in (call_of nonce c.args.call.now)) comes taken
    _ (closed_back secrets setup past c.args.near (call_of nonce c.args.call.now))
    c.is_taken.result (c.is_taken.ensures nonce) c.if-not-is_taken.true

pub returns-then-not-is_closing : goal.returns-then-not-is_closing
returns-then-not-is_closing c = λ secrets setup last past nonce plain arrival is comes taken.
    not_closing secrets setup past c.args.near (call_of nonce c.args.call.now) (get c.args.digest.now.spots c.args.near) (is.spots_are.spot c.args.near) c.is_closing.result (c.is_closing.ensures ∙ ap is_closing c.spot.ensures) c.if-not-is_closing.true

pub returns-in_default : goal.returns-in_default
returns-in_default c = λ secrets setup last past nonce plain arrival is comes taken.
    nothing_read secrets setup past plain arrival (option_copied c.args.packet) c.args.took c.args.near CloseAck (receive_in (call_of nonce c.args.call.now)) comes taken
    _ (closed_back secrets setup past c.args.near (call_of nonce c.args.call.now))
    (shown_none c.args.packet (option_copied c.args.packet) refl c.in_default.is)

pub returns : goal.returns
returns c = λ secrets setup last past nonce plain arrival is comes taken.
    let there = is_there secrets setup past c.args.near (call_of nonce c.args.call.now) (get c.args.digest.now.spots c.args.near) (is.spots_are.spot c.args.near) c.is_closing.result (c.is_closing.ensures ∙ ap is_closing c.spot.ensures) c.if-not-is_closing.false in
    chunk_tells secrets setup past plain arrival (option_copied c.args.packet) c.args.took c.args.near CloseAck (receive_in (call_of nonce c.args.call.now)) comes taken
    _ (closed_back secrets setup past c.args.near (call_of nonce c.args.call.now))
    there.thing there.stands there.session there.there
    c.is_taken.result c.has_close_ack.result (c.is_taken.ensures nonce) c.if-not-is_taken.false
    c.in-Some.packet.now (shown c.args.packet c.in-Some.packet (option_copied c.args.packet) refl c.in-Some.is) c.has_close_ack.ensures
