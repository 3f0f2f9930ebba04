use Rattle.std.proofs.Common.{refl}
use Rattle.std.specs.Option.{option_copied}
use Rattle.rtmfp_chunks.specs.Chunk.{Close as CloseChunk}
use Rattle.endpoint_model.specs.Event.{receive_in}
use Rattle.log_values.specs.Events.{call_of}
use Rattle.log_packets.proofs.Opens.{shown, shown_none}
use Rattle.log_facts.proofs.Hearing.{chunk_tells, far_back, far_stands, far_there, not_taken, nothing_read}
use Rattle.log_facts.proofs.sessions.far.Goals as goal

pub returns-then-not-is_taken : goal.returns-then-not-is_taken
returns-then-not-is_taken c = λ secrets setup past nonce plain own peer arrival comes taken stands.
    not_taken secrets setup past plain arrival (option_copied c.args.packet) c.args.took c.args.near CloseChunk (receive_in (call_of nonce c.args.call.now)) comes taken
    _ (far_back secrets setup past own peer c.args.near stands (call_of nonce c.args.call.now))
    c.is_taken.result (c.is_taken.ensures nonce) c.if-not-is_taken.true

pub returns-in_default : goal.returns-in_default
returns-in_default c = λ secrets setup past nonce plain own peer arrival comes taken stands.
    nothing_read secrets setup past plain arrival (option_copied c.args.packet) c.args.took c.args.near CloseChunk (receive_in (call_of nonce c.args.call.now)) comes taken
    _ (far_back secrets setup past own peer c.args.near stands (call_of nonce c.args.call.now))
    (shown_none c.args.packet (option_copied c.args.packet) refl c.in_default.is)

pub returns : goal.returns
returns c = λ secrets setup past nonce plain own peer arrival comes taken stands.
    chunk_tells secrets setup past plain arrival (option_copied c.args.packet) c.args.took c.args.near CloseChunk (receive_in (call_of nonce c.args.call.now)) comes taken
    _ (far_back secrets setup past own peer c.args.near stands (call_of nonce c.args.call.now))
    stands.h (far_stands secrets setup past own peer c.args.near stands) stands.ends (far_there secrets setup past own peer c.args.near stands (call_of nonce c.args.call.now))
    c.is_taken.result c.has_close.result (c.is_taken.ensures nonce) c.if-not-is_taken.false
    c.in-Some.packet.now (shown c.args.packet c.in-Some.packet (option_copied c.args.packet) refl c.in-Some.is) c.has_close.ensures
