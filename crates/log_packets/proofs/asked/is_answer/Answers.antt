use Rattle.std.proofs.Common.{List, ℕ, ◌∙◌, ap}
use Rattle.std.specs.Option.{option_map}
use Rattle.startup_packets.specs.Packets.{is_signed_by}
use Rattle.rtmfp_packet.specs.Chunks.{shown}
use Rattle.log_packets.specs.Asked.{responder_shown}
use Rattle.log_packets.proofs.SaidFields.{says_responder}
use Rattle.log_packets.proofs.Asking.{answer_is, no_responder, other_part}
use Rattle.log_packets.proofs.asked.is_answer.Goals as goal

pub returns-in_default : goal.returns-in_default
returns-in_default c =
    no_responder (shown c.args.chunk.now) c.responder_in.result
    (says_responder c.args.chunk.now.kind c.args.chunk.now.payload.now c.responder_in.ensures.reads (option_map responder_shown c.responder_in.result) c.responder_in.ensures.fields)
    c.args.under.now.secret c.args.j.now c.in_default.is

pub returns-then-ne : goal.returns-then-ne
returns-then-ne c =
    other_part (shown c.args.chunk.now) c.responder_in.result
    (says_responder c.args.chunk.now.kind c.args.chunk.now.payload.now c.responder_in.ensures.reads (option_map responder_shown c.responder_in.result) c.responder_in.ensures.fields)
    c.args.under.now.secret c.args.j.now c.in-Some.keying c.in-Some.is c.as_slice.result.now (c.as_slice.ensures ∙ c.requires) c.ne.result c.ne.ensures c.if-ne.true

pub returns : goal.returns
returns c =
    answer_is (shown c.args.chunk.now) c.responder_in.result
    (says_responder c.args.chunk.now.kind c.args.chunk.now.payload.now c.responder_in.ensures.reads (option_map responder_shown c.responder_in.result) c.responder_in.ensures.fields)
    c.args.under.now.secret c.args.j.now c.in-Some.keying c.in-Some.is c.as_slice.result.now (c.as_slice.ensures ∙ c.requires) c.ne.result c.ne.ensures
    c.is_signed.result c.if-keying-j.false c.if-ne.false
    (c.is_signed.ensures ∙ ap (λ (key : List ℕ). is_signed_by key c.args.chunk.now.payload.now c.in-Some.keying.sign.now) c.sign.ensures)
