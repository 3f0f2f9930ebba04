use Rattle.std.specs.Option.{option_map}
use Rattle.log_packets.specs.Asked.{responder_shown}
use Rattle.log_packets.proofs.SaidFields.{says_responder}
use Rattle.log_packets.proofs.fields.responder_keying.Goals as goal

pub returns : goal.returns
returns c = says_responder c.args.chunk.now.kind c.args.chunk.now.payload.now c.responder_in.ensures.reads (option_map responder_shown c.responder_in.result) c.responder_in.ensures.fields
