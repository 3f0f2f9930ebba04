use Rattle.std.specs.Option.{option_map}
use Rattle.log_packets.specs.Asked.{initiator_shown}
use Rattle.log_packets.proofs.SaidFields.{says_initiator}
use Rattle.log_packets.proofs.fields.initiator_keying.Goals as goal

pub returns-clause-says : goal.returns-clause-says
returns-clause-says c = says_initiator c.args.chunk.now.kind c.args.chunk.now.payload.now c.initiator_in.ensures.reads (option_map initiator_shown c.initiator_in.result) c.initiator_in.ensures.fields
