use Rattle.std.proofs.Common.{List, ◌∙◌, ap}
use Rattle.rtmfp_packet.specs.Walk.{Placed}
use Rattle.rtmfp_packet.specs.Chunks.{shown}
use Rattle.endpoint_model.specs.Keying.{chunks_of}
use Rattle.log_packets.specs.Asked.{first_of}
use Rattle.log_packets.proofs.Chunks.{has_answer_in}
use Rattle.log_packets.proofs.asked.has_close_ack.Goals as goal

pub returns : goal.returns
returns c = has_answer_in shown c.first_of.result (chunks_of c.args.packet.now) c.is_some.result (c.first_of.ensures ∙ ap (λ (cs : List Placed). first_of 0x4c cs) c.chunks.ensures) c.is_some.ensures
