use Rattle.std.proofs.Common.{List, ◌≡◌, ◌∙◌, sym, ap}
use Rattle.std.specs.Option.{option_map}
use Rattle.rtmfp_packet.specs.Walk.{Placed}
use Rattle.rtmfp_packet.specs.Chunks.{shown}
use Rattle.endpoint_model.specs.Keying.{chunks_of}
use Rattle.log_packets.specs.declared.fields.InitiatorKeying.{InitiatorKeying}
use Rattle.log_packets.specs.Asked.{first_of, initiator_shown}
use Rattle.log_packets.proofs.SaidFields.{says_initiator}
use Rattle.log_packets.proofs.Asking.{first_read, for_some, no_first}
use Rattle.log_packets.proofs.asked.first_initiator.Goals as goal

pub returns-in-Some : goal.returns-in-Some
returns-in-Some c =
    first_read (chunks_of c.args.packet.now) (shown c.in-Some.chunk) c.initiator_in.result
    (sym (ap (λ (cs : List Placed). first_of 0x38 cs) c.chunks.ensures) ∙ sym c.first_of.ensures ∙ ap (option_map shown) c.in-Some.is)
    (says_initiator c.in-Some.chunk.kind c.in-Some.chunk.payload.now c.initiator_in.ensures.reads (option_map initiator_shown c.initiator_in.result) c.initiator_in.ensures.fields)
    (λ k some. for_some (λ (x : InitiatorKeying). x.payload.now ≡ c.in-Some.chunk.payload.now) c.initiator_in.result k c.initiator_in.ensures.payload some)

pub returns-in-None : goal.returns-in-None
returns-in-None c =
    no_first (chunks_of c.args.packet.now) shown c.first_of.result (c.first_of.ensures ∙ ap (λ (cs : List Placed). first_of 0x38 cs) c.chunks.ensures) c.in-None.is
