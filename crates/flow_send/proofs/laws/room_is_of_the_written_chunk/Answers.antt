use Rattle.std.proofs.Common.{◌≡◌, ℕ, ◌-◌, List, ◌++◌, length, Option, Some, None, arith, length-append}
use Rattle.std.specs.Int.{to_be_bytes, w16}
use Rattle.rtmfp_vlu.specs.Vlu.{vlu}
use Rattle.rtmfp_forms.specs.Options.{OptionParts}
use Rattle.rtmfp_data_chunks.specs.Runs.{Chunk}
use Rattle.rtmfp_data_chunks.specs.Chunk.{Data}
use Rattle.rtmfp_data_chunks.specs.Writing.{payload_bytes, list_bytes, data_bytes}
use Rattle.flow_send.specs.Flow.{data_length, options_length, user_data}
use Rattle.flow_send.proofs.laws.room_is_of_the_written_chunk.Goals as goal

options_same : (options : Option (List OptionParts)) → options_length options ≡ length (list_bytes options)
options_same None = omega arith
options_same (Some options) = omega arith

written : (flow : ℕ) (options : Option (List OptionParts)) (c : Chunk) → data_length flow options c ≡ length (data_bytes (Data (user_data flow options c)))
written flow options c =
    let body = list_bytes options ++ c.bytes in
    let payload = payload_bytes (Data (user_data flow options c)) in
    let a = length-append (to_be_bytes w16 (length payload)) payload in
    let b = length-append (vlu flow) (vlu c.seq ++ (vlu (c.seq - c.forward) ++ body)) in
    let d = length-append (vlu c.seq) (vlu (c.seq - c.forward) ++ body) in
    let e = length-append (vlu (c.seq - c.forward)) body in
    let f = length-append (list_bytes options) c.bytes in
    let o = options_same options in
    omega (arith, a, b, d, e, f, o)

pub returns : goal.returns
returns c = written
