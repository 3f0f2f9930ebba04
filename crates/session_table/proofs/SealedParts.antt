-- The packet of one chunk.
use Rattle.std.proofs.Common.{ℕ, Bool, ◌^◌, ◌≡◌, ◌≤◌, ◌+◌, List, ◌++◌, length, ◌<◌, Option, Some, None, Result, Ok, Err, IsErr, OnOk, length-append, ap, refl, ◌∙◌, arith}
use Rattle.rtmfp_packet.specs.declared.head.PacketHead.{PacketHead}
use Rattle.rtmfp_packet.specs.Head.{head_bytes, stamp_bytes}
use Rattle.rtmfp_vlu.specs.Vlu.{vlu}
use Rattle.rtmfp_vlu.proofs.Fields.{length-vlu_within}
use Rattle.rtmfp_chunks.specs.Chunk.{Chunk, Fragment}
use Rattle.rtmfp_chunks.specs.Writing.{chunk_bytes}

stamp_at_most : (stamp : Option ℕ) → length (stamp_bytes stamp) ≤ 2
stamp_at_most None = omega arith
stamp_at_most (Some stamp) = omega arith

pub head_at_most : (head : PacketHead) → length (head_bytes head) ≤ 5
head_at_most head = omega (arith, stamp_at_most head.stamp, stamp_at_most head.echo, length-append (stamp_bytes head.stamp) (stamp_bytes head.echo))

written_where_it_fits : {A E : Type 0} (result : Result A E) (size : ℕ) (xs ys : List ℕ) → size ≤ 1164 → (IsErr result → 1164 < size) → OnOk result (xs ≡ ys) → xs ≡ ys
written_where_it_fits (Ok done) size xs ys fits no_room is = is
written_where_it_fits (Err fault) size xs ys fits no_room is = absurd (omega (arith, fits, no_room refl))

pub chunk_written : {A E : Type 0} (result : Result A E) (head : PacketHead) (packet new : List ℕ) (chunk : Chunk) → length (chunk_bytes chunk) ≤ 1159 → packet ≡ head_bytes head →
    (IsErr result → 1164 < length packet + length (chunk_bytes chunk)) → OnOk result (new ≡ packet ++ chunk_bytes chunk) → new ≡ head_bytes head ++ chunk_bytes chunk
chunk_written result head packet new chunk fits begun no_room is =
    written_where_it_fits result (length packet + length (chunk_bytes chunk)) new (packet ++ chunk_bytes chunk) (omega (arith, fits, ap length begun, head_at_most head)) no_room is
    ∙ ap (λ p. p ++ chunk_bytes chunk) begun

-- a piece of at most 1,132 bytes fits behind each head, with the largest ID and number
pub piece_fits : (more : Bool) (id number : ℕ) (bytes : List ℕ) → id < 2 ^ 64 → number < 2 ^ 64 → length bytes ≤ 1132 → length (chunk_bytes (Fragment more id number bytes)) ≤ 1159
piece_fits more id number bytes small low few =
    omega (arith, few, (length-vlu_within id small).1, (length-vlu_within number low).1, length-append (vlu id) (vlu number ++ bytes), length-append (vlu number) bytes)
