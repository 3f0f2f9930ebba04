-- The body of a piece of a packet has just this piece.
use Rattle.std.specs.Prelude.{max, nat_le, nat_lt, suc, zero, ◌-◌, ◌&&◌}
use Rattle.std.proofs.Common.{◌≡◌, ℕ, ◌+◌, ◌<◌, ◌≤◌, ◌^◌, List, [], ◌∷◌, ◌++◌, length, take, drop, Bool, true, false}
use Rattle.std.proofs.Common.{if◌then◌else◌, Ok, refl, sym, ap, ◌∙◌, append-nil, length-append, arith, inl, inr, subst}
use Rattle.std.proofs.lemmas.Bool.Decides.{nat_tests}
use Rattle.std.proofs.Math.Nat.{min-le_left}
use Rattle.std.proofs.lemmas.List.{length-take-le}
use Rattle.rtmfp_vlu.specs.Vlu.{vlu}
use Rattle.rtmfp_vlu.proofs.Fields.{length-vlu_within}
use Rattle.rtmfp_chunks.specs.Chunk.{Chunk, Fragment, parts_of}
use Rattle.rtmfp_chunks.specs.FieldReading.{chunk_reading}
use Rattle.rtmfp_chunks.specs.Writing.{payload_bytes}
use Rattle.rtmfp_chunks.proofs.ReadingLaws.{reading_is}
use Rattle.rtmfp_chunks.proofs.WritingLaws.{parts_bytes-spell}
use Rattle.rtmfp_data_chunks.specs.HandsOver.{IsIn}
use Rattle.rtmfp_packet.specs.Spelling.{Chunk as Written}
use Rattle.rtmfp_fragments.specs.Pieces.{PieceParts, piece, stretches}
use Rattle.endpoint_model.specs.declared.row.Row.{Row}
use Rattle.endpoint_model.specs.State.{State, longest_packet}
use Rattle.endpoint_model.specs.Sending.{last_count, limit_of, has_counts, piece_body, session_packet}
use Rattle.endpoint_laws.proofs.Small.{its_pieces}
use Rattle.flow_history.specs.Deeds.{Part}
use Rattle.session_deeds.specs.Pieces.{parts_read}
use Rattle.endpoint_handing.proofs.Bodies.{body_pieces, one_chunk}

-- a piece whose chunk can be written
pub record IsSmall (x : PieceParts) : Type 0 where
  pub number : x.number < 2 ^ 64
  pub bytes : length x.bytes ≤ 1132

-- it reads back
fragment_read : (more : Bool) (id number : ℕ) (bytes : List ℕ) → id < 2 ^ 64 → number < 2 ^ 64 →
    chunk_reading 0x7f (payload_bytes (Fragment more id number bytes)) ≡ Ok (Fragment more id number bytes)
fragment_read more id number bytes named numbered =
    let chunk : Chunk = Fragment more id number bytes in
    sym (reading_is 0x7f (payload_bytes chunk) (Ok chunk) (refl, parts_bytes-spell (parts_of chunk) (tt, (named, (numbered, tt)))))

pub part_alone : (id : ℕ) (x : PieceParts) → id < 2 ^ 64 → IsSmall x → body_pieces (piece_body id x) ≡ Part id x ∷ []
part_alone id x named small =
    let chunk : Chunk = Fragment x.more id x.number x.bytes in
    let written : Written = record { kind = 0x7f; payload = payload_bytes chunk } in
    let a = length-vlu_within id named in
    let b = length-vlu_within x.number small.number in
    let short : length (payload_bytes chunk) < 2 ^ 16 =
    omega (arith, a.1, b.1, small.bytes, length-append (vlu x.number) x.bytes, length-append (vlu id) (vlu x.number ++ x.bytes)) in
    one_chunk written (record { kind = omega arith; size = short })
    ∙ append-nil (parts_read (chunk_reading 0x7f (payload_bytes chunk)))
    ∙ ap parts_read (fragment_read x.more id x.number x.bytes named small.number)

-- ---- those of a packet whose pieces have counts

stretch_by : (b : Bool) (size number : ℕ) (bytes : List ℕ) (later : List PieceParts) → size ≤ 1132 → nat_le (length bytes) size ≡ b →
    number + length (if b then piece number false bytes ∷ [] else piece number true (take size bytes) ∷ later) < 2 ^ 64 →
    ((number + 1) + length later < 2 ^ 64 → (x : PieceParts) → IsIn x later → IsSmall x) →
    (x : PieceParts) → IsIn x (if b then piece number false bytes ∷ [] else piece number true (take size bytes) ∷ later) → IsSmall x
stretch_by true size number bytes later short fits few rest x (inl is) =
    subst (λ (y : PieceParts). IsSmall y) (sym is) (record { number = omega (arith, few); bytes = grind (arith, nat_tests) })
stretch_by true size number bytes later short fits few rest x (inr none) = absurd none
stretch_by false size number bytes later short fits few rest x (inl is) =
    let long : size ≤ length bytes = grind (arith, nat_tests) in
    subst (λ (y : PieceParts). IsSmall y) (sym is) (record { number = omega (arith, few); bytes = omega (arith, short, length-take-le size bytes long) })
stretch_by false size number bytes later short fits few rest x (inr among) = rest (omega (arith, few)) x among

stretches_are_small : (size : ℕ) → size ≤ 1132 → (most number : ℕ) (bytes : List ℕ) → number + length (stretches most number size bytes) < 2 ^ 64 →
    (x : PieceParts) → IsIn x (stretches most number size bytes) → IsSmall x
stretches_are_small size short zero number bytes few x among = absurd among
stretches_are_small size short (suc most) number bytes few x among =
    stretch_by (nat_le (length bytes) size) size number bytes (stretches most (number + 1) size (drop size bytes)) short refl few
    (λ less. stretches_are_small size short most (number + 1) (drop size bytes) less) x among

counts_both : (a b : Bool) → (a && b) ≡ true → (a ≡ true) × (b ≡ true)
counts_both true b e = (refl, e)
counts_both false b e = absurd cc

-- an ID is left, and the pieces are small
pub all_small : (s : State) (row : Row) (body : List ℕ) → has_counts row (length (its_pieces s row body)) ≡ true →
    (row.packets + 1 < 2 ^ 64) × ((x : PieceParts) → IsIn x (its_pieces s row body) → IsSmall x)
all_small s row body has =
    let packet : List ℕ = session_packet row.session s.moment body in
    let size : ℕ = limit_of s - 32 in
    let both = counts_both (nat_lt row.packets last_count) (nat_le (row.session.sealed + length (its_pieces s row body)) last_count) has in
    let named : row.packets < last_count = grind (arith, nat_tests) in
    let counted : row.session.sealed + length (its_pieces s row body) ≤ last_count = grind (arith, nat_tests) in (
      omega (arith, named),
      stretches_are_small size (omega (arith, min-le_left longest_packet (max 96 s.limit))) (suc (length packet)) 0 packet (omega (arith, counted)),
    )
