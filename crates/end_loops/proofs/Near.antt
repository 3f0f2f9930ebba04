-- The chunks of a short packet have near places.
use Rattle.std.proofs.Common.{ℕ, ◌≡◌, ◌≤◌, ◌<◌, ◌+◌, ◌^◌, List, [], ◌∷◌, length, length-append, Bool, true, false, not, filter, cond, arith}
use Rattle.std.specs.List.{AllByRecursion, flat_map}
use Rattle.std.specs.Int.{w16, to_be_bytes}
use Rattle.rtmfp_packet.specs.Spelling.{Chunk, chunk_bytes}
use Rattle.rtmfp_packet.specs.Walk.{Placed, all_placed_from, is_ignored}
use Rattle.rtmfp_packet.specs.Whole.{Whole}
use Rattle.rtmfp_packet.specs.Reading.{Reads}
use Rattle.endpoint_model.specs.Keying.{AreNear, chunks_of}

-- of a list that passes a filter as many as before at most, and all with what all have
kept_all : (P : Placed → Type 0) (test : Placed → Bool) (cs : List Placed) → AllByRecursion P cs → AllByRecursion P (filter test cs)
kept_all P test [] all = tt
kept_all P test (c ∷ cs) all = elim (test c) as (λ b. AllByRecursion P (cond b (c ∷ filter test cs) (filter test cs))) [
  | true ↦ (all.0, kept_all P test cs all.1)
  | false ↦ kept_all P test cs all.1
]

kept_few : (test : Placed → Bool) (cs : List Placed) → length (filter test cs) ≤ length cs
kept_few test [] = omega arith
kept_few test (c ∷ cs) =
    let rest = kept_few test cs in
    elim (test c) as (λ b. length (cond b (c ∷ filter test cs) (filter test cs)) ≤ length (c ∷ cs)) [
      | true ↦ omega (arith, rest)
      | false ↦ omega (arith, rest)
    ]

-- a chunk has 3 bytes and its payload
chunk_length : (chunk : Chunk) → length (chunk_bytes chunk) ≡ 3 + length chunk.payload
chunk_length chunk = let e = length-append (to_be_bytes w16 (length chunk.payload)) chunk.payload in omega (arith, e)

places_near : (at : ℕ) (chunks : List Chunk) → at + length (flat_map chunk_bytes chunks) ≤ 4096 → AllByRecursion (λ c. c.at < 2 ^ 32) (all_placed_from at chunks)
places_near at [] within = tt
places_near at (chunk ∷ chunks) within =
    let whole : length (flat_map chunk_bytes (chunk ∷ chunks)) ≡ length (chunk_bytes chunk) + length (flat_map chunk_bytes chunks) = length-append (chunk_bytes chunk) (flat_map chunk_bytes chunks) in
    let one = chunk_length chunk in
    (omega (arith, within), places_near (at + (3 + length chunk.payload)) chunks (omega (arith, within, whole, one)))

places_few : (at : ℕ) (chunks : List Chunk) → length (all_placed_from at chunks) ≤ length (flat_map chunk_bytes chunks)
places_few at [] = omega arith
places_few at (chunk ∷ chunks) =
    let whole : length (flat_map chunk_bytes (chunk ∷ chunks)) ≡ length (chunk_bytes chunk) + length (flat_map chunk_bytes chunks) = length-append (chunk_bytes chunk) (flat_map chunk_bytes chunks) in
    let one = chunk_length chunk in
    let rest = places_few (at + (3 + length chunk.payload)) chunks in
    omega (arith, whole, one, rest)

pub few_if_short : (packet : Whole) (b : List ℕ) → Reads packet b → length b ≤ 4096 → length (chunks_of packet) ≤ 4096
few_if_short packet b reads short =
    let total = length-append (flat_map chunk_bytes packet.chunks) packet.padding in
    let few = kept_few (λ c. not (is_ignored c.kind)) (all_placed_from packet.start packet.chunks) in
    let all = places_few packet.start packet.chunks in
    omega (arith, few, all, reads.start, total, short)

pub near_if_short : (packet : Whole) (b : List ℕ) → Reads packet b → length b ≤ 4096 → AreNear packet
near_if_short packet b reads short =
    let total = length-append (flat_map chunk_bytes packet.chunks) packet.padding in
    let within : packet.start + length (flat_map chunk_bytes packet.chunks) ≤ 4096 = omega (arith, reads.start, total, short) in
    record {
      places = kept_all (λ c. c.at < 2 ^ 32) (λ c. not (is_ignored c.kind)) (all_placed_from packet.start packet.chunks) (places_near packet.start packet.chunks within);
      few = omega (arith, few_if_short packet b reads short);
    }
