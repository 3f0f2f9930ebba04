-- The keying of a session that goes out opens at the initiator, and answers its attempt.
use Rattle.std.proofs.Common.{◌≡◌, ℕ, ◌^◌, ◌<◌, ◌≤◌, List, [], ◌∷◌, ◌++◌, length, inl, refl, sym, ap, ◌∙◌, arith, append_assoc, length-append, Some}
use Rattle.std.specs.Int.{w32, w64, to_be_bytes}
use Rattle.sha2.proofs.Facts256.{length-sha256}
use Rattle.rtmfp_chunks.specs.Chunk.{Chunk, RIKeying, parts_of}
use Rattle.rtmfp_chunks.specs.Fields.{Counted}
use Rattle.rtmfp_chunks.specs.Writing.{payload_bytes, field_bytes, PartsFit}
use Rattle.rtmfp_chunks.proofs.WritingLaws.{parts_bytes-spell}
use Rattle.crypto_profile.specs.declared.keys.Context.TheVariants.{Startup}
use Rattle.crypto_profile.specs.Hmac.{hmac}
use Rattle.crypto_profile.specs.Keys.{sign_key_of}
use Rattle.crypto_profile.specs.Sealing.{sealed_in}
use Rattle.crypto_profile.proofs.Streams.{length-hmac}
use Rattle.packet_scramble.specs.Datagram.{datagram}
use Rattle.glare_core.specs.declared.facts.Joined.{Joined}
use Rattle.startup_packets.specs.Packets.{startup_packet, responder_part, rikeying_packet, rikeying_signed}
use Rattle.startup_packets.proofs.Sizes.{startup_length, rikeying_length}
use Rattle.endpoint_model.specs.Event.{Setup, own_of}
use Rattle.endpoint_laws.specs.Contexts.{Secrets}
use Rattle.endpoint_laws.specs.Lawful.{AnswersAttempt}
use Rattle.endpoint_laws.specs.Complete.{at_initiator}
use Rattle.endpoint_laws.proofs.OutPackets.{one_whole, startup_head, startup_reads}
use Rattle.endpoint_laws.proofs.Resealed.{opens_again}
use Rattle.std.specs.FinMap.{get}

-- ---- the keying of a session

pub keying_answers : (secrets : Secrets) (setup : Setup) (generation : ℕ) (secret : List ℕ) → get secrets generation ≡ Some secret → (j : Joined) (number : List ℕ) → j.far < 2 ^ 32 → j.near < 2 ^ 32 → length j.ni ≤ 16 → length j.nr ≤ 16 → length number ≡ 16 → j.k < 2 ^ 64 →
    AnswersAttempt secrets generation (at_initiator (own_of setup) j) (datagram j.far (sealed_in secret (Startup generation) j.far number (rikeying_packet secret j.near j.nr j.k (own_of setup) j.ni)))
unfolding rikeying_signed opens_again
keying_answers secrets setup generation secret known j number far near ni nr size few =
    let own : List ℕ = own_of setup in
    let part : List ℕ = responder_part j.nr j.k own j.ni in
    let before : List ℕ = payload_bytes (RIKeying j.near part []) in
    let sign : List ℕ = hmac (sign_key_of secret) before in
    let chunk : Chunk = RIKeying j.near part sign in
    let payload : List ℕ = payload_bytes chunk in
    let part_len : length part ≤ 80 =
    omega (arith, length-append (j.nr ++ to_be_bytes w64 j.k ++ own) j.ni, length-append (j.nr ++ to_be_bytes w64 j.k) own, length-append j.nr (to_be_bytes w64 j.k), length-sha256 setup.cert, ni, nr) in
    let sign_len : length sign ≤ 32 = omega (arith, length-hmac (sign_key_of secret) before) in
    let short : length payload < 2 ^ 16 = omega (arith, startup_length chunk, rikeying_length j.near part sign part_len sign_len) in
    let fits : PartsFit (parts_of chunk) = (near, (omega (arith, part_len), tt)) in
    let counted : List ℕ = field_bytes (Counted part) in
    let id : List ℕ = to_be_bytes w32 j.near in
    let whole : payload ≡ before ++ sign = sym (append_assoc id (counted ++ []) sign ∙ ap (λ xs. id ++ xs) (append_assoc counted [] sign)) in
    record {
      packet = one_whole startup_head (0x03 ∷ []) 0x78 payload;
      reads = record { plain = startup_packet chunk; opens = opens_again secrets secret generation j.far number (startup_packet chunk) known far size; reads = startup_reads chunk short };
      chunk = record { kind = 0x78; at = 1; payload = payload };
      among = inl refl;
      sign = sign;
      spells = (refl, parts_bytes-spell (parts_of chunk) fits);
      number = few;
      signed = record { before = before; whole = whole; signature = refl };
    }
