-- The plain packets of session startup (own profile over RFC 7016 section 2.3), and the parts of
-- keying chunks.
use Rattle.std.specs.Prelude.{ℕ, ◌-◌, ◌==◌, Bool, List, [], ◌∷◌, ◌++◌, length, take, drop, Option, Some, None, if◌then◌else◌}
use Rattle.std.specs.Int.{w64, to_be_bytes, from_be_bytes}
use Rattle.std.specs.Str.{bytes_eq}
use Rattle.std.specs.List.{fold}
use Rattle.rtmfp_forms.specs.Address.{AddressParts, address_bytes}
use Rattle.rtmfp_chunks.specs.Chunk.{Chunk, IHello, RHello, Redirect, CookieChange, IIKeying, RIKeying}
use Rattle.rtmfp_chunks.specs.Writing.{chunk_bytes, payload_bytes}
use Rattle.crypto_profile.specs.Hmac.{hmac}
use Rattle.crypto_profile.specs.Keys.{sign_key_of}
use Rattle.startup_packets.specs.declared.parts.InitiatorPart.{InitiatorPart}
use Rattle.startup_packets.specs.declared.parts.ResponderPart.{ResponderPart}

-- ---- packets

-- the flags of startup mode without stamps, and one chunk
abbrev pub startup_packet : Chunk → List ℕ
startup_packet chunk = 0x03 ∷ chunk_bytes chunk

unfoldable pub ihello_packet : List ℕ → List ℕ → List ℕ
ihello_packet epd tag = startup_packet (IHello epd tag)

unfoldable pub rhello_packet : List ℕ → List ℕ → List ℕ → List ℕ
rhello_packet tag cookie cert = startup_packet (RHello tag cookie cert)

unfoldable pub cookiechange_packet : List ℕ → List ℕ → List ℕ
cookiechange_packet old new = startup_packet (CookieChange old new)

-- addresses one after another, as they are
abbrev pub addresses_bytes : List AddressParts → List ℕ
addresses_bytes addresses = fold (λ bytes address. bytes ++ address_bytes address) [] addresses

unfoldable pub redirect_packet : List ℕ → List AddressParts → List ℕ
redirect_packet tag addresses = startup_packet (Redirect tag (addresses_bytes addresses))

-- ---- the parts of the session key that the two ends send

-- the initiator's nonce, the number of its attempt, and the fingerprint of the end that it calls
abbrev pub initiator_part : List ℕ → ℕ → List ℕ → List ℕ
initiator_part ni n responder = ni ++ to_be_bytes w64 n ++ responder

-- the responder's nonce, the count of its attempts, its fingerprint, and the initiator's nonce
abbrev pub responder_part : List ℕ → ℕ → List ℕ → List ℕ → List ℕ
responder_part nr k responder ni = nr ++ to_be_bytes w64 k ++ responder ++ ni

-- what such a part of an initiator says: it has 56 bytes
unfoldable pub initiator_part_in : List ℕ → Option InitiatorPart
initiator_part_in bytes =
    if length bytes == 56 then
    Some (record {
      ni = take 16 bytes;
      n = from_be_bytes w64 (take 8 (drop 16 bytes));
      responder = drop 24 bytes;
    }) else None

-- what such a part of a responder says: it has 72 bytes
unfoldable pub responder_part_in : List ℕ → Option ResponderPart
responder_part_in bytes =
    if length bytes == 72
    then Some (record {
      nr = take 16 bytes;
      k = from_be_bytes w64 (take 8 (drop 16 bytes));
      responder = take 32 (drop 24 bytes);
      ni = drop 56 bytes;
    })
    else None

-- ---- signatures

-- the signature of what stands before it in the payload of a keying chunk, under the signature key
abbrev pub signature_by : List ℕ → List ℕ → List ℕ
signature_by key before = hmac key before

-- what stands in a payload before the signature that it ends with
abbrev pub before_signature : List ℕ → List ℕ → List ℕ
before_signature payload sign = take (length payload - length sign) payload

-- whether the signature that a payload ends with is right
unfoldable pub is_signed_by : List ℕ → List ℕ → List ℕ → Bool
is_signed_by key payload sign = bytes_eq (signature_by key (before_signature payload sign)) sign

abbrev pub is_signed : List ℕ → List ℕ → List ℕ → Bool
is_signed secret payload sign = is_signed_by (sign_key_of secret) payload sign

-- ---- keying packets

-- the packet of an initiator's keying, signed under the key: the signature is of the fields before
-- it
unfoldable pub iikeying_signed : List ℕ → ℕ → List ℕ → List ℕ → List ℕ → ℕ → List ℕ → List ℕ
iikeying_signed key near cookie cert ni n peer =
    startup_packet (
    IIKeying near cookie cert (initiator_part ni n peer)
    (signature_by key (payload_bytes (IIKeying near cookie cert (initiator_part ni n peer) []))))

-- the same for a responder's keying
unfoldable pub rikeying_signed : List ℕ → ℕ → List ℕ → ℕ → List ℕ → List ℕ → List ℕ
rikeying_signed key near nr k own ni =
    startup_packet (
    RIKeying near (responder_part nr k own ni)
    (signature_by key (payload_bytes (RIKeying near (responder_part nr k own ni) []))))

-- the signature of a responder's keying alone, and the packet of one with a signature
abbrev pub rikeying_signature : List ℕ → ℕ → List ℕ → ℕ → List ℕ → List ℕ → List ℕ
rikeying_signature key near nr k own ni =
    signature_by key (payload_bytes (RIKeying near (responder_part nr k own ni) []))

unfoldable pub rikeying_with : ℕ → List ℕ → ℕ → List ℕ → List ℕ → List ℕ → List ℕ
rikeying_with near nr k own ni sign =
    startup_packet (RIKeying near (responder_part nr k own ni) sign)

-- under the group secret: the own session ID, cookie and certificate, the nonce and the number of
-- the attempt, and the fingerprint of the end that is called
abbrev pub iikeying_packet : List ℕ → ℕ → List ℕ → List ℕ → List ℕ → ℕ → List ℕ → List ℕ
iikeying_packet secret near cookie cert ni n peer =
    iikeying_signed (sign_key_of secret) near cookie cert ni n peer

-- under the group secret: the own session ID, the own nonce, the own count of attempts, the own
-- fingerprint, and the initiator's nonce
abbrev pub rikeying_packet : List ℕ → ℕ → List ℕ → ℕ → List ℕ → List ℕ → List ℕ
rikeying_packet secret near nr k own ni = rikeying_signed (sign_key_of secret) near nr k own ni
