-- How long startup packets are.
use Rattle.std.proofs.Common.{◌≡◌, ℕ, ◌+◌, ◌*◌, ◌≤◌, Bool, true, false, List, [], ◌∷◌, ◌++◌, length, take, arith, length-append}
use Rattle.std.specs.List.{fold}
use Rattle.std.proofs.lemmas.List.{length-take}
use Rattle.rtmfp_forms.specs.Address.{AddressParts, address_bytes, host_len}
use Rattle.std.specs.Int.{w16, w32, to_be_bytes}
use Rattle.rtmfp_vlu.specs.Vlu.{vlu}
use Rattle.rtmfp_vlu.proofs.Fields.{length-vlu_within}
use Rattle.rtmfp_chunks.specs.Fields.{Counted}
use Rattle.rtmfp_chunks.specs.Chunk.{Chunk, IHello, FIHello, RHello, Redirect, CookieChange, IIKeying, RIKeying, kind_of}
use Rattle.rtmfp_chunks.specs.Writing.{field_bytes, payload_bytes}
use Rattle.startup_packets.specs.Packets.{startup_packet}
use Rattle.startup_packets.specs.Packets.{addresses_bytes}

-- the flags, the type and the length stand before the payload
pub startup_length : (chunk : Chunk) → length (startup_packet chunk) ≡ 4 + length (payload_bytes chunk)
startup_length chunk =
    omega (arith, length-append (kind_of chunk ∷ to_be_bytes w16 (length (payload_bytes chunk))) (payload_bytes chunk))

-- a length of one byte or two stands before short bytes
counted_length : (bytes : List ℕ) (most : ℕ) → length bytes ≤ most → most ≤ 128 → length (field_bytes (Counted bytes)) ≤ 10 + most
counted_length bytes most short few =
    omega (arith, length-append (vlu (length bytes)) bytes, (length-vlu_within (length bytes) (omega arith)).1)

two : (a b : List ℕ) (m n : ℕ) → length a ≤ m → length b ≤ n → length (a ++ b) ≤ m + n
two a b m n p q = omega (arith, length-append a b)

pub ihello_length : (epd tag : List ℕ) → length epd ≤ 128 → length tag ≤ 128 → length (startup_packet (IHello epd tag)) ≤ 1164
ihello_length epd tag p q =
    omega (arith, startup_length (IHello epd tag), two (field_bytes (Counted epd)) tag 138 128 (counted_length epd 128 p (omega arith)) q)

-- an address takes 7 bytes or 19
pub length-address_bytes : (a : AddressParts) → length (address_bytes a) ≤ 19
length-address_bytes a = omega (arith, length-append (take (host_len a.v6) a.host) (to_be_bytes w16 a.port), length-take (host_len a.v6) a.host, few a.v6)
  where
    few : (b : Bool) → host_len b ≤ 16
    few true = omega arith
    few false = omega arith

addresses_behind : (addresses : List AddressParts) (bytes : List ℕ) → length (fold (λ all address. all ++ address_bytes address) bytes addresses) ≤ length bytes + 19 * length addresses
addresses_behind [] bytes = omega arith
addresses_behind (a ∷ addresses) bytes = omega (arith, addresses_behind addresses (bytes ++ address_bytes a), length-append bytes (address_bytes a), length-address_bytes a)

pub length-addresses_bytes : (addresses : List AddressParts) → length (addresses_bytes addresses) ≤ 19 * length addresses
length-addresses_bytes addresses = omega (arith, addresses_behind addresses [])

-- the payload of a forwarded hello
pub fihello_length : (epd : List ℕ) (reply : AddressParts) (tag : List ℕ) → length epd ≤ 128 → length tag ≤ 128 → length (payload_bytes (FIHello epd reply tag)) ≤ 285
fihello_length epd reply tag p q =
    let rest : length (address_bytes reply ++ tag) ≤ 19 + 128 = two (address_bytes reply) tag 19 128 (length-address_bytes reply) q in
    omega (arith, two (field_bytes (Counted epd)) (address_bytes reply ++ tag) 138 147 (counted_length epd 128 p (omega arith)) (omega (arith, rest)))

pub redirect_length : (tag list : List ℕ) → length tag ≤ 128 → length list ≤ 304 → length (startup_packet (Redirect tag list)) ≤ 1164
redirect_length tag list p q =
    omega (arith, startup_length (Redirect tag list), two (field_bytes (Counted tag)) list 138 304 (counted_length tag 128 p (omega arith)) q)

pub cookiechange_length : (old new : List ℕ) → length old ≤ 128 → length new ≤ 128 → length (startup_packet (CookieChange old new)) ≤ 1164
cookiechange_length old new p q =
    omega (arith, startup_length (CookieChange old new), two (field_bytes (Counted old)) new 138 128 (counted_length old 128 p (omega arith)) q)

pub rhello_length : (tag cookie cert : List ℕ) → length tag ≤ 128 → length cookie ≤ 128 → length cert ≤ 80
    → length (startup_packet (RHello tag cookie cert)) ≤ 1164
rhello_length tag cookie cert p q r =
    let rest : length (field_bytes (Counted cookie) ++ cert) ≤ 138 + 80 = two (field_bytes (Counted cookie)) cert 138 80 (counted_length cookie 128 q (omega arith)) r in
    omega (
      arith,
      startup_length (RHello tag cookie cert),
      two (field_bytes (Counted tag)) (field_bytes (Counted cookie) ++ cert) 138 218 (counted_length tag 128 p (omega arith)) (omega (arith, rest)),
    )

pub iikeying_length : (near : ℕ) (cookie cert part sign : List ℕ) → length cookie ≤ 128 → length cert ≤ 80 → length part ≤ 80 → length sign ≤ 32
    → length (startup_packet (IIKeying near cookie cert part sign)) ≤ 1164
iikeying_length near cookie cert part sign p q r s =
    let third : length (field_bytes (Counted part) ++ sign) ≤ 90 + 32 = two (field_bytes (Counted part)) sign 90 32 (counted_length part 80 r (omega arith)) s in
    let second : length (field_bytes (Counted cert) ++ (field_bytes (Counted part) ++ sign)) ≤ 90 + 122 =
    two (field_bytes (Counted cert)) (field_bytes (Counted part) ++ sign) 90 122 (counted_length cert 80 q (omega arith)) (omega (arith, third)) in
    let first : length (field_bytes (Counted cookie) ++ (field_bytes (Counted cert) ++ (field_bytes (Counted part) ++ sign))) ≤ 138 + 212 =
    two (field_bytes (Counted cookie)) (field_bytes (Counted cert) ++ (field_bytes (Counted part) ++ sign)) 138 212 (counted_length cookie 128 p (omega arith)) (omega (arith, second)) in
    omega (
      arith,
      startup_length (IIKeying near cookie cert part sign),
      two (to_be_bytes w32 near) (field_bytes (Counted cookie) ++ (field_bytes (Counted cert) ++ (field_bytes (Counted part) ++ sign))) 4 350 (omega arith) (omega (arith, first)),
    )

pub rikeying_length : (near : ℕ) (part sign : List ℕ) → length part ≤ 80 → length sign ≤ 32 → length (startup_packet (RIKeying near part sign)) ≤ 1164
rikeying_length near part sign r s =
    let rest : length (field_bytes (Counted part) ++ sign) ≤ 90 + 32 = two (field_bytes (Counted part)) sign 90 32 (counted_length part 80 r (omega arith)) s in
    omega (
      arith,
      startup_length (RIKeying near part sign),
      two (to_be_bytes w32 near) (field_bytes (Counted part) ++ sign) 4 122 (omega arith) (omega (arith, rest)),
    )
