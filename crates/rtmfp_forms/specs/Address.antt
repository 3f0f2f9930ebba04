-- Transport addresses (RFC 7016 section 2.1.5): a byte of flags, 4 or 16 bytes of host, 2 bytes of
-- port. Own: the five middle bits of the flags are ignored on reading, and written as 0.
use Rattle.std.specs.Prelude.{◌≡◌, ◌==◌, ℕ, ◌+◌, ◌-◌, ◌%◌, ◌^◌, ◌<◌, ◌≤◌, Bool, true, false, not, ◌&&◌, nat_le, if◌then◌else◌, List, [], ◌∷◌, ◌++◌, length, take, drop, replicate}
use Rattle.std.specs.Int.{w16, to_be_bytes}
use Rattle.std.specs.Str.{bytes_eq}

-- an address as contracts see it
pub record AddressParts : Type 0 where
  pub v6 : Bool
  pub origin : ℕ
  pub host : List ℕ
  pub port : ℕ

-- the bytes of a host that are sent
abbrev pub host_len : Bool → ℕ
host_len v6 = if v6 then 16 else 4

-- 16 bytes, the first four of them and then zeros for IPv4
pub record IsAddress (a : AddressParts) : Type 0 where
  pub origin : a.origin ≤ 3
  pub host : length a.host ≡ 16
  pub filled : drop (host_len a.v6) a.host ≡ replicate (16 - host_len a.v6) 0
  pub port : a.port < 2 ^ 16

-- family, host and port agree; the origin doesn't count
pub record SamePlace (a b : AddressParts) : Type 0 where
  pub family : a.v6 ≡ b.v6
  pub host : a.host ≡ b.host
  pub port : a.port ≡ b.port

-- the same as a function

abbrev pub is_same_family : Bool → Bool → Bool
is_same_family true v6 = v6
is_same_family false v6 = not v6

abbrev pub is_same_place : AddressParts → AddressParts → Bool
is_same_place a b = is_same_family a.v6 b.v6 && (bytes_eq a.host b.host && (a.port == b.port))

-- the bytes spell the address: the highest bit of the flags says IPv6, and the lowest two are the
-- origin
pub record AddressSpells (a : AddressParts) (b : List ℕ) : Type 0 where
  pub flags : ℕ
  pub flags_fit : flags < 256
  pub family : a.v6 ≡ nat_le 128 flags
  pub origin : a.origin ≡ flags % 4
  pub is_address : IsAddress a
  pub whole : b ≡ flags ∷ take (host_len a.v6) a.host ++ to_be_bytes w16 a.port

-- the one spelling that is written
abbrev pub address_bytes : AddressParts → List ℕ
address_bytes a = ((if a.v6 then 128 else 0) + a.origin) ∷ take (host_len a.v6) a.host
    ++ to_be_bytes w16 a.port

-- the flags, the host or the port isn't there whole
abbrev pub IsCutAddress : List ℕ → Type 0
IsCutAddress [] = Unit {0}
IsCutAddress (flags ∷ rest) = length rest < host_len (nat_le 128 flags) + 2
