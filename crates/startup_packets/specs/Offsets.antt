-- Where the fields of a keying's payload stand, however long their lengths are spelled.
use Rattle.std.specs.Prelude.{◌≡◌, ℕ, List, ◌++◌, length, take, drop}
use Rattle.rtmfp_vlu.specs.Vlu.{VluSpells}
use Rattle.startup_packets.specs.Readings.{cert_offset, part_offset}

-- The certificate stands at its offset: behind the session ID, the cookie behind its length a, and
-- its own length b.
abbrev pub CertificateStandsThere : Type 0
CertificateStandsThere = (id a cookie b cert others : List ℕ) → length id ≡ 4 →
    VluSpells (length cookie) a → VluSpells (length cert) b
    → let payload = id ++ (a ++ (cookie ++ (b ++ (cert ++ others)))) in
    take (length cert) (drop (cert_offset payload (length cookie)) payload) ≡ cert

-- The part stands at its offset: before the signature, with which the payload ends.
abbrev pub PartStandsThere : Type 0
PartStandsThere = (before part sign : List ℕ)
    → let payload = before ++ (part ++ sign) in
    take (length part) (drop (part_offset payload part sign) payload) ≡ part
