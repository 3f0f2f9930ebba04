-- Certificates: 16 instance bytes and a name of 1 to 64 ASCII bytes.
use Rattle.std.specs.Prelude.{ℕ, ◌≡◌, ◌+◌, ◌≤◌, List, length, drop, Bool, true, nat_lt, Option, Some, None, if◌then◌else◌}
use Rattle.std.specs.List.{list_all}
use Rattle.identity.specs.declared.cert.CertFault.{CertFault}
use Rattle.identity.specs.declared.cert.CertFault.TheVariants.{Short, LongName, NotAscii}

-- each byte after the instance bytes is an ASCII character
abbrev pub has_ascii_name : List ℕ → Bool
has_ascii_name bytes = list_all (λ b. nat_lt b 0x80) (drop 16 bytes)

-- what bytes need to be a certificate
pub record IsCertificate (bytes : List ℕ) : Type 0 where
  pub named : 16 + 1 ≤ length bytes
  pub short_named : length bytes ≤ 16 + 64
  pub ascii : has_ascii_name bytes ≡ true

-- why bytes are no certificate, the first reason that stands
abbrev pub certificate_fault : List ℕ → Option CertFault
certificate_fault bytes =
    if nat_lt (length bytes) 17 then Some Short
    else (if nat_lt 80 (length bytes) then Some LongName
    else (if has_ascii_name bytes then None else Some NotAscii))
