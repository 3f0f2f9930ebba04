-- Service names: 1 to 64 ASCII bytes, as the names of certificates are.
use Rattle.std.specs.Prelude.{ℕ, ◌≡◌, ◌≤◌, ◌&&◌, List, length, true, nat_lt, Option, Some, None, if◌then◌else◌}
use Rattle.std.specs.List.{list_all}

-- what bytes need to be a service name
pub record IsServiceName (bytes : List ℕ) : Type 0 where
  pub some : 1 ≤ length bytes
  pub few : length bytes ≤ 64
  pub ascii : list_all (λ b. nat_lt b 0x80) bytes ≡ true

-- the service name that these bytes are
abbrev pub service_name_of : List ℕ → Option (List ℕ)
service_name_of bytes =
    if nat_lt 0 (length bytes) && (nat_lt (length bytes) 65 && list_all (λ b. nat_lt b 0x80) bytes)
    then Some bytes else None
