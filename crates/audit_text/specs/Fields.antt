-- How the words of a line are read, as functions.
use Rattle.std.specs.Prelude.{ℕ, ◌==◌, nat_le, Bool, true, false, if◌then◌else◌, List, length, codes, Option, Some, None}
use Rattle.std.specs.Str.{bytes_eq}
use Rattle.glare_core.specs.declared.facts.Why.{Why}
use Rattle.glare_core.specs.declared.facts.Why.TheVariants.{Cancelled, Expired, Glare, Override, Unconfirmed, Near, Far, Idle}
use Rattle.identity.specs.declared.cert.CertFault.{CertFault}
use Rattle.identity.specs.Certificates.{certificate_fault}
use Rattle.identity.specs.ServiceNames.{service_name_of}
use Rattle.rtmfp_script.specs.Fields.{split_of, digits_of, ◌>>=◌}

-- a word that is read so, and what stands behind its space
unfoldable pub first_by : {A : Type 0} → (List ℕ → Option A) → List ℕ → Option (A × List ℕ)
first_by read rest = split_of 32 rest >>= λ a. read a.0 >>= λ x. Some (x, a.1)

-- the bytes of so many digits
unfoldable pub of_digits : ℕ → List ℕ → Option (List ℕ)
of_digits count word = if length word == count then digits_of word else None

-- the service name of digits
unfoldable pub service_of : List ℕ → Option (List ℕ)
service_of word = if nat_le (length word) 128 then (digits_of word >>= service_name_of) else None

-- bytes in which nothing keeps them from being a certificate
abbrev pub sound_bytes : Option CertFault → List ℕ → Option (List ℕ)
sound_bytes None bytes = Some bytes
sound_bytes (Some fault) bytes = None

unfoldable pub certificate_in : List ℕ → Option (List ℕ)
certificate_in bytes = sound_bytes (certificate_fault bytes) bytes

-- the certificate of digits
unfoldable pub certificate_of : List ℕ → Option (List ℕ)
certificate_of word = if nat_le (length word) 160 then (digits_of word >>= certificate_in) else None

unfoldable pub why_of : List ℕ → Option Why
why_of word =
    if bytes_eq word (codes "cancelled") then Some Cancelled
    else if bytes_eq word (codes "expired") then Some Expired
    else if bytes_eq word (codes "glare") then Some Glare
    else if bytes_eq word (codes "override") then Some Override
    else if bytes_eq word (codes "unconfirmed") then Some Unconfirmed
    else if bytes_eq word (codes "near") then Some Near
    else if bytes_eq word (codes "far") then Some Far
    else if bytes_eq word (codes "idle") then Some Idle
    else None

-- whether the packet goes to the responder
unfoldable pub sender_of : List ℕ → Option Bool
sender_of word =
    if bytes_eq word (codes "i") then Some true
    else if bytes_eq word (codes "r") then Some false
    else None
