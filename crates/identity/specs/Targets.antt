-- Targets: what a discriminator says whom it is for. The byte 0x01 and a fingerprint name one end;
-- the byte 0x02 and a service name all whose certificate has this name.
use Rattle.std.specs.Prelude.{ℕ, List, [], ◌∷◌, drop, ◌==◌, Bool, false, Option, Some, None, if◌then◌else◌}
use Rattle.std.specs.Option.{option_map}
use Rattle.std.specs.Str.{bytes_eq}
use Rattle.sha2.specs.Sha256.{sha256}
use Rattle.identity.specs.declared.target.Target.{Target}
use Rattle.identity.specs.declared.target.Target.TheVariants.{Print, Name}
use Rattle.identity.specs.Discriminators.{discriminator_of}
use Rattle.identity.specs.ServiceNames.{service_name_of}

-- the target that these bytes are
abbrev pub target_of : List ℕ → Option Target
target_of [] = None
target_of (kind ∷ rest) = if kind == 0x02 then option_map (λ name. Name name) (service_name_of rest)
    else option_map (λ epd. Print epd) (discriminator_of (kind ∷ rest))

-- whether it selects a certificate: by its fingerprint, or by the name behind its 16 instance bytes
abbrev pub is_selected : Target → List ℕ → Bool
is_selected (Print epd) cert = bytes_eq epd.print (sha256 cert)
is_selected (Name name) cert = bytes_eq name (drop 16 cert)

-- bytes that are no target select nothing
abbrev pub selects : Option Target → List ℕ → Bool
selects None cert = false
selects (Some target) cert = is_selected target cert
