-- Endpoint discriminators: the byte 0x01 and the 32 bytes of a fingerprint.
use Rattle.std.specs.Prelude.{ℕ, List, [], ◌∷◌, length, ◌==◌, ◌&&◌, Option, Some, None, if◌then◌else◌}
use Rattle.identity.specs.declared.discriminator.Epd.{Epd}

-- the discriminator that these bytes are
abbrev pub discriminator_of : List ℕ → Option Epd
discriminator_of [] = None
discriminator_of (kind ∷ print) = if (kind == 0x01) && (length print == 32) then
    Some (record { print = print }) else None
