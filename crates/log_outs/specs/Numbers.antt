-- Whether a number may be used, by what is kept.
use Rattle.std.specs.Prelude.{ℕ, List, Bool, not, ◌&&◌}
use Rattle.crypto_profile.specs.declared.keys.Context.{Context}
use Rattle.crypto_profile.specs.declared.keys.Context.TheVariants.{Startup, Session}
use Rattle.endpoint_laws.specs.Past.{Past, facts_of}
use Rattle.endpoint_laws.specs.Lawful.{AsFarAs, WasNumbered}
use Rattle.log_digest.specs.declared.numbers.Stamp.{Stamp}
use Rattle.log_digest.specs.Nonces.{NonceSet}
use Rattle.log_digest.specs.Numbers.{has_stamp, stamp_of}

-- No earlier datagram went out in this context with this number, as far as that is asked.
abbrev pub IsNew : Past → Context → List ℕ → Type 0
IsNew past context number = AsFarAs context (facts_of past) → WasNumbered context number past → ⊥

abbrev pub is_new : List Stamp → NonceSet → Context → List ℕ → Bool
is_new stamps nonces (Startup generation) number =
    not (has_stamp stamps (stamp_of (Startup generation) number))
is_new stamps nonces (Session generation ni nr fp_i fp_r sid_i sid_r to_responder) number =
    not (nonces.different && has_stamp stamps
    (stamp_of (Session generation ni nr fp_i fp_r sid_i sid_r to_responder) number))
