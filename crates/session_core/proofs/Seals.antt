-- A packet that is sealed as a session's next.
use Rattle.std.proofs.Common.{◌≡◌, ℕ, ◌+◌, List, ap, refl, ◌∙◌, length, arith}
use Rattle.crypto_profile.specs.Sealing.{sealed}
use Rattle.crypto_profile.proofs.Opened.{length-sealed}
use Rattle.session_core.specs.Session.{SessionState}
use Rattle.session_core.specs.Sealed.{number_bytes, sealed_part}

pub sealed_next : (s : SessionState) (number plain packet : List ℕ) → number ≡ number_bytes (s.sealed + 1) → plain ≡ packet →
    sealed s.outward s.joined.far number plain ≡ sealed_part s packet
sealed_next s number plain packet of_number of_plain =
    ap (λ n. sealed s.outward s.joined.far n plain) of_number ∙ ap (sealed_part s) of_plain

pub length-part : (s : SessionState) (plain : List ℕ) → length (sealed_part s plain) ≡ 32 + length plain
length-part s plain = omega (arith, length-sealed s.outward s.joined.far (number_bytes (s.sealed + 1)) plain refl)
