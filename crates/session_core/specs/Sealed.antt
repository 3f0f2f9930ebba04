-- Packets of a session sealed.
use Rattle.std.specs.Prelude.{ℕ, ◌+◌, ◌-◌, ◌^◌, ◌==◌, List, ◌++◌, length, take, drop, replicate, Bool, Option, None, Some, if◌then◌else◌}
use Rattle.std.specs.Int.{w64, to_be_bytes}
use Rattle.crypto_profile.specs.Sealing.{sealed}
use Rattle.session_core.specs.Session.{SessionState}

-- the number of a session's packet, by its count: 8 zero bytes and 8 bytes of the count
abbrev pub number_bytes : ℕ → List ℕ
number_bytes count = replicate 8 0 ++ to_be_bytes w64 count

-- the sealed part of a session's next packet
abbrev pub sealed_part : SessionState → List ℕ → List ℕ
sealed_part s plain = sealed s.outward s.joined.far (number_bytes (s.sealed + 1)) plain

-- all counts are used
abbrev pub is_spent : SessionState → Bool
is_spent s = s.sealed == 2 ^ 64 - 1

-- the length of the datagram: 4 bytes of its session ID and 32 bytes before the ciphertext; none
-- where all counts are used
abbrev pub seal_answer : SessionState → List ℕ → Option ℕ
seal_answer s plain = if is_spent s then None else Some (36 + length plain)

abbrev pub after_seal : SessionState → SessionState
after_seal s = if is_spent s then s else record s { sealed = s.sealed + 1 }

-- the buffer with the sealed part from byte 4 on
abbrev pub with_part : List ℕ → List ℕ → List ℕ
with_part out part = take 4 out ++ part ++ drop (4 + length part) out

abbrev pub sealed_into : SessionState → List ℕ → List ℕ → List ℕ
sealed_into s plain out = if is_spent s then out else with_part out (sealed_part s plain)
