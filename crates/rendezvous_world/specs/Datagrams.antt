-- The datagram that a step brings to an end.
use Rattle.std.specs.Prelude.{ℕ, ◌-◌, ◌==◌, nat_lt, List, [], ◌∷◌, length, replicate, slice_index, slice_set, bit_xor, Option, Some, None, if◌then◌else◌}
use Rattle.crypto_profile.specs.declared.keys.Context.TheVariants.{Startup}
use Rattle.crypto_profile.specs.Sealing.{sealed_in}
use Rattle.packet_scramble.specs.Datagram.{datagram}
use Rattle.counted_secrets.specs.Secrets.{counted_secret}
use Rattle.rendezvous_world.specs.Deed.{Source, Delivered, Turned, Injected, Sealed, Deed, Brings, deed_of}
use Rattle.rendezvous_world.specs.Sent.{Sent, sent_in}
use Rattle.rendezvous_world.specs.declared.step.Step.{Step}
use Rattle.rendezvous_world.specs.Seen.{EndSeen, Seen, generation_at}

-- the first of a list, the second and so on, counted from 1
abbrev pub nth : {A : Type 0} → List A → ℕ → Option A
nth [] number = None
nth (x ∷ xs) number = if number == 0 then None else if number == 1 then Some x
    else nth xs (number - 1)

abbrev pub bytes_of : Option Sent → Option (List ℕ)
bytes_of None = None
bytes_of (Some sent) = Some sent.datagram

-- the lowest bit of the byte at a place is turned; none where the place isn't there
abbrev pub bent : ℕ → Option (List ℕ) → Option (List ℕ)
bent place None = None
bent place (Some bytes) = if nat_lt place (length bytes) then
    Some (slice_set bytes place (bit_xor (slice_index bytes place) 1)) else None

-- the number of a packet that nobody sent
abbrev pub forged_number : List ℕ
forged_number = replicate 16 0xff

-- a plain packet, sealed for startup in a generation under session ID 0
abbrev pub forged : ℕ → List ℕ → List ℕ
forged generation plain = datagram 0
    (sealed_in (counted_secret generation) (Startup generation) 0 forged_number plain)

-- A datagram that is had so by an end with this current generation, where these were sent before;
-- none where it isn't there.
abbrev pub datagram_had : List Sent → ℕ → Source → Option (List ℕ)
datagram_had sent generation (Delivered number) = bytes_of (nth sent number)
datagram_had sent generation (Turned number place) = bent place (bytes_of (nth sent number))
datagram_had sent generation (Injected bytes) = Some bytes
datagram_had sent generation (Sealed plain) = Some (forged generation plain)

-- the same of an end of a world
abbrev pub datagram_for : Seen → ℕ → Source → Option (List ℕ)
datagram_for w end source = datagram_had (sent_in w.lines) (generation_at w.ends end) source

-- the datagram that a deed brings to one of these ends; none where it isn't there, or the deed
-- brings none
abbrev pub datagram_from : List Sent → List EndSeen → Deed → Option (List ℕ)
datagram_from sent ends (Brings end from source) =
    datagram_had sent (generation_at ends end) source
datagram_from sent ends deed = None

abbrev pub datagram_in : Seen → Deed → Option (List ℕ)
datagram_in w deed = datagram_from (sent_in w.lines) w.ends deed

abbrev pub datagram_of : Seen → Step → Option (List ℕ)
datagram_of w step = datagram_in w (deed_of step)
