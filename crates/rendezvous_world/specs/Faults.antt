-- Why a step is refused, in the order of the reasons.
use Rattle.std.specs.Prelude.{ℕ, ◌-◌, ◌==◌, ◌||◌, ◌&&◌, not, nat_lt, nat_le, Bool, false, List, [], ◌∷◌, length, Option, Some, None, is_none, if◌then◌else◌}
use Rattle.std.specs.List.{list_any}
use Rattle.std.specs.Str.{bytes_eq}
use Rattle.crypto_profile.specs.declared.keys.Context.{Context}
use Rattle.crypto_profile.specs.Keys.{same_context}
use Rattle.sha2.specs.Sha256.{sha256}
use Rattle.rtmfp_base.specs.Reasons.{first_that_stands, where_true}
use Rattle.endpoint_model.specs.Event.{own_of}
use Rattle.endpoint_laws.specs.OpensIn.{opens_in}
use Rattle.rendezvous_world.specs.declared.step.Step.{Step}
use Rattle.rendezvous_world.specs.declared.step.StepFault.{StepFault}
use Rattle.rendezvous_world.specs.declared.step.StepFault.TheVariants.{NoEnd, NoDatagram, BadStep, Forged}
use Rattle.rendezvous_world.specs.Seen.{EndSeen, Seen}
use Rattle.rendezvous_world.specs.Sent.{Sent, sent_in}
use Rattle.rendezvous_world.specs.Deed.{Source, Injected, Sealed, Deed, NewEnd, NewMoment, Calls, Brings, deed_of, narrows_beyond}
use Rattle.rendezvous_world.specs.Calls.{peer_in}
use Rattle.rendezvous_world.specs.Datagrams.{datagram_for}

-- ---- an end that isn't there

abbrev pub is_missing : Seen → ℕ → Bool
is_missing w end = nat_le (length w.ends) end

abbrev pub lacks_peer : Seen → Option ℕ → Bool
lacks_peer w None = false
lacks_peer w (Some peer) = is_missing w peer

-- an end that the deed names isn't there
abbrev pub lacks_end_in : Seen → Deed → Bool
lacks_end_in w (Calls end call) = lacks_peer w (peer_in call) || is_missing w end
lacks_end_in w (Brings end from source) = is_missing w end
lacks_end_in w deed = false

abbrev pub lacks_end : Seen → Step → Bool
lacks_end w step = lacks_end_in w (deed_of step)

-- ---- a datagram that isn't there

abbrev pub lacks_datagram_in : Seen → Deed → Bool
lacks_datagram_in w (Brings end from source) = is_none (datagram_for w end source)
lacks_datagram_in w deed = false

abbrev pub lacks_datagram : Seen → Step → Bool
lacks_datagram w step = lacks_datagram_in w (deed_of step)

-- ---- a step outside its limits

abbrev pub is_outside : ℕ → ℕ → Bool
is_outside most count = (count == 0) || nat_lt most count

-- an end has this name, or this fingerprint
abbrev pub is_like : List ℕ → List ℕ → EndSeen → Bool
is_like name cert end = bytes_eq end.name name || bytes_eq (own_of end.setup) (sha256 cert)

-- the bytes or the plain packet that are brought are too long
abbrev pub is_long : Source → Bool
is_long (Injected bytes) = nat_lt 2048 (length bytes)
is_long (Sealed plain) = nat_lt 1164 (length plain)
is_long source = false

abbrev pub is_bad_in : Seen → Deed → Bool
is_bad_in w (NewEnd name max_peers max_sessions cert) =
    list_any (is_like name cert) w.ends || nat_le 1024 (length w.ends)
    || is_outside 1048576 max_peers || is_outside 65536 max_sessions
is_bad_in w (NewMoment moment) = nat_lt moment w.moment
is_bad_in w (Calls end call) = narrows_beyond (Calls end call)
is_bad_in w (Brings end from source) = is_long source

abbrev pub is_bad : Seen → Step → Bool
is_bad w step = is_bad_in w (deed_of step)

-- ---- a datagram that is forged

-- the datagram was sent with these bytes in this context
abbrev pub is_sent : List ℕ → Context → Sent → Bool
is_sent bytes context sent = bytes_eq sent.datagram bytes && same_context sent.context context

abbrev pub is_unsent_in : Option Context → List ℕ → List Sent → Bool
is_unsent_in None bytes sent = false
is_unsent_in (Some context) bytes sent = not (list_any (is_sent bytes context) sent)

-- the end with this number opens the datagram in some context, and none of these was sent with its
-- bytes in that context
abbrev pub is_forged_at : List EndSeen → ℕ → List ℕ → List Sent → Bool
is_forged_at [] who bytes sent = false
is_forged_at (end ∷ ends) who bytes sent = if who == 0 then
    is_unsent_in (opens_in end.state bytes) bytes sent else is_forged_at ends (who - 1) bytes sent

abbrev pub is_forged_by : Seen → ℕ → Option (List ℕ) → Bool
is_forged_by w end None = false
is_forged_by w end (Some bytes) = is_forged_at w.ends end bytes (sent_in w.lines)

abbrev pub is_forged_in : Seen → Deed → Bool
is_forged_in w (Brings end from source) =
    is_forged_by w end (datagram_for w end source)
is_forged_in w deed = false

abbrev pub is_forged : Seen → Step → Bool
is_forged w step = is_forged_in w (deed_of step)

-- why the step is refused, but for want of memory
abbrev pub step_fault : Seen → Step → Option StepFault
step_fault w step =
    first_that_stands (
    where_true (lacks_end w step) NoEnd
    ∷ where_true (lacks_datagram w step) NoDatagram
    ∷ where_true (is_bad w step) BadStep
    ∷ where_true (is_forged w step) Forged
    ∷ [])
