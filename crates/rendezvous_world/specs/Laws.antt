-- The laws of worlds.
use Rattle.std.specs.Prelude.{ℕ, ◌≡◌, ◌<◌, ◌^◌, ◌⊎◌, List, [], slice_get, None, Some, true}
use Rattle.identity.specs.Certificates.{IsCertificate}
use Rattle.rtmfp_forms.specs.Address.{AddressParts}
use Rattle.endpoint_model.specs.declared.config.Draws.{Draws}
use Rattle.endpoint_model.specs.Event.{Receive}
use Rattle.endpoint_laws.specs.History.{IsHonestCall, past_at}
use Rattle.endpoint_laws.specs.Laws.{AreBytes}
use Rattle.endpoint_laws.specs.Agreed.{IsAgreed}
use Rattle.rendezvous_world.specs.declared.journal.JournalLine.{JournalLine}
use Rattle.rendezvous_world.specs.declared.step.Step.{Step}
use Rattle.rendezvous_world.specs.Deed.{Deed, NewEnd, Calls, deed_of}
use Rattle.rendezvous_world.specs.Calls.{IsSizedCall}
use Rattle.rendezvous_world.specs.Entering.{IsSizedDeed}
use Rattle.rendezvous_world.specs.Seen.{group_secrets, EndSeen, Seen, setup_at}
use Rattle.rendezvous_world.specs.Sent.{sent_in}
use Rattle.rendezvous_world.specs.Datagrams.{datagram_in}
use Rattle.rendezvous_world.specs.History.{bytes_or_none, history_of}
use Rattle.rendezvous_world.specs.Faults.{is_forged_at, step_fault}
use Rattle.rendezvous_world.specs.Stepping.{Called, Stepped, StoppedIn, Noted}
use Rattle.rendezvous_world.specs.Sound.{IsSound, AreBelow}
use Rattle.rendezvous_world.specs.Handing.{MessagesGoOver}
use Rattle.rendezvous_world.specs.Kept.{IsWorld}

-- Where what each step keeps holds of a world, its history is lawful, honest and fresh, and each
-- end stands for its own log, but that it may keep a later moment.
abbrev pub EveryWorldIsSound : Type 0
EveryWorldIsSound = (w : Seen) → IsWorld w → IsSound w

-- And its history is agreed: at each moment, what its ends stated of their sessions with each other
-- fits together.
abbrev pub EveryWorldIsAgreed : Type 0
EveryWorldIsAgreed = (w : Seen) → IsWorld w →
    IsAgreed group_secrets (setup_at w.ends) (history_of w)

-- And the messages of its flows go over: whole, none twice, and in queueing order where a flow is in
-- that, skipping only abandoned ones.
abbrev pub EveryWorldHandsOver : Type 0
EveryWorldHandsOver = (w : Seen) → IsWorld w → MessagesGoOver (setup_at w.ends) (history_of w)

-- A step that isn't refused and calls an end keeps it, whatever the end answered.
abbrev pub EveryCallKeepsAWorld : Type 0
EveryCallKeepsAWorld =
    (w : Seen) (number : ℕ) (step : Step) (line : JournalLine) (t : Seen) → IsWorld w →
    AreBelow w.lines number → number < 2 ^ 32 → step_fault w step ≡ None →
    Called w number step line t → AreBytes (bytes_or_none line.datagram) →
    IsSizedDeed (deed_of step) → IsWorld t

-- A datagram for which a step is refused as forged would break that the history is honest: taken
-- next by that end, with whatever values, it wasn't sent in the context in which it opens.
abbrev pub EveryForgedDatagramIsDishonest : Type 0
EveryForgedDatagramIsDishonest =
    (w : Seen) (who : ℕ) (end : EndSeen) (bytes : List ℕ) (from : AddressParts) (draws : Draws) →
    IsWorld w → slice_get w.ends who ≡ Some end →
    is_forged_at w.ends who bytes (sent_in w.lines) ≡ true →
    IsHonestCall group_secrets (setup_at w.ends who) (past_at who (history_of w)) (history_of w)
    (Receive from bytes draws) → ⊥

-- ---- a whole run

-- no ends and no lines, at moment 0
abbrev pub empty_world : Seen
empty_world = record { moment = 0; ends = []; lines = [] }

-- A new end is given a certificate, a search is for the name of a service, and the datagram that a
-- step brings is bytes.
abbrev pub IsSizedIn : Seen → Deed → Type 0
IsSizedIn w (NewEnd name max_peers max_sessions cert) = IsCertificate cert
IsSizedIn w (Calls end call) = IsSizedCall call
IsSizedIn w deed = AreBytes (bytes_or_none (datagram_in w deed))

abbrev pub IsSized : Seen → Step → Type 0
IsSized w step = IsSizedIn w (deed_of step)

-- A step that isn't refused keeps it, whether it was done or found no memory, also where an end has
-- noted the moment alone.
abbrev pub EveryStepKeepsAWorld : Type 0
EveryStepKeepsAWorld =
    (w : Seen) (number : ℕ) (step : Step) (t : Seen) → IsWorld w → AreBelow w.lines number →
    number < 2 ^ 32 → IsSized w step → step_fault w step ≡ None →
    Stepped w number step t ⊎ (StoppedIn w number step t ⊎ Noted w step t) → IsWorld t
