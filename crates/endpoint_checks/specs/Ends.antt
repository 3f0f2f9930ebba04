-- What the table refuses of an Ended of an attempt, and of one that makes way for a Born.
use Rattle.std.specs.Prelude.{ℕ, ◌≢◌, List, [], ◌∷◌}
use Rattle.rtmfp_forms.specs.Address.{AddressParts}
use Rattle.crypto_profile.specs.declared.keys.Context.{Context}
use Rattle.identity.specs.Order.{Prevails}
use Rattle.rtmfp_base.specs.declared.cause.Cause.{Cause}
use Rattle.glare_core.specs.declared.facts.Why.TheVariants.{Cancelled, Expired, Glare, Override}
use Rattle.glare_core.specs.declared.facts.Fact.TheVariants.{Started, Born, Ended}
use Rattle.glare_core.specs.declared.facts.Joined.{Joined}
use Rattle.endpoint_model.specs.declared.config.Draws.{Draws}
use Rattle.endpoint_model.specs.declared.entry.Entry.TheVariants.{Fact as FactEntry, Discard, Out}
use Rattle.endpoint_model.specs.Event.{Setup, own_of, Call, Open, Cancel, Close, Receive, Tick, Event}
use Rattle.endpoint_laws.specs.Contexts.{Secrets}
use Rattle.endpoint_laws.specs.Past.{nothing_done, with_fact}
use Rattle.endpoint_laws.specs.Lawful.{EndedLine}
use Rattle.endpoint_checks.specs.Logs.{doing, says, IsRefused}

-- the log of an attempt that some call started at a moment, and then of one more event
abbrev pub after_start : ℕ → Call → List ℕ → Event → List Event
after_start moment c peer last = doing moment c (says (Started peer 1 5 peer)) ∷ last ∷ []

-- the log of a session that was born in some call, and then of one more event
abbrev pub after_birth : Call → Joined → Event → List Event
after_birth c j last = doing 0 c (says (Born j)) ∷ last ∷ []

-- Of an attempt with number 1 and session ID 5, whose end is stated.
pub record CancelsRefused (secrets : Secrets) (setup : Setup) (moment : ℕ) (c : Call)
    (draws : Draws) (peer : List ℕ) : Type 0 where
  -- another call than a cancel, or a cancel of another attempt
  pub in_open : (towards : List ℕ) (candidates : List AddressParts) →
      IsRefused secrets setup
      (after_start 0 c peer (doing moment (Open towards candidates draws)
      (says (Ended peer 5 Cancelled))))
  pub in_receive : (from : AddressParts) (datagram : List ℕ) →
      IsRefused secrets setup
      (after_start 0 c peer (doing moment (Receive from datagram draws)
      (says (Ended peer 5 Cancelled))))
  pub in_tick
      : IsRefused secrets setup
      (after_start 0 c peer (doing moment (Tick draws) (says (Ended peer 5 Cancelled))))
  pub in_close : (id : ℕ) →
      IsRefused secrets setup
      (after_start 0 c peer (doing moment (Close id) (says (Ended peer 5 Cancelled))))
  pub of_another : (m : ℕ) → m ≢ 1 →
      IsRefused secrets setup
      (after_start 0 c peer (doing moment (Cancel m) (says (Ended peer 5 Cancelled))))
  -- another session ID, another peer, nothing held, and a session
  pub other_id : (near : ℕ) → near ≢ 5 →
      IsRefused secrets setup
      (after_start 0 c peer (doing moment (Cancel 1) (says (Ended peer near Cancelled))))
  pub other_peer : (other : List ℕ) → peer ≢ other →
      IsRefused secrets setup
      (after_start 0 c peer (doing moment (Cancel 1) (says (Ended other 5 Cancelled))))
  pub of_nothing : (m near : ℕ) →
      IsRefused secrets setup (doing moment (Cancel m) (says (Ended peer near Cancelled)) ∷ [])
  pub of_session : (j : Joined) (m : ℕ) →
      IsRefused secrets setup
      (after_birth c j (doing moment (Cancel m) (says (Ended j.peer j.near Cancelled))))

pub record ExpiriesRefused (secrets : Secrets) (setup : Setup) (c : Call) (draws : Draws)
    (peer : List ℕ) : Type 0 where
  -- another call than a tick
  pub in_open : (moment : ℕ) (towards : List ℕ) (candidates : List AddressParts) →
      IsRefused secrets setup
      (after_start 0 c peer (doing moment (Open towards candidates draws)
      (says (Ended peer 5 Expired))))
  pub in_receive : (moment : ℕ) (from : AddressParts) (datagram : List ℕ) →
      IsRefused secrets setup
      (after_start 0 c peer (doing moment (Receive from datagram draws)
      (says (Ended peer 5 Expired))))
  pub in_cancel : (moment m : ℕ) →
      IsRefused secrets setup (after_start 0 c peer (doing moment (Cancel m) (says
      (Ended peer 5 Expired))))
  pub in_close : (moment id : ℕ) →
      IsRefused secrets setup (after_start 0 c peer (doing moment (Close id) (says
      (Ended peer 5 Expired))))
  -- a tick 94,999 ms after the start, also where that wasn't at 0
  pub early
      : IsRefused secrets setup
      (after_start 0 c peer (doing 94999 (Tick draws) (says (Ended peer 5 Expired))))
  pub early_later
      : IsRefused secrets setup
      (after_start 7 c peer (doing 95006 (Tick draws) (says (Ended peer 5 Expired))))
  -- another session ID, nothing held, and a session
  pub other_id : (moment near : ℕ) → near ≢ 5 →
      IsRefused secrets setup
      (after_start 0 c peer (doing moment (Tick draws) (says (Ended peer near Expired))))
  pub of_nothing : (moment near : ℕ) →
      IsRefused secrets setup (doing moment (Tick draws) (says (Ended peer near Expired)) ∷ [])
  pub of_session : (moment : ℕ) (j : Joined) →
      IsRefused secrets setup
      (after_birth c j (doing moment (Tick draws) (says (Ended j.peer j.near Expired))))
  -- one at 95,000 ms after the start meets the line
  pub in_time : EndedLine secrets setup 95000 (Tick draws)
      (with_fact 0 (Started peer 1 5 peer) nothing_done) [] peer 5 Expired

-- Of an attempt or a session that makes way for a Born of its peer: what follows it isn't that
-- Born.
pub record WaysRefused (secrets : Secrets) (setup : Setup) (moment : ℕ) (c d : Call) (peer : List ℕ)
    (j : Joined) : Type 0 where
  pub alone : IsRefused secrets setup (after_start 0 c peer (doing moment d (says
      (Ended peer 5 Glare))))
  pub in_next_event : (e : Call) (b : Joined) →
      IsRefused secrets setup (doing 0 c (says (Started peer 1 5 peer))
      ∷ doing moment d (says (Ended peer 5 Glare)) ∷ doing moment e (says (Born b)) ∷ [])
  pub after_discard : (at : ℕ) (cause : Cause) (b : Joined) →
      IsRefused secrets setup
      (after_start 0 c peer (doing moment d (FactEntry (Ended peer 5 Glare) ∷ Discard at cause
      ∷ FactEntry (Born b) ∷ [])))
  pub after_out : (to : AddressParts) (sent : List ℕ) (context : Context) (b : Joined) →
      IsRefused secrets setup
      (after_start 0 c peer (doing moment d (FactEntry (Ended peer 5 Glare) ∷ Out to sent context
      ∷ FactEntry (Born b) ∷ [])))
  pub of_another : (b : Joined) → b.peer ≢ peer →
      IsRefused secrets setup
      (after_start 0 c peer (doing moment d (FactEntry (Ended peer 5 Glare) ∷ FactEntry (Born b)
      ∷ [])))
  -- where this end prevails, or the peer is this end
  pub prevailing : (b : Joined) → (Prevails peer (own_of setup) → ⊥) →
      IsRefused secrets setup
      (after_start 0 c peer (doing moment d (FactEntry (Ended peer 5 Glare) ∷ FactEntry (Born b)
      ∷ [])))
  -- a session isn't ended by Glare, nor an attempt by Override
  pub of_session : (b : Joined) →
      IsRefused secrets setup
      (after_birth c j (doing moment d (FactEntry (Ended j.peer j.near Glare) ∷ FactEntry (Born b)
      ∷ [])))
  pub of_attempt : (b : Joined) →
      IsRefused secrets setup
      (after_start 0 c peer (doing moment d (FactEntry (Ended peer 5 Override) ∷ FactEntry (Born b)
      ∷ [])))
  -- and the same of Override
  pub override_alone
      : IsRefused secrets setup (after_birth c j (doing moment d (says
      (Ended j.peer j.near Override))))
  pub override_in_next_event : (e : Call) (b : Joined) →
      IsRefused secrets setup (doing 0 c (says (Born j))
      ∷ doing moment d (says (Ended j.peer j.near Override)) ∷ doing moment e (says (Born b)) ∷ [])
  pub override_after_discard : (at : ℕ) (cause : Cause) (b : Joined) →
      IsRefused secrets setup
      (after_birth c j (doing moment d (FactEntry (Ended j.peer j.near Override) ∷ Discard at cause
      ∷ FactEntry (Born b) ∷ [])))
  pub override_after_out : (to : AddressParts) (sent : List ℕ) (context : Context) (b : Joined) →
      IsRefused secrets setup
      (after_birth c j (doing moment d (FactEntry (Ended j.peer j.near Override)
      ∷ Out to sent context ∷ FactEntry (Born b) ∷ [])))
  pub override_of_another : (b : Joined) → b.peer ≢ j.peer →
      IsRefused secrets setup
      (after_birth c j (doing moment d (FactEntry (Ended j.peer j.near Override)
      ∷ FactEntry (Born b) ∷ [])))

abbrev pub TheTableRefusesCancels : Type 0
TheTableRefusesCancels = (secrets : Secrets) (setup : Setup) (moment : ℕ) (c : Call)
    (draws : Draws) (peer : List ℕ) →
    CancelsRefused secrets setup moment c draws peer

abbrev pub TheTableRefusesExpiries : Type 0
TheTableRefusesExpiries = (secrets : Secrets) (setup : Setup) (c : Call) (draws : Draws)
    (peer : List ℕ) →
    ExpiriesRefused secrets setup c draws peer

abbrev pub TheTableRefusesWays : Type 0
TheTableRefusesWays = (secrets : Secrets) (setup : Setup) (moment : ℕ) (c d : Call) (peer : List ℕ)
    (j : Joined) →
    WaysRefused secrets setup moment c d peer j
