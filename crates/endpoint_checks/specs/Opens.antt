-- What the table refuses of an Opened and of a Confirmed.
use Rattle.std.specs.FinMap.{get}
use Rattle.std.specs.Prelude.{ℕ, ◌≡◌, ◌≢◌, ◌<◌, ◌≤◌, ◌^◌, List, [], ◌∷◌, length, drop, take, replicate, true, Some}
use Rattle.crypto_profile.specs.declared.keys.Context.TheVariants.{Startup}
use Rattle.crypto_profile.specs.Hmac.{hmac}
use Rattle.crypto_profile.specs.Keys.{sign_key_of}
use Rattle.crypto_profile.specs.Sealing.{number_of}
use Rattle.packet_scramble.specs.Datagram.{sid_of}
use Rattle.rtmfp_forms.specs.Address.{AddressParts}
use Rattle.glare_core.specs.declared.facts.Fact.TheVariants.{Started, Born, Opened, Confirmed}
use Rattle.glare_core.specs.declared.facts.Joined.{Joined}
use Rattle.glare_core.specs.Tells.{as_responder}
use Rattle.endpoint_model.specs.declared.config.Draws.{Draws}
use Rattle.endpoint_model.specs.Event.{Setup, own_of, Call, Open, Cancel, Close, Receive, Tick, Event}
use Rattle.endpoint_laws.specs.Contexts.{Secrets, OpensUnder, session_context}
use Rattle.endpoint_model.specs.Keying.{responder_part}
use Rattle.endpoint_checks.specs.Logs.{doing, says, IsRefused}
use Rattle.endpoint_checks.specs.Brings.{Answer, BringsAnswer}

-- the log of the attempt of a session, and then of a call that opens it
abbrev pub opened_in : ℕ → Call → Call → Joined → List Event
opened_in moment c call j = doing 0 c (says (Started j.peer j.n j.near j.ni))
    ∷ doing moment call (says (Opened j)) ∷ []

pub record OpeningsRefused (secrets : Secrets) (setup : Setup) (moment : ℕ) (c : Call)
    (from : AddressParts) (sent : List ℕ) (draws : Draws) (j : Joined) : Type 0 where
  -- no call but one that takes a datagram opens one
  pub in_open : (towards : List ℕ) (candidates : List AddressParts) →
      IsRefused secrets setup (opened_in moment c (Open towards candidates draws) j)
  pub in_cancel : (m : ℕ) → IsRefused secrets setup (opened_in moment c (Cancel m) j)
  pub in_close : (near : ℕ) → IsRefused secrets setup (opened_in moment c (Close near) j)
  pub in_tick : IsRefused secrets setup (opened_in moment c (Tick draws) j)
  -- nothing is held, or another attempt, by its number, its session ID or its nonce, or a session
  pub no_attempt : IsRefused secrets setup (doing moment (Receive from sent draws) (says
      (Opened j)) ∷ [])
  pub other_number : (n : ℕ) → n ≢ j.n →
      IsRefused secrets setup (doing 0 c (says (Started j.peer n j.near j.ni))
      ∷ doing moment (Receive from sent draws) (says (Opened j)) ∷ [])
  pub other_id : (near : ℕ) → near ≢ j.near →
      IsRefused secrets setup (doing 0 c (says (Started j.peer j.n near j.ni))
      ∷ doing moment (Receive from sent draws) (says (Opened j)) ∷ [])
  pub other_nonce : (ni : List ℕ) → ni ≢ j.ni →
      IsRefused secrets setup (doing 0 c (says (Started j.peer j.n j.near ni))
      ∷ doing moment (Receive from sent draws) (says (Opened j)) ∷ [])
  pub other_peer : (peer : List ℕ) → peer ≢ j.peer →
      IsRefused secrets setup (doing 0 c (says (Started peer j.n j.near j.ni))
      ∷ doing moment (Receive from sent draws) (says (Opened j)) ∷ [])
  pub session_held : (b : Joined) → b.peer ≡ j.peer →
      IsRefused secrets setup (doing 0 c (says (Born b))
      ∷ doing moment (Receive from sent draws) (says (Opened j)) ∷ [])
  -- a datagram that is too short to open, one under another session ID, and one that doesn't open
  -- in the startup context of the first generation
  pub short : length sent < 36 → IsRefused secrets setup (opened_in moment c
      (Receive from sent draws) j)
  pub under_another : sid_of sent ≢ j.near →
      IsRefused secrets setup (opened_in moment c (Receive from sent draws) j)
  pub unopened : ((plain : List ℕ) →
      OpensUnder secrets (Startup setup.generation) j.near sent plain → ⊥) →
      IsRefused secrets setup (opened_in moment c (Receive from sent draws) j)
  -- a count above 64 bits
  pub wide_count : 2 ^ 64 ≤ j.k → IsRefused secrets setup (opened_in moment c
      (Receive from sent draws) j)

-- Of a datagram under the attempt's session ID whose only chunk is this responder's keying.
pub record AnswersRefused (secrets : Secrets) (setup : Setup) (moment : ℕ) (c : Call)
    (from : AddressParts) (sent : List ℕ) (draws : Draws) (j : Joined) (a : Answer) : Type 0 where
  pub other_far : a.near ≢ j.far → IsRefused secrets setup (opened_in moment c
      (Receive from sent draws) j)
  pub other_part : a.part ≢ responder_part j.nr j.k j.peer j.ni →
      IsRefused secrets setup (opened_in moment c (Receive from sent draws) j)
  pub unsigned : a.sign ≢ hmac (sign_key_of setup.secret) a.before →
      IsRefused secrets setup (opened_in moment c (Receive from sent draws) j)

-- the log of a birth, and then of a call that confirms the session
abbrev pub confirmed_in : ℕ → Call → Call → Joined → List Event
confirmed_in moment c call j = doing 0 c (says (Born j))
    ∷ doing moment call (says (Confirmed j.peer j.near)) ∷ []

pub record ConfirmsRefused (secrets : Secrets) (setup : Setup) (moment : ℕ) (c : Call)
    (from : AddressParts) (sent : List ℕ) (draws : Draws) (j : Joined) : Type 0 where
  pub in_open : (towards : List ℕ) (candidates : List AddressParts) →
      IsRefused secrets setup (confirmed_in moment c (Open towards candidates draws) j)
  pub in_cancel : (m : ℕ) → IsRefused secrets setup (confirmed_in moment c (Cancel m) j)
  pub in_close : (near : ℕ) → IsRefused secrets setup (confirmed_in moment c (Close near) j)
  pub in_tick : IsRefused secrets setup (confirmed_in moment c (Tick draws) j)
  -- nothing is held, or an attempt, or another session ID's
  pub nothing_held
      : IsRefused secrets setup
      (doing moment (Receive from sent draws) (says (Confirmed j.peer j.near)) ∷ [])
  pub attempt_held : IsRefused secrets setup (doing 0 c (says (Started j.peer 1 j.near j.ni))
      ∷ doing moment (Receive from sent draws) (says (Confirmed j.peer j.near)) ∷ [])
  pub other_id : (near : ℕ) → near ≢ j.near →
      IsRefused secrets setup (doing 0 c (says (Born j))
      ∷ doing moment (Receive from sent draws) (says (Confirmed j.peer near)) ∷ [])
  -- it is confirmed already
  pub again : (d : Call) →
      IsRefused secrets setup (doing 0 c (says (Born j))
      ∷ doing 0 d (says (Confirmed j.peer j.near))
      ∷ doing moment (Receive from sent draws) (says (Confirmed j.peer j.near)) ∷ [])
  -- a datagram that is too short to open, one under another session ID, one whose number no packet
  -- of a session has, and one that doesn't open in the session's context towards this end
  pub short : length sent < 36 → IsRefused secrets setup (confirmed_in moment c
      (Receive from sent draws) j)
  pub under_another : sid_of sent ≢ j.near →
      IsRefused secrets setup (confirmed_in moment c (Receive from sent draws) j)
  pub other_form : take 8 (number_of (drop 4 sent)) ≢ replicate 8 0 →
      IsRefused secrets setup (confirmed_in moment c (Receive from sent draws) j)
  pub unopened : ((plain : List ℕ) →
      OpensUnder secrets (session_context setup.generation (as_responder (own_of setup) j) true)
      j.near sent plain → ⊥) →
      IsRefused secrets setup (confirmed_in moment c (Receive from sent draws) j)

abbrev pub TheTableRefusesOpenings : Type 0
TheTableRefusesOpenings = (secrets : Secrets) (setup : Setup) (moment : ℕ) (c : Call)
    (from : AddressParts)
    (sent : List ℕ) (draws : Draws) (j : Joined) →
    OpeningsRefused secrets setup moment c from sent draws j

abbrev pub TheTableRefusesAnswers : Type 0
TheTableRefusesAnswers = (secrets : Secrets) (setup : Setup) (moment : ℕ) (c : Call)
    (from : AddressParts)
    (sent : List ℕ) (draws : Draws) (j : Joined) (a : Answer)
    → get secrets setup.generation ≡ Some setup.secret →
    BringsAnswer secrets setup.generation j.near sent a →
    AnswersRefused secrets setup moment c from sent draws j a

abbrev pub TheTableRefusesConfirms : Type 0
TheTableRefusesConfirms = (secrets : Secrets) (setup : Setup) (moment : ℕ) (c : Call)
    (from : AddressParts)
    (sent : List ℕ) (draws : Draws) (j : Joined) →
    ConfirmsRefused secrets setup moment c from sent draws j
