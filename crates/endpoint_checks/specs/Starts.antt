-- What the table refuses of a Started.
use Rattle.std.specs.Prelude.{ℕ, ◌≡◌, ◌≢◌, ◌≤◌, ◌^◌, List, [], ◌∷◌, ◌++◌, true}
use Rattle.rtmfp_forms.specs.Address.{AddressParts}
use Rattle.glare_core.specs.declared.facts.Why.{Why}
use Rattle.glare_core.specs.declared.facts.Why.TheVariants.{Cancelled}
use Rattle.glare_core.specs.declared.facts.Fact.TheVariants.{Started, Born, Opened, Confirmed, Ended}
use Rattle.glare_core.specs.declared.facts.Joined.{Joined}
use Rattle.endpoint_model.specs.declared.config.Draws.{Draws}
use Rattle.endpoint_model.specs.declared.entry.Entry.TheVariants.{Closed}
use Rattle.endpoint_model.specs.Event.{Setup, own_of, Call, Open, Cancel, Close, Receive, Tick, Event}
use Rattle.endpoint_laws.specs.Contexts.{Secrets}
use Rattle.endpoint_laws.specs.Past.{is_close}
use Rattle.endpoint_checks.specs.Logs.{doing, says, IsRefused}

-- Of an attempt towards a peer, with this number, session ID and nonce, in a call with these draws.
pub record StartsRefused (secrets : Secrets) (setup : Setup) (moment : ℕ)
    (candidates : List AddressParts) (draws : Draws) (peer : List ℕ) (n near : ℕ) (ni : List ℕ)
    : Type 0 where
  -- no call but an open starts one
  pub in_cancel : (m : ℕ) →
      IsRefused secrets setup (doing moment (Cancel m) (says (Started peer n near ni)) ∷ [])
  pub in_close : (id : ℕ) →
      IsRefused secrets setup (doing moment (Close id) (says (Started peer n near ni)) ∷ [])
  pub in_receive : (from : AddressParts) (datagram : List ℕ) →
      IsRefused secrets setup (doing moment (Receive from datagram draws) (says
      (Started peer n near ni))
      ∷ [])
  pub in_tick : IsRefused secrets setup (doing moment (Tick draws) (says (Started peer n near ni))
      ∷ [])
  -- an open towards another peer, and with another nonce
  pub other_peer : (towards : List ℕ) → towards ≢ peer →
      IsRefused secrets setup (doing moment (Open towards candidates draws) (says
      (Started peer n near ni))
      ∷ [])
  pub other_nonce : ni ≢ draws.nonce →
      IsRefused secrets setup
      (doing moment (Open peer candidates draws) (says (Started peer n near ni)) ∷ [])
  -- this end itself
  pub itself : peer ≡ own_of setup →
      IsRefused secrets setup
      (doing moment (Open peer candidates draws) (says (Started peer n near ni)) ∷ [])
  -- an attempt towards the peer, or a session with it, is held
  pub again : (id : ℕ) (nonce : List ℕ) →
      IsRefused secrets setup (doing moment (Open peer candidates draws) (says
      (Started peer 1 id nonce))
      ∷ doing moment (Open peer candidates draws) (says (Started peer n near ni)) ∷ [])
  pub with_session : (c : Call) (j : Joined) → j.peer ≡ peer →
      IsRefused secrets setup (doing moment c (says (Born j))
      ∷ doing moment (Open peer candidates draws) (says (Started peer n near ni)) ∷ [])
  -- its number isn't the next: the first is 1, and the second 2, whatever became of the first
  pub first_number : n ≢ 1 →
      IsRefused secrets setup
      (doing moment (Open peer candidates draws) (says (Started peer n near ni)) ∷ [])
  pub second_number : n ≢ 2 → (c d : Call) (other : List ℕ) (id : ℕ) (nonce : List ℕ) →
      IsRefused secrets setup (doing moment c (says (Started other 1 id nonce))
      ∷ doing moment d (says (Ended other id Cancelled))
      ∷ doing moment (Open peer candidates draws) (says (Started peer n near ni)) ∷ [])
  -- a number above 64 bits, after whatever log
  pub wide_number : (log : List Event) → 2 ^ 64 ≤ n →
      IsRefused secrets setup (log ++ doing moment (Open peer candidates draws)
      (says (Started peer n near ni)) ∷ [])
  -- the session ID 0
  pub zero : IsRefused secrets setup (doing moment (Open peer candidates draws) (says
      (Started peer n 0 ni))
      ∷ [])
  -- a session ID in use: of an attempt, of a session that was born, also when it is confirmed, and
  -- of one that was opened
  pub of_attempt : (c : Call) (other nonce : List ℕ) →
      IsRefused secrets setup (doing moment c (says (Started other 1 5 nonce))
      ∷ doing moment (Open peer candidates draws) (says (Started peer n 5 ni)) ∷ [])
  pub of_born : (c : Call) (j : Joined) → j.near ≡ 5 →
      IsRefused secrets setup (doing moment c (says (Born j))
      ∷ doing moment (Open peer candidates draws) (says (Started peer n 5 ni)) ∷ [])
  pub of_confirmed : (c d : Call) (j : Joined) → j.near ≡ 5 →
      IsRefused secrets setup (doing moment c (says (Born j))
      ∷ doing moment d (says (Confirmed j.peer 5))
      ∷ doing moment (Open peer candidates draws) (says (Started peer n 5 ni)) ∷ [])
  pub of_opened : (c d : Call) (other nonce : List ℕ) (j : Joined) →
      IsRefused secrets setup (doing moment c (says (Started other 1 5 nonce))
      ∷ doing moment d (says (Opened j)) ∷ doing moment (Open peer candidates draws)
      (says (Started peer n 5 ni)) ∷ [])
  -- of one that is closing, which either end closed
  pub of_closing : (c d : Call) (j : Joined) (why : Why) → is_close why ≡ true → j.near ≡ 5 →
      IsRefused secrets setup (doing moment c (says (Born j))
      ∷ doing moment d (says (Ended j.peer 5 why))
      ∷ doing moment (Open peer candidates draws) (says (Started peer n 5 ni)) ∷ [])
  -- one in use while another thing ended, or the closing of another session is over
  pub of_another : (c d e : Call) (first second nonce : List ℕ) →
      IsRefused secrets setup (
      doing moment c (says (Started first 1 5 nonce))
      ∷ doing moment d (says (Started second 2 6 nonce))
      ∷ doing moment e (says (Ended second 6 Cancelled))
      ∷ doing moment (Open peer candidates draws) (says (Started peer n 5 ni))
      ∷ [])
  pub of_another_closed : (c d : Call) (first nonce : List ℕ) (id : ℕ) → id ≢ 5 →
      IsRefused secrets setup (doing moment c (says (Started first 1 5 nonce))
      ∷ doing moment d (Closed id ∷ []) ∷ doing moment (Open peer candidates draws)
      (says (Started peer n 5 ni)) ∷ [])

abbrev pub TheTableRefusesStarts : Type 0
TheTableRefusesStarts = (secrets : Secrets) (setup : Setup) (moment : ℕ)
    (candidates : List AddressParts)
    (draws : Draws) (peer : List ℕ) (n near : ℕ) (ni : List ℕ)
    → StartsRefused secrets setup moment candidates draws peer n near ni
