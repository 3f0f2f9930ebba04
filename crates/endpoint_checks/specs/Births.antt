-- What the table refuses of a Born.
use Rattle.std.specs.FinMap.{get}
use Rattle.std.specs.Prelude.{ℕ, ◌≡◌, ◌≢◌, ◌+◌, ◌<◌, ◌≤◌, ◌^◌, List, [], ◌∷◌, length, true, Some}
use Rattle.sha2.specs.Sha256.{sha256}
use Rattle.crypto_profile.specs.declared.keys.Context.TheVariants.{Startup}
use Rattle.crypto_profile.specs.Hmac.{hmac}
use Rattle.crypto_profile.specs.Keys.{sign_key_of}
use Rattle.packet_scramble.specs.Datagram.{sid_of}
use Rattle.rtmfp_forms.specs.Address.{AddressParts, SamePlace}
use Rattle.rtmfp_packet.specs.declared.head.Mode.TheVariants.{Startup as StartupMode}
use Rattle.rtmfp_packet.specs.Whole.{Whole}
use Rattle.cookies.specs.Cookie.{IsCookieOf, cookie_of}
use Rattle.identity.specs.Certificates.{IsCertificate}
use Rattle.glare_core.specs.declared.facts.Why.{Why}
use Rattle.glare_core.specs.declared.facts.Why.TheVariants.{Cancelled, Override}
use Rattle.glare_core.specs.declared.facts.Fact.TheVariants.{Started, Born, Opened, Ended}
use Rattle.glare_core.specs.declared.facts.Joined.{Joined}
use Rattle.endpoint_model.specs.declared.config.Draws.{Draws}
use Rattle.endpoint_model.specs.declared.entry.Entry.TheVariants.{Fact as FactEntry}
use Rattle.endpoint_model.specs.Event.{Setup, own_of, Call, Open, Cancel, Close, Receive, Tick, Event}
use Rattle.endpoint_laws.specs.Past.{is_close}
use Rattle.endpoint_laws.specs.Contexts.{Secrets, OpensUnder, ReadsUnder}
use Rattle.endpoint_model.specs.Keying.{chunks_of, initiator_part}
use Rattle.endpoint_checks.specs.Logs.{doing, says, IsRefused, joined}
use Rattle.endpoint_checks.specs.Brings.{Keying, BringsKeying}

-- the log of a call that states a birth
abbrev pub born_in : ℕ → Call → Joined → List Event
born_in moment call j = doing moment call (says (Born j)) ∷ []

-- Of a session that is born of a datagram, as the first thing that an end does.
pub record BirthsRefused (secrets : Secrets) (setup : Setup) (moment : ℕ) (from : AddressParts)
    (sent : List ℕ) (draws : Draws) (j : Joined) : Type 0 where
  -- no call but one that takes a datagram bears one
  pub in_open : (towards : List ℕ) (candidates : List AddressParts) →
      IsRefused secrets setup (born_in moment (Open towards candidates draws) j)
  pub in_cancel : (n : ℕ) → IsRefused secrets setup (born_in moment (Cancel n) j)
  pub in_close : (near : ℕ) → IsRefused secrets setup (born_in moment (Close near) j)
  pub in_tick : IsRefused secrets setup (born_in moment (Tick draws) j)
  -- a datagram that is too short to open, one under another session ID than 0, and one that doesn't
  -- open in the startup context of the first generation
  pub short : length sent < 36 → IsRefused secrets setup (born_in moment
      (Receive from sent draws) j)
  pub other_id : sid_of sent ≢ 0 → IsRefused secrets setup (born_in moment
      (Receive from sent draws) j)
  pub unopened : ((plain : List ℕ) →
      OpensUnder secrets (Startup setup.generation) 0 sent plain → ⊥) →
      IsRefused secrets setup (born_in moment (Receive from sent draws) j)
  -- a packet of another mode, and one without chunks
  pub other_mode : (packet : Whole) → ReadsUnder secrets (Startup setup.generation) 0 sent packet →
      packet.head.mode ≢ StartupMode → IsRefused secrets setup (born_in moment
      (Receive from sent draws) j)
  pub no_chunk : (packet : Whole) → ReadsUnder secrets (Startup setup.generation) 0 sent packet →
      chunks_of packet ≡ [] → IsRefused secrets setup (born_in moment (Receive from sent draws) j)
  -- session ID 0, a nonce that wasn't drawn, and another count of attempts
  pub zero : j.near ≡ 0 → IsRefused secrets setup (born_in moment (Receive from sent draws) j)
  pub other_nonce : j.nr ≢ draws.nonce →
      IsRefused secrets setup (born_in moment (Receive from sent draws) j)
  pub other_count : j.k ≢ 0 → IsRefused secrets setup (born_in moment (Receive from sent draws) j)
  -- what no keying may say: the session ID 0, a number above 64 bits, the number 0, which isn't
  -- new, and a nonce of another size
  pub zero_far : j.far ≡ 0 → IsRefused secrets setup (born_in moment (Receive from sent draws) j)
  pub wide_number : 2 ^ 64 ≤ j.n → IsRefused secrets setup (born_in moment
      (Receive from sent draws) j)
  pub not_new : j.n ≡ 0 → IsRefused secrets setup (born_in moment (Receive from sent draws) j)
  pub nonce_size : length j.ni ≢ 16 → IsRefused secrets setup (born_in moment
      (Receive from sent draws) j)
  -- an end that may know nobody, and one that may hold nothing
  pub no_row : setup.config.max_peers ≡ 0 →
      IsRefused secrets setup (born_in moment (Receive from sent draws) j)
  pub no_place : setup.config.max_sessions ≡ 0 →
      IsRefused secrets setup (born_in moment (Receive from sent draws) j)

-- Of a datagram whose first initiator's keying is this.
pub record KeyingsRefused (secrets : Secrets) (setup : Setup) (moment : ℕ) (from : AddressParts)
    (sent : List ℕ) (draws : Draws) (j : Joined) (k : Keying) : Type 0 where
  -- what the session has isn't what the first keying says
  pub other_far : k.near ≢ j.far → IsRefused secrets setup (born_in moment
      (Receive from sent draws) j)
  pub other_part : k.part ≢ initiator_part j.ni j.n (own_of setup) →
      IsRefused secrets setup (born_in moment (Receive from sent draws) j)
  pub other_peer : j.peer ≢ sha256 k.cert →
      IsRefused secrets setup (born_in moment (Receive from sent draws) j)
  -- the certificate is none, or the own one
  pub no_certificate : (IsCertificate k.cert → ⊥) →
      IsRefused secrets setup (born_in moment (Receive from sent draws) j)
  pub own_certificate : k.cert ≡ setup.cert →
      IsRefused secrets setup (born_in moment (Receive from sent draws) j)
  -- the signature is wrong
  pub unsigned : k.sign ≢ hmac (sign_key_of setup.secret) k.before →
      IsRefused secrets setup (born_in moment (Receive from sent draws) j)
  -- the cookie is too long, is none of this end's, was made for another place, or is older than
  -- 95,000 ms
  pub wide_cookie : 128 < length k.cookie →
      IsRefused secrets setup (born_in moment (Receive from sent draws) j)
  pub no_cookie : ((place : AddressParts) (issued : ℕ) →
      k.cookie ≢ cookie_of setup.cookie_secret place issued) →
      IsRefused secrets setup (born_in moment (Receive from sent draws) j)
  pub moved : (place : AddressParts) (issued : ℕ) →
      IsCookieOf setup.cookie_secret place issued k.cookie → (SamePlace place from → ⊥) →
      IsRefused secrets setup (born_in moment (Receive from sent draws) j)
  pub old : (place : AddressParts) (issued : ℕ) →
      IsCookieOf setup.cookie_secret place issued k.cookie → issued + 95000 < moment →
      IsRefused secrets setup (born_in moment (Receive from sent draws) j)

-- Of a session that is born after other things were done.
pub record LaterBirthsRefused (secrets : Secrets) (setup : Setup) (moment : ℕ) (c d : Call)
    (from : AddressParts) (sent : List ℕ) (draws : Draws) (other nonce : List ℕ) (j : Joined)
    : Type 0 where
  -- something is held with the peer
  pub attempt_held : IsRefused secrets setup (doing 0 c (says (Started j.peer 1 5 nonce))
      ∷ born_in moment (Receive from sent draws) j)
  pub session_held : (b : Joined) → b.peer ≡ j.peer →
      IsRefused secrets setup (doing 0 c (says (Born b))
      ∷ born_in moment (Receive from sent draws) j)
  -- its session ID is in use
  pub in_use : j.near ≡ 5 →
      IsRefused secrets setup (doing 0 c (says (Started other 1 5 nonce))
      ∷ born_in moment (Receive from sent draws) j)
  -- its session ID is that of a session that is closing, which either end closed
  pub of_closing : (b : Joined) (why : Why) → is_close why ≡ true → b.near ≡ j.near →
      IsRefused secrets setup (doing 0 c (says (Born b))
      ∷ doing 0 d (says (Ended b.peer b.near why))
      ∷ born_in moment (Receive from sent draws) j)
  -- the count isn't that of the attempts
  pub other_count : j.k ≢ 1 →
      IsRefused secrets setup (doing 0 c (says (Started other 1 5 nonce))
      ∷ born_in moment (Receive from sent draws) j)
  -- its number isn't above that of an earlier birth, also when that session is over
  pub not_new : (far : ℕ) (ni nr : List ℕ) → j.n ≡ 1 →
      IsRefused secrets setup (doing 0 c (says (Born (joined j.peer 5 far ni nr)))
      ∷ doing moment (Receive from sent draws)
      (FactEntry (Ended j.peer 5 Override) ∷ FactEntry (Born j) ∷ []) ∷ [])
  -- nor above the count that the peer told when it answered
  pub not_above : (far k : ℕ) (nr : List ℕ) → j.n ≤ k →
      IsRefused secrets setup (
      doing 0 c (says (Started j.peer 1 5 nonce))
      ∷ doing 0 d
      (says (Opened (record {
        peer = j.peer;
        n = 1;
        near = 5;
        far = far;
        ni = nonce;
        nr = nr;
        k = k;
      })))
      ∷ doing moment (Receive from sent draws)
      (FactEntry (Ended j.peer 5 Override) ∷ FactEntry (Born j) ∷ [])
      ∷ [])
  -- the rows, and the places, are taken by another peer
  pub no_row : setup.config.max_peers ≡ 1 → other ≢ j.peer →
      IsRefused secrets setup (doing 0 c (says (Started other 1 5 nonce))
      ∷ born_in moment (Receive from sent draws) j)
  pub no_place : setup.config.max_sessions ≡ 1 → other ≢ j.peer →
      IsRefused secrets setup (doing 0 c (says (Started other 1 5 nonce))
      ∷ born_in moment (Receive from sent draws) j)
  -- a session that is closing keeps its place
  pub place_kept : (b : Joined) (why : Why) → is_close why ≡ true → setup.config.max_sessions ≡ 1 →
      IsRefused secrets setup (doing 0 c (says (Born b))
      ∷ doing 0 d (says (Ended b.peer b.near why))
      ∷ born_in moment (Receive from sent draws) j)
  -- a row stays taken when its session or attempt is over
  pub row_kept : setup.config.max_peers ≡ 1 → other ≢ j.peer →
      IsRefused secrets setup (doing 0 c (says (Started other 1 5 nonce))
      ∷ doing 0 d (says (Ended other 5 Cancelled)) ∷ born_in moment (Receive from sent draws) j)

abbrev pub TheTableRefusesBirths : Type 0
TheTableRefusesBirths = (secrets : Secrets) (setup : Setup) (moment : ℕ) (from : AddressParts)
    (sent : List ℕ)
    (draws : Draws) (j : Joined) → BirthsRefused secrets setup moment from sent draws j

abbrev pub TheTableRefusesKeyings : Type 0
TheTableRefusesKeyings = (secrets : Secrets) (setup : Setup) (moment : ℕ) (from : AddressParts)
    (sent : List ℕ)
    (draws : Draws) (j : Joined) (k : Keying)
    → get secrets setup.generation ≡ Some setup.secret →
    BringsKeying secrets setup.generation sent k →
    KeyingsRefused secrets setup moment from sent draws j k

abbrev pub TheTableRefusesLaterBirths : Type 0
TheTableRefusesLaterBirths = (secrets : Secrets) (setup : Setup) (moment : ℕ) (c d : Call)
    (from : AddressParts)
    (sent : List ℕ) (draws : Draws) (other nonce : List ℕ) (j : Joined)
    → LaterBirthsRefused secrets setup moment c d from sent draws other nonce j
