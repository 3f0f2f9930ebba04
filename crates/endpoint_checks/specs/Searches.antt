-- What the table refuses of a Sought, of an Unsought, and of a Started by the answer to a search.
use Rattle.std.specs.Prelude.{ℕ, ◌≡◌, ◌≢◌, ◌<◌, List, [], ◌∷◌, length, drop}
use Rattle.sha2.specs.Sha256.{sha256}
use Rattle.identity.specs.Certificates.{IsCertificate}
use Rattle.crypto_profile.specs.declared.keys.Context.TheVariants.{Startup}
use Rattle.packet_scramble.specs.Datagram.{sid_of}
use Rattle.rtmfp_forms.specs.Address.{AddressParts}
use Rattle.glare_core.specs.declared.facts.Why.{Why}
use Rattle.glare_core.specs.declared.facts.Why.TheVariants.{Cancelled, Expired}
use Rattle.glare_core.specs.declared.facts.Fact.TheVariants.{Started, Born, Ended}
use Rattle.glare_core.specs.declared.facts.Joined.{Joined}
use Rattle.endpoint_model.specs.declared.config.Draws.{Draws}
use Rattle.endpoint_model.specs.declared.entry.Entry.TheVariants.{Sought, Unsought}
use Rattle.endpoint_model.specs.Event.{Setup, Call, Open, Seek, Unseek, Cancel, Close, Receive, Tick, Searching, Event}
use Rattle.endpoint_laws.specs.Contexts.{Secrets, OpensUnder}
use Rattle.endpoint_laws.specs.Past.{nothing_done, with_begun, with_entry}
use Rattle.endpoint_laws.specs.Lawful.{UnsoughtLine}
use Rattle.endpoint_checks.specs.Logs.{answering, doing, says, IsRefused}
use Rattle.endpoint_checks.specs.Brings.{Hello, BringsHello}

-- a seek of a name, under session ID 5
abbrev pub seeking : ℕ → List ℕ → List AddressParts → Draws → Event
seeking moment name candidates drawn =
    answering moment (Seek name candidates drawn) (Searching 5) (Sought 5 name ∷ [])

-- Of a search of a name, under this session ID, that begins.
pub record SeeksRefused (secrets : Secrets) (setup : Setup) (moment : ℕ)
    (candidates : List AddressParts) (draws : Draws) (name : List ℕ) (near : ℕ) : Type 0 where
  -- no call but a seek begins one
  pub in_open : (peer : List ℕ) →
      IsRefused secrets setup (doing moment (Open peer candidates draws) (Sought near name ∷ [])
      ∷ [])
  pub in_unseek : (id : ℕ) →
      IsRefused secrets setup (doing moment (Unseek id) (Sought near name ∷ []) ∷ [])
  pub in_receive : (from : AddressParts) (datagram : List ℕ) →
      IsRefused secrets setup (doing moment (Receive from datagram draws) (Sought near name ∷ [])
      ∷ [])
  pub in_tick : IsRefused secrets setup (doing moment (Tick draws) (Sought near name ∷ []) ∷ [])
  -- a seek of another name
  pub other_name : (other : List ℕ) → other ≢ name →
      IsRefused secrets setup (doing moment (Seek other candidates draws) (Sought near name ∷ [])
      ∷ [])
  -- the session ID 0
  pub zero : IsRefused secrets setup (doing moment (Seek name candidates draws) (Sought 0 name
      ∷ []) ∷ [])
  -- a session ID in use: of a search, of an attempt, of a session
  pub of_search : (other : List ℕ) (drawn : Draws) →
      IsRefused secrets setup (seeking moment other candidates drawn
      ∷ seeking moment name candidates draws
      ∷ [])
  pub of_attempt : (c : Call) (peer nonce : List ℕ) →
      IsRefused secrets setup (doing moment c (says (Started peer 1 5 nonce))
      ∷ seeking moment name candidates draws ∷ [])
  pub of_born : (c : Call) (j : Joined) → j.near ≡ 5 →
      IsRefused secrets setup (doing moment c (says (Born j))
      ∷ seeking moment name candidates draws ∷ [])

-- the log of a search that began at a moment, and then of one more call with one entry
abbrev pub ends_in : ℕ → List ℕ → List AddressParts → Draws → ℕ → Call → ℕ → Why → List Event
ends_in begin name candidates drawn moment call near why =
    seeking begin name candidates drawn ∷ doing moment call (Unsought near why ∷ []) ∷ []

-- Of a search under session ID 5, whose end is stated.
pub record UnseeksRefused (secrets : Secrets) (setup : Setup) (moment : ℕ)
    (candidates : List AddressParts) (drawn draws : Draws) (name : List ℕ) : Type 0 where
  -- cancelled by another call than an unseek, or by that of another search
  pub in_open : (peer : List ℕ) →
      IsRefused secrets setup
      (ends_in 0 name candidates drawn moment (Open peer candidates draws) 5 Cancelled)
  pub in_receive : (from : AddressParts) (datagram : List ℕ) →
      IsRefused secrets setup
      (ends_in 0 name candidates drawn moment (Receive from datagram draws) 5 Cancelled)
  pub in_tick : IsRefused secrets setup
      (ends_in 0 name candidates drawn moment (Tick draws) 5 Cancelled)
  pub in_cancel : (n : ℕ) →
      IsRefused secrets setup (ends_in 0 name candidates drawn moment (Cancel n) 5 Cancelled)
  pub in_close : (id : ℕ) →
      IsRefused secrets setup (ends_in 0 name candidates drawn moment (Close id) 5 Cancelled)
  pub of_another : (id : ℕ) → id ≢ 5 →
      IsRefused secrets setup (ends_in 0 name candidates drawn moment (Unseek id) 5 Cancelled)
  -- expired by another call than a tick
  pub by_unseek : (at id : ℕ) →
      IsRefused secrets setup (ends_in 0 name candidates drawn at (Unseek id) 5 Expired)
  pub by_receive : (at : ℕ) (from : AddressParts) (datagram : List ℕ) →
      IsRefused secrets setup (ends_in 0 name candidates drawn at
      (Receive from datagram draws) 5 Expired)
  -- a tick 94,999 ms after it began, also where that wasn't at 0
  pub early : IsRefused secrets setup (ends_in 0 name candidates drawn 94999 (Tick draws) 5 Expired)
  pub early_later : IsRefused secrets setup (ends_in 7 name candidates drawn 95006
      (Tick draws) 5 Expired)
  -- an end that no search has
  pub other_end : (call : Call) (why : Why) → why ≢ Cancelled → why ≢ Expired →
      IsRefused secrets setup (ends_in 0 name candidates drawn moment call 5 why)
  -- another session ID, nothing sought, an attempt, and a search that is over
  pub other_id : (call : Call) (near : ℕ) (why : Why) → near ≢ 5 →
      IsRefused secrets setup (ends_in 0 name candidates drawn moment call near why)
  pub of_nothing : (call : Call) (near : ℕ) (why : Why) →
      IsRefused secrets setup (doing moment call (Unsought near why ∷ []) ∷ [])
  pub of_attempt : (c call : Call) (peer nonce : List ℕ) (why : Why) →
      IsRefused secrets setup (doing 0 c (says (Started peer 1 5 nonce))
      ∷ doing moment call (Unsought 5 why ∷ []) ∷ [])
  pub again : (call : Call) (why : Why) →
      IsRefused secrets setup (seeking 0 name candidates drawn
      ∷ doing 0 (Unseek 5) (Unsought 5 Cancelled ∷ [])
      ∷ doing moment call (Unsought 5 why ∷ []) ∷ [])
  -- a search that became an attempt
  pub answered : (c call : Call) (peer : List ℕ) (why : Why) →
      IsRefused secrets setup (seeking 0 name candidates drawn
      ∷ doing 0 c (says (Started peer 1 5 drawn.nonce))
      ∷ doing moment call (Unsought 5 why ∷ []) ∷ [])
  -- a tick at 95,000 ms after it began meets the line
  pub in_time : UnsoughtLine 95000 (Tick draws)
      (with_entry 0 (Sought 5 name) (with_begun 0 (seeking 0 name candidates drawn) nothing_done)) 5
      Expired

-- the log of a search, and then of a call that takes a datagram and starts an attempt
abbrev pub answered_in : List ℕ → List AddressParts → Draws → Event → List Event
answered_in name candidates drawn last = seeking 0 name candidates drawn ∷ last ∷ []

-- Of an attempt that starts by the answer to a search under session ID 5.
pub record SearchesRefused (secrets : Secrets) (setup : Setup) (moment : ℕ)
    (candidates : List AddressParts) (drawn draws : Draws) (name : List ℕ) (from : AddressParts)
    (sent peer : List ℕ) : Type 0 where
  -- another call takes no datagram
  pub in_tick : IsRefused secrets setup
      (answered_in name candidates drawn (doing moment (Tick draws)
      (says (Started peer 1 5 drawn.nonce))))
  -- nothing is sought, the search is over, or it became an attempt already
  pub no_search : (near : ℕ) (ni : List ℕ) →
      IsRefused secrets setup
      (doing moment (Receive from sent draws) (says (Started peer 1 near ni)) ∷ [])
  pub over : (c : Call) (why : Why) →
      IsRefused secrets setup (seeking 0 name candidates drawn ∷ doing 0 c (Unsought 5 why ∷ [])
      ∷ doing moment (Receive from sent draws) (says (Started peer 1 5 drawn.nonce)) ∷ [])
  pub again : (c d : Call) (other : List ℕ) →
      IsRefused secrets setup (seeking 0 name candidates drawn
      ∷ doing 0 c (says (Started other 1 5 drawn.nonce))
      ∷ doing 0 d (says (Ended other 5 Cancelled))
      ∷ doing moment (Receive from sent draws) (says (Started peer 2 5 drawn.nonce)) ∷ [])
  -- under another session ID, and with another nonce, this call's among them
  pub other_near : (near : ℕ) → near ≢ 5 →
      IsRefused secrets setup (answered_in name candidates drawn
      (doing moment (Receive from sent draws) (says (Started peer 1 near drawn.nonce))))
  pub other_nonce : (ni : List ℕ) → ni ≢ drawn.nonce →
      IsRefused secrets setup (answered_in name candidates drawn
      (doing moment (Receive from sent draws) (says (Started peer 1 5 ni))))
  -- a number that isn't the next
  pub other_number : (n : ℕ) → n ≢ 1 →
      IsRefused secrets setup (answered_in name candidates drawn
      (doing moment (Receive from sent draws) (says (Started peer n 5 drawn.nonce))))
  -- a datagram under a session ID, one that is too short to open, and one that doesn't open in the
  -- startup context of the end's generation
  pub under_id : sid_of sent ≢ 0 →
      IsRefused secrets setup (answered_in name candidates drawn
      (doing moment (Receive from sent draws) (says (Started peer 1 5 drawn.nonce))))
  pub short : length sent < 36 →
      IsRefused secrets setup (answered_in name candidates drawn
      (doing moment (Receive from sent draws) (says (Started peer 1 5 drawn.nonce))))
  pub unopened : ((plain : List ℕ) →
      OpensUnder secrets (Startup setup.generation) 0 sent plain → ⊥) →
      IsRefused secrets setup (answered_in name candidates drawn
      (doing moment (Receive from sent draws) (says (Started peer 1 5 drawn.nonce))))

-- Of a datagram under session ID 0 whose only chunk is this responder's hello.
pub record HellosRefused (secrets : Secrets) (setup : Setup) (moment : ℕ)
    (candidates : List AddressParts) (drawn draws : Draws) (name : List ℕ) (from : AddressParts)
    (sent peer : List ℕ) (hello : Hello) : Type 0 where
  -- the tag isn't the search's
  pub other_tag : hello.tag ≢ drawn.tag →
      IsRefused secrets setup (answered_in name candidates drawn
      (doing moment (Receive from sent draws) (says (Started peer 1 5 drawn.nonce))))
  -- the certificate has another name, or is another end's, or is none
  pub other_name : drop 16 hello.cert ≢ name →
      IsRefused secrets setup (answered_in name candidates drawn
      (doing moment (Receive from sent draws) (says (Started peer 1 5 drawn.nonce))))
  pub other_peer : peer ≢ sha256 hello.cert →
      IsRefused secrets setup (answered_in name candidates drawn
      (doing moment (Receive from sent draws) (says (Started peer 1 5 drawn.nonce))))
  pub no_certificate : (IsCertificate hello.cert → ⊥) →
      IsRefused secrets setup (answered_in name candidates drawn
      (doing moment (Receive from sent draws) (says (Started peer 1 5 drawn.nonce))))

abbrev pub TheTableRefusesSeeks : Type 0
TheTableRefusesSeeks = (secrets : Secrets) (setup : Setup) (moment : ℕ)
    (candidates : List AddressParts)
    (draws : Draws) (name : List ℕ) (near : ℕ) →
    SeeksRefused secrets setup moment candidates draws name near

abbrev pub TheTableRefusesUnseeks : Type 0
TheTableRefusesUnseeks = (secrets : Secrets) (setup : Setup) (moment : ℕ)
    (candidates : List AddressParts)
    (drawn draws : Draws) (name : List ℕ) →
    UnseeksRefused secrets setup moment candidates drawn draws name

abbrev pub TheTableRefusesSearches : Type 0
TheTableRefusesSearches = (secrets : Secrets) (setup : Setup) (moment : ℕ)
    (candidates : List AddressParts)
    (drawn draws : Draws) (name : List ℕ) (from : AddressParts) (sent peer : List ℕ) →
    SearchesRefused secrets setup moment candidates drawn draws name from sent peer

abbrev pub TheTableRefusesHellos : Type 0
TheTableRefusesHellos = (secrets : Secrets) (setup : Setup) (moment : ℕ)
    (candidates : List AddressParts)
    (drawn draws : Draws) (name : List ℕ) (from : AddressParts) (sent peer : List ℕ) (hello : Hello)
    → BringsHello secrets setup.generation sent hello →
    HellosRefused secrets setup moment candidates drawn draws name from sent peer hello
