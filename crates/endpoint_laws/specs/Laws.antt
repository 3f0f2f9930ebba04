-- Laws of all logs that an end can stand for.
use Rattle.std.specs.Prelude.{ℕ, ◌≡◌, ◌≤◌, ◌<◌, ◌^◌, List, [], ◌∷◌, length, All}
use Rattle.identity.specs.Certificates.{IsCertificate}
use Rattle.glare_core.specs.Account.{StandsFor as AccountStandsFor}
use Rattle.glare_core.specs.Ledger.{row_count}
use Rattle.identity.specs.ServiceNames.{IsServiceName}
use Rattle.endpoint_model.specs.Event.{Setup, Call, Open, Seek, Receive, Learn, Narrow, Event}
use Rattle.endpoint_laws.specs.Past.{facts_of, past_of_log}
use Rattle.endpoint_model.specs.State.{State, uses}
use Rattle.endpoint_model.specs.Log.{StandsFor}
use Rattle.endpoint_laws.specs.Contexts.{Secrets, Knows}
use Rattle.endpoint_laws.specs.Lawful.{IsLawful}

-- The limits and the sizes of what an end is given.
pub record IsSetup (setup : Setup) : Type 0 where
  pub cert : IsCertificate setup.cert
  pub secret : length setup.secret ≡ 32
  pub cookie_secret : length setup.cookie_secret ≡ 32
  pub sessions : setup.config.max_sessions ≤ 65536

-- Each byte of a datagram is one.
abbrev pub AreBytes : List ℕ → Type 0
AreBytes bytes = All (λ byte. byte < 2 ^ 8) bytes

-- the sizes of what a call is given
abbrev pub IsCall : Call → Type 0
IsCall (Open peer candidates draws) = (length peer ≡ 32) × (length draws.nonce ≡ 16) ×
    (draws.word < 2 ^ 32) × (length draws.tag ≡ 16)
IsCall (Seek name candidates draws) = IsServiceName name × (length draws.nonce ≡ 16) ×
    (draws.word < 2 ^ 32) × (length draws.tag ≡ 16)
IsCall (Receive from datagram draws) = AreBytes datagram × (length draws.nonce ≡ 16) ×
    (draws.word < 2 ^ 32) × (length draws.token ≡ 16)
IsCall (Learn secret) = length secret ≡ 32
IsCall (Narrow limit) = (96 ≤ limit) × (limit ≤ 1164)
IsCall call = Unit {0}

abbrev pub AreCalls : List Event → Type 0
AreCalls [] = Unit {0}
AreCalls (e ∷ events) = IsCall e.call × AreCalls events

-- Each log that an end stands for is lawful by each map of secrets that has what the end was given
-- and learnt.
abbrev pub EveryLogIsLawful : Type 0
EveryLogIsLawful = (secrets : Secrets) (setup : Setup) (log : List Event) (s : State) →
    Knows secrets setup (past_of_log log) → IsSetup setup → AreCalls log → StandsFor setup log s →
    IsLawful secrets setup log

-- What an end holds and counts is what the facts of its log say, and each of these facts is lawful.
abbrev pub TheLedgerIsOfTheLog : Type 0
TheLedgerIsOfTheLog = (setup : Setup) (log : List Event) (s : State) → IsSetup setup →
    AreCalls log → StandsFor setup log s
    → AccountStandsFor 0 s.startup.ledger (facts_of (past_of_log log))

-- There are never more attempts, searches and sessions than may be.
abbrev pub UsesAreWithin : Type 0
UsesAreWithin = (setup : Setup) (log : List Event) (s : State) → IsSetup setup → AreCalls log →
    StandsFor setup log s → uses s ≤ setup.config.max_sessions

-- There are never more rows of peers than may be.
abbrev pub RowsAreWithin : Type 0
RowsAreWithin = (setup : Setup) (log : List Event) (s : State) → IsSetup setup → AreCalls log →
    StandsFor setup log s → row_count s.startup.ledger ≤ setup.config.max_peers
