-- What an end keeps of the sessions that it opens, and that are born of others' attempts: its
-- attempts, and what answers repeated keyings, beside what it holds with its peers.
use Rattle.std.specs.Prelude.{ℕ, List, Bool, true, false, Option, Some, None, is_some, ◌≡◌, refl}
use Rattle.std.specs.Ordering.{nat_cmp}
use Rattle.std.specs.Cmp.Lexicographic.{slice_cmp}
use Rattle.std.specs.FinMap.{FinMap, get, empty, code}
use Rattle.std.specs.Coded.{Coded, code_by, coded×, coded_ℕ, coded_list}
use Rattle.sha2.specs.Sha256.{sha256}
use Rattle.rtmfp_forms.specs.Address.{AddressParts}
use Rattle.glare_core.specs.declared.facts.Held.{Held}
use Rattle.glare_core.specs.declared.facts.Held.TheVariants.{Opening, HalfOpen, KeptAsResponder, KeptAsInitiator}
use Rattle.glare_core.specs.Ledger.{Ledger, new_ledger, held_with}
use Rattle.startup.specs.declared.aim.Aim.{Aim}
use Rattle.startup.specs.declared.aim.Aim.TheVariants.{AtPeer, ByName}
use Rattle.startup.specs.declared.attempt.Stage.{Stage}
use Rattle.startup.specs.declared.attempt.Stage.TheVariants.{Hello, Keying}
use Rattle.startup.specs.declared.kept.KeptKeying.{KeptKeying}
use Rattle.startup.specs.Aims.{peer_of_aim, IsHeldAs}

-- one packet for several addresses, in this order
pub record SpreadParts : Type 0 where
  pub to : List AddressParts
  pub plain : List ℕ

-- an attempt, or a search
pub record AttemptState : Type 0 where
  -- what it is towards
  pub aim : Aim
  -- its nonce
  pub ni : List ℕ
  -- the tag of its hellos
  pub tag : List ℕ
  -- the moment of its start
  pub start : ℕ
  -- where its hellos go
  pub candidates : List AddressParts
  -- whether hellos or keyings are sent, and for keyings the address, the cookie, and the generation
  -- and secret that they are sent under
  pub stage : Stage
  -- the moment of the last sending
  pub last : ℕ
  -- how many repeats were sent in this stage, of those that lengthen the gap
  pub gap : ℕ

-- the attempts and searches, by their near ids
abbrev pub Attempts : Type 0
Attempts = FinMap nat_cmp AttemptState

-- what answers repeated keyings, by the fingerprints of the peers whose sessions were born here
abbrev pub KeptKeyings : Type 0
KeptKeyings = FinMap (slice_cmp nat_cmp) KeptKeying

pub record StartupState : Type 0 where
  -- the own certificate
  pub cert : List ℕ
  -- the secret of the own cookies
  pub cookie_secret : List ℕ
  -- what is held with each peer
  pub ledger : Ledger
  pub attempts : Attempts
  pub kept : KeptKeyings

abbrev pub new_startup : List ℕ → List ℕ → ℕ → StartupState
new_startup cert cookie_secret max_peers =
    record {
      cert = cert;
      cookie_secret = cookie_secret;
      ledger = new_ledger (sha256 cert) max_peers 0;
      attempts = empty;
      kept = empty;
    }

-- the peer of the attempt, where there is one and its peer is known
abbrev pub peer_of_attempt : Option AttemptState → Option (List ℕ)
peer_of_attempt None = None
peer_of_attempt (Some a) = peer_of_aim a.aim

-- A search sends hellos: it has no keying stage.
abbrev pub FitsStage : Aim → Stage → Type 0
FitsStage (AtPeer peer n) stage = Unit {0}
FitsStage (ByName name) Hello = Unit {0}
FitsStage (ByName name) (Keying at cookie under) = ⊥

-- whether what is held is a session that was born here
abbrev pub is_born_here : Option Held → Bool
is_born_here None = false
is_born_here (Some (Opening n near ni)) = false
is_born_here (Some (HalfOpen j)) = true
is_born_here (Some (KeptAsResponder j)) = true
is_born_here (Some (KeptAsInitiator j)) = false

-- What answers a repeated keying is kept of each session that was born here, and of nothing else.
abbrev pub AreKept : Ledger → KeptKeyings → Type 0
AreKept ledger kept = (peer : List ℕ) →
    is_some (get kept peer) ≡ is_born_here (held_with ledger peer)

-- The attempts, the kept keyings and the ledger name the same things.
pub record IsSound (s : StartupState) : Type 0 where
  -- the ledger is of the own fingerprint
  pub own : s.ledger.own ≡ sha256 s.cert
  -- each attempt is held as what it aims at
  pub held : (near : ℕ) (a : AttemptState) → get s.attempts near ≡ Some a →
      IsHeldAs s.ledger near a.ni a.aim
  -- each is in a stage that what it aims at has
  pub stages : (near : ℕ) (a : AttemptState) → get s.attempts near ≡ Some a →
      FitsStage a.aim a.stage
  -- each attempt that is held is there under its near id
  pub there : (peer : List ℕ) (n near : ℕ) (ni : List ℕ) →
      held_with s.ledger peer ≡ Some (Opening n near ni) →
      peer_of_attempt (get s.attempts near) ≡ Some peer
  pub kept : AreKept s.ledger s.kept

-- ---- how these are stored: as the tuples of their fields

abbrev pub spread_code : Coded AddressParts → Coded SpreadParts
spread_code address =
    code_by (List AddressParts × List ℕ) (coded× (coded_list address) (coded_list coded_ℕ))
    (λ s. (s.to, s.plain)) (λ p. record { to = p.0; plain = p.1 }) (λ _. refl)

abbrev pub attempt_code : Coded Aim → Coded AddressParts → Coded Stage → Coded AttemptState
attempt_code aim address stage =
    code_by (Aim × (List ℕ × (List ℕ × (ℕ × (List AddressParts × (Stage × (ℕ × ℕ)))))))
    (coded× aim (coded× (coded_list coded_ℕ) (coded× (coded_list coded_ℕ)
    (coded× coded_ℕ (coded× (coded_list address) (coded× stage (coded× coded_ℕ coded_ℕ)))))))
    (λ a. (a.aim, (a.ni, (a.tag, (a.start, (a.candidates, (a.stage, (a.last, a.gap))))))))
    (λ p. record {
      aim = p.0;
      ni = p.1.0;
      tag = p.1.1.0;
      start = p.1.1.1.0;
      candidates = p.1.1.1.1.0;
      stage = p.1.1.1.1.1.0;
      last = p.1.1.1.1.1.1.0;
      gap = p.1.1.1.1.1.1.1;
    })
    (λ _. refl)

abbrev pub startup_code : Coded Ledger → Coded AttemptState → Coded KeptKeying → Coded StartupState
startup_code ledger attempt kept =
    code_by (List ℕ × (List ℕ × (Ledger × (Attempts × KeptKeyings))))
    (coded× (coded_list coded_ℕ) (coded× (coded_list coded_ℕ)
    (coded× ledger (coded× (code coded_ℕ attempt) (code (coded_list coded_ℕ) kept)))))
    (λ s. (s.cert, (s.cookie_secret, (s.ledger, (s.attempts, s.kept)))))
    (λ p. record {
      cert = p.0;
      cookie_secret = p.1.0;
      ledger = p.1.1.0;
      attempts = p.1.1.1.0;
      kept = p.1.1.1.1;
    })
    (λ _. refl)
