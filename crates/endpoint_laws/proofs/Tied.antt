-- The state of an end agrees with what it did.
use Rattle.std.proofs.Common.{◌≡◌, ℕ, ◌+◌, ◌≤◌, ◌<◌, ◌^◌, List, [], ◌∷◌, length, true, false, if◌then◌else◌, Option, Some, None, is_some, ◌||◌, inl, inr, refl, ap, ◌∙◌, arith}
use Rattle.std.specs.Ordering.{nat_cmp}
use Rattle.sha2.specs.Sha256.{sha256}
use Rattle.std.specs.Cmp.Lexicographic.{slice_cmp}
use Rattle.std.specs.FinMap.{get, get-empty, len-empty}
use Rattle.glare_core.specs.declared.facts.Joined.{Joined}
use Rattle.glare_core.specs.declared.facts.Held.{Held}
use Rattle.glare_core.specs.declared.facts.Held.TheVariants.{Opening as OpeningHeld, HalfOpen, KeptAsResponder, KeptAsInitiator}
use Rattle.glare_core.specs.Things.{IsSession, near_of}
use Rattle.glare_core.specs.Ledger.{PeerRow, Ledger, row_or_blank, held_with, row_count}
use Rattle.glare_core.specs.Account.{StandsFor}
use Rattle.glare_core.proofs.Giving.{stands_new}
use Rattle.rtmfp_base.proofs.Maps.{none_is_some}
use Rattle.glare_core.specs.declared.facts.Fact.TheVariants.{Started}
use Rattle.glare_core.specs.Standing.{count as started_in}
use Rattle.startup.specs.declared.aim.Aim.{Aim}
use Rattle.startup.specs.declared.aim.Aim.TheVariants.{AtPeer, ByName}
use Rattle.startup.specs.Aims.{IsHeldAs}
use Rattle.startup.specs.State.{AttemptState, StartupState, FitsStage, peer_of_attempt}
use Rattle.session_core.specs.declared.stage.Role.{Role}
use Rattle.session_core.specs.declared.stage.Role.TheVariants.{Initiator, Responder}
use Rattle.session_core.specs.declared.stage.Stage.{Stage}
use Rattle.session_core.specs.declared.stage.Stage.TheVariants.{Opening, Open, NearClose, FarLinger, Closed}
use Rattle.session_core.specs.Session.{SessionState, IsKeyed}
use Rattle.session_core.specs.Closing.{is_held}
use Rattle.endpoint_model.specs.declared.row.Row.{Row}
use Rattle.endpoint_model.specs.Event.{Setup, own_of}
use Rattle.endpoint_laws.specs.Past.{Past, Search, facts_of, ids_in_use, is_in_use, IsClosing, IsSearch, WasStated, current_of, next_of}
use Rattle.endpoint_laws.specs.OfTheLog.{WasThing}
use Rattle.endpoint_laws.specs.Contexts.{Secrets, BegunUnder}
use Rattle.endpoint_laws.specs.Groups.{number_in}
use Rattle.endpoint_model.specs.State.{State, fresh, uses, is_used}
use Rattle.endpoint_model.proofs.Members.{IsOnce}
use Rattle.endpoint_laws.proofs.Kin.{HoldsSecrets}
use Rattle.endpoint_laws.proofs.Begun.{born_thing}
use Rattle.endpoint_laws.proofs.Matching.{Found, of_peer}

-- what a session of this role and stage is while it is held
abbrev pub thing_of : Role → Stage → Joined → Held
thing_of Initiator stage j = KeptAsInitiator j
thing_of Responder Opening j = HalfOpen j
thing_of Responder Open j = KeptAsResponder j
thing_of Responder NearClose j = KeptAsResponder j
thing_of Responder FarLinger j = KeptAsResponder j
thing_of Responder Closed j = KeptAsResponder j

-- what the ledger holds for it
abbrev pub held_of : SessionState → Option Held
held_of session = if is_held session.stage then Some (thing_of session.role session.stage session.joined) else None

-- A session of the own attempt is open, and one of the peer's is half-open or open; or it is closing.
abbrev pub StageFits : Role → Stage → Type 0
StageFits Initiator Opening = ⊥
StageFits Initiator Open = Unit {0}
StageFits Initiator NearClose = Unit {0}
StageFits Initiator FarLinger = Unit {0}
StageFits Initiator Closed = ⊥
StageFits Responder Opening = Unit {0}
StageFits Responder Open = Unit {0}
StageFits Responder NearClose = Unit {0}
StageFits Responder FarLinger = Unit {0}
StageFits Responder Closed = ⊥

-- Each of these was done by this moment.
abbrev pub AreBy : ℕ → Past → Type 0
AreBy moment [] = Unit {0}
AreBy moment (x ∷ past) = (x.moment ≤ moment) × AreBy moment past

pub by_later : (moment later : ℕ) (past : Past) → moment ≤ later → AreBy moment past → AreBy later past
by_later moment later [] up are = tt
by_later moment later (x ∷ past) up are = (omega (arith, up, are.0), by_later moment later past up are.1)

-- what closes was closed by then
pub closing_by : (moment near : ℕ) (thing : Held) (at : ℕ) (past : Past) → AreBy moment past → IsClosing near thing at past → at ≤ moment
closing_by moment near thing at [] are c = absurd c
closing_by moment near thing at (x ∷ past) are (inl b) = omega (arith, are.0, b.1)
closing_by moment near thing at (x ∷ past) are (inr p) = closing_by moment near thing at past are.1 p.1

-- The session is closing, and was closed no later than its stage began.
pub record IsClosed (past : Past) (near : ℕ) (session : SessionState) : Type 0 where
  pub thing : Held
  pub at : ℕ
  pub was : WasThing session.role session.joined thing
  pub closing : IsClosing near thing at past
  pub since : at ≤ session.since

-- a session that sealed once more
abbrev pub sealed_once : SessionState → SessionState
sealed_once session = record session { sealed = session.sealed + 1 }

-- The keys of the session are those that the secret of its generation gives its contexts.
pub record HasKeys (secrets : Secrets) (session : SessionState) : Type 0 where
  pub secret : List ℕ
  pub known : get secrets session.generation ≡ Some secret
  pub keyed : IsKeyed secret session

-- The session under this near id is one of this end, and the ledger holds it, or it is closing.
pub record SessionTied (secrets : Secrets) (setup : Setup) (past : Past) (ledger : Ledger) (near : ℕ) (session : SessionState) : Type 0 where
  pub id : session.joined.near ≡ near
  pub own : session.own ≡ own_of setup
  pub known : HasKeys secrets session
  pub begun : BegunUnder secrets setup (born_thing session.role session.joined) session.generation past
  pub stage : StageFits session.role session.stage
  pub thing : is_held session.stage ≡ true → held_with ledger session.joined.peer ≡ Some (thing_of session.role session.stage session.joined)
  pub closed : is_held session.stage ≡ false → IsClosed past near session

-- what is held for a session, with its peer, where there is one
abbrev pub found_in : Option Row → Found
found_in None = None
found_in (Some row) = of_peer row.session.joined.peer (held_of row.session)

-- The session is closing that was this thing.
abbrev pub IsClosedThing : Option Row → Held → Type 0
IsClosedThing None thing = ⊥
IsClosedThing (Some row) thing = (is_held row.session.stage ≡ false) × WasThing row.session.role row.session.joined thing

-- what a search looks for, by what is kept of it
abbrev pub search_of : List ℕ → AttemptState → Search
search_of name a = record { name = name; tag = a.tag; ni = a.ni }

-- What is towards a peer was started at its moment; what is towards a name is a search that began then, with its sizes.
abbrev pub WasStartedAs : Past → ℕ → AttemptState → Aim → Type 0
WasStartedAs past near a (AtPeer peer n) = WasStated a.start (Started peer n near a.ni) past
WasStartedAs past near a (ByName name) = IsSearch near (search_of name a) a.start past × (length a.ni ≡ 16) × (near < 2 ^ 32)

-- It is that search.
abbrev pub IsKept : AttemptState → Search → ℕ → Type 0
IsKept a which at = (a.aim ≡ ByName which.name) × (a.tag ≡ which.tag) × (a.ni ≡ which.ni) × (a.start ≡ at)

abbrev pub IsKeptIn : Option AttemptState → Search → ℕ → Type 0
IsKeptIn None which at = ⊥
IsKeptIn (Some a) which at = IsKept a which at

-- The attempts and the ledger name the same things.
pub record AttemptsAreHeld (s : StartupState) : Type 0 where
  pub own : s.ledger.own ≡ sha256 s.cert
  pub held : (near : ℕ) (a : AttemptState) → get s.attempts near ≡ Some a → IsHeldAs s.ledger near a.ni a.aim
  pub stages : (near : ℕ) (a : AttemptState) → get s.attempts near ≡ Some a → FitsStage a.aim a.stage
  pub there : (peer : List ℕ) (n near : ℕ) (ni : List ℕ) → held_with s.ledger peer ≡ Some (OpeningHeld n near ni) → peer_of_attempt (get s.attempts near) ≡ Some peer

-- The state agrees with what was done.
pub record Tied (secrets : Secrets) (setup : Setup) (past : Past) (s : State) : Type 0 where
  -- what was given at the beginning
  pub config : s.config ≡ setup.config
  pub cert : s.startup.cert ≡ setup.cert
  -- the secrets that it keeps are known, and the current and the next generation are what was done
  pub holds : HoldsSecrets secrets s
  pub current : s.group.generation ≡ current_of setup past
  pub next : number_in s.next ≡ next_of past
  pub cookie_secret : s.startup.cookie_secret ≡ setup.cookie_secret
  pub own : s.startup.ledger.own ≡ own_of setup
  pub max_peers : s.startup.ledger.max_peers ≡ setup.config.max_peers
  -- the ledger is of the facts, and the attempts and the sessions are what it holds
  pub account : StandsFor 0 s.startup.ledger (facts_of past)
  pub sound : AttemptsAreHeld s.startup
  pub sessions : (near : ℕ) (row : Row) → get s.sessions near ≡ Some row → SessionTied secrets setup past s.startup.ledger near row.session
  pub there : (peer : List ℕ) (thing : Held) → held_with s.startup.ledger peer ≡ Some thing → IsSession thing → found_in (get s.sessions (near_of thing)) ≡ Some (peer, thing)
  pub closing : (near : ℕ) (thing : Held) (at : ℕ) → IsClosing near thing at past → IsClosedThing (get s.sessions near) thing
  -- no attempt and session have one near id
  pub apart : (near : ℕ) (a : AttemptState) → get s.startup.attempts near ≡ Some a → get s.sessions near ≡ None
  -- each attempt was started at its moment, or is a search, and each search is there
  pub started : (near : ℕ) (a : AttemptState) → get s.startup.attempts near ≡ Some a → WasStartedAs past near a a.aim
  pub searching : (near : ℕ) (which : Search) (at : ℕ) → IsSearch near which at past → IsKeptIn (get s.startup.attempts near) which at
  -- the session IDs in use are those of the attempts and the sessions
  pub used : (near : ℕ) → is_used s near ≡ is_in_use near past
  pub count : uses s ≡ length (ids_in_use past)
  pub once : IsOnce (ids_in_use past)
  pub not_zero : is_in_use 0 past ≡ false
  -- the moments
  pub by_now : AreBy s.moment past
  -- the limits
  pub within : uses s ≤ setup.config.max_sessions
  pub rows : row_count s.startup.ledger ≤ setup.config.max_peers
  -- the number of the last attempt is one of 64 bits
  pub few : started_in (facts_of past) < 2 ^ 64

-- A new end has done nothing.
pub fresh_tied : (secrets : Secrets) (setup : Setup) → get secrets setup.generation ≡ Some setup.secret → Tied secrets setup [] (fresh setup)
fresh_tied secrets setup first =
    let s : State = fresh setup in
    let no_attempt : (near : ℕ) → get s.startup.attempts near ≡ None = λ near. get-empty nat_cmp near in
    let no_session : (near : ℕ) → get s.sessions near ≡ None = λ near. get-empty nat_cmp near in
    let no_thing : (peer : List ℕ) → held_with s.startup.ledger peer ≡ None = λ peer. ap (λ (o : Option PeerRow). (row_or_blank o).held) (get-empty (slice_cmp nat_cmp) peer) in
    let none : uses s ≡ 0 = omega (arith, len-empty nat_cmp AttemptState, len-empty nat_cmp Row) in
    record {
      config = refl;
      cert = refl;
      holds = record {
        current = first;
        next = λ g e. absurd (cc);
        attempts = λ near a e. absurd (none_is_some a (get s.startup.attempts near) (no_attempt near) e);
        kept = λ peer kept e. absurd (none_is_some kept (get s.startup.kept peer) (get-empty (slice_cmp nat_cmp) peer) e);
      };
      current = refl;
      next = refl;
      cookie_secret = refl;
      own = refl;
      max_peers = refl;
      account = stands_new (own_of setup) setup.config.max_peers 0;
      sound = record {
        own = refl;
        held = λ near a e. absurd (none_is_some a (get s.startup.attempts near) (no_attempt near) e);
        stages = λ near a e. absurd (none_is_some a (get s.startup.attempts near) (no_attempt near) e);
        there = λ peer n near ni e. absurd (none_is_some (OpeningHeld n near ni) (held_with s.startup.ledger peer) (no_thing peer) e);
      };
      sessions = λ near row e. absurd (none_is_some row (get s.sessions near) (no_session near) e);
      there = λ peer thing e is. absurd (none_is_some thing (held_with s.startup.ledger peer) (no_thing peer) e);
      closing = λ near thing at none. absurd none;
      apart = λ near a e. no_session near;
      started = λ near a e. absurd (none_is_some a (get s.startup.attempts near) (no_attempt near) e);
      searching = λ near which at none. absurd none;
      used = λ near. ap (λ (o : Option AttemptState). is_some o || is_some (get s.sessions near)) (no_attempt near) ∙ ap (λ (o : Option Row). is_some o) (no_session near);
      count = none;
      once = tt;
      not_zero = refl;
      by_now = tt;
      within = omega (arith, none);
      rows = omega (arith, len-empty (slice_cmp nat_cmp) PeerRow);
      few = omega arith;
    }
