-- What an end keeps is what its log says.
use Rattle.std.specs.Prelude.{ℕ, ◌≡◌, ◌⊎◌, List, length, Some}
use Rattle.std.specs.List.{list_any}
use Rattle.std.specs.Str.{bytes_eq}
use Rattle.std.specs.FinMap.{get}
use Rattle.glare_core.specs.declared.facts.Fact.TheVariants.{Started}
use Rattle.glare_core.specs.declared.facts.Held.{Held}
use Rattle.glare_core.specs.declared.facts.Held.TheVariants.{Opening as AttemptHeld, HalfOpen, KeptAsResponder, KeptAsInitiator}
use Rattle.glare_core.specs.declared.facts.Joined.{Joined}
use Rattle.glare_core.specs.Standing.{held, seen, count, peers_in}
use Rattle.glare_core.specs.Things.{IsSession, near_of}
use Rattle.glare_core.specs.Ledger.{held_with, floor_of, knows, row_count}
use Rattle.startup.specs.declared.aim.Aim.{Aim}
use Rattle.startup.specs.declared.aim.Aim.TheVariants.{AtPeer, ByName}
use Rattle.startup.specs.State.{AttemptState}
use Rattle.session_core.specs.declared.stage.Role.{Role}
use Rattle.session_core.specs.declared.stage.Role.TheVariants.{Initiator, Responder}
use Rattle.session_core.specs.declared.stage.Stage.{Stage}
use Rattle.session_core.specs.declared.stage.Stage.TheVariants.{Opening, Open, NearClose, FarLinger, Closed}
use Rattle.session_core.specs.Session.{SessionState}
use Rattle.endpoint_model.specs.declared.row.Row.{Row}
use Rattle.endpoint_model.specs.Event.{Setup, own_of, Event}
use Rattle.endpoint_laws.specs.Past.{Past, Search, facts_of, ids_in_use, is_in_use, IsClosing, IsSearch, last_moment, past_of_log, WasStated}
use Rattle.endpoint_model.specs.State.{State, uses, is_used}
use Rattle.endpoint_model.specs.Log.{StandsFor}
use Rattle.endpoint_laws.specs.Laws.{IsSetup, AreCalls}

-- The session with this role and stage is held as that thing: a session that was opened here is
-- open, and one that was born here is half-open until it is confirmed, and open then. One that is
-- closing isn't held.
abbrev pub IsThing : Role → Stage → Joined → Held → Type 0
IsThing Initiator Opening j thing = ⊥
IsThing Initiator Open j thing = thing ≡ KeptAsInitiator j
IsThing Initiator NearClose j thing = ⊥
IsThing Initiator FarLinger j thing = ⊥
IsThing Initiator Closed j thing = ⊥
IsThing Responder Opening j thing = thing ≡ HalfOpen j
IsThing Responder Open j thing = thing ≡ KeptAsResponder j
IsThing Responder NearClose j thing = ⊥
IsThing Responder FarLinger j thing = ⊥
IsThing Responder Closed j thing = ⊥

-- What is towards a peer is held with it, and was started at this moment; what is towards a name is
-- a search that began then.
abbrev pub IsOfAim : Past → ℕ → AttemptState → Aim → Type 0
IsOfAim past near a (AtPeer peer n) =
    (held peer (facts_of past) ≡ Some (AttemptHeld n near a.ni)) ×
    WasStated a.start (Started peer n near a.ni) past
IsOfAim past near a (ByName name) =
    IsSearch near (record { name = name; tag = a.tag; ni = a.ni }) a.start past

-- The attempt or search under this session ID is there as what it aims at.
abbrev pub AttemptIsHeld : Past → ℕ → AttemptState → Type 0
AttemptIsHeld past near a = IsOfAim past near a a.aim

-- A search is there under its session ID.
pub record SearchIsThere (s : State) (near : ℕ) (which : Search) (at : ℕ) : Type 0 where
  pub attempt : AttemptState
  pub there : get s.startup.attempts near ≡ Some attempt
  pub aim_is : attempt.aim ≡ ByName which.name
  pub tag_is : attempt.tag ≡ which.tag
  pub ni_is : attempt.ni ≡ which.ni
  pub start_is : attempt.start ≡ at

-- An attempt that is held is there under its session ID.
pub record AttemptIsThere (s : State) (peer : List ℕ) (n near : ℕ) (ni : List ℕ) : Type 0 where
  pub attempt : AttemptState
  pub there : get s.startup.attempts near ≡ Some attempt
  pub aim_is : attempt.aim ≡ AtPeer peer n
  pub ni_is : attempt.ni ≡ ni

-- The session with this role was that thing while it was held.
abbrev pub WasThing : Role → Joined → Held → Type 0
WasThing Initiator j thing = thing ≡ KeptAsInitiator j
WasThing Responder j thing = (thing ≡ HalfOpen j) ⊎ (thing ≡ KeptAsResponder j)

-- The session is closing, which this end or the peer began.
abbrev pub IsClosingStage : Stage → Type 0
IsClosingStage Opening = ⊥
IsClosingStage Open = ⊥
IsClosingStage NearClose = Unit {0}
IsClosingStage FarLinger = Unit {0}
IsClosingStage Closed = ⊥

-- A session with this role and stage is held, or it is closing.
abbrev pub SessionStands : Past → ℕ → SessionState → Type 0
SessionStands past near session =
    ((thing : Held) × IsThing session.role session.stage session.joined thing ×
    (held session.joined.peer (facts_of past) ≡ Some thing)) ⊎
    (IsClosingStage session.stage × ((thing : Held) × (at : ℕ) ×
    WasThing session.role session.joined thing × IsClosing near thing at past))

-- The session under this session ID is held with its peer, in its stage, or closing.
pub record SessionIsOfTheLog (setup : Setup) (past : Past) (near : ℕ)
    (session : SessionState) : Type 0 where
  pub stands : SessionStands past near session
  pub id : session.joined.near ≡ near
  pub own : session.own ≡ own_of setup

-- A session that is held is there under its session ID, in its stage.
pub record SessionIsThere (s : State) (thing : Held) : Type 0 where
  pub row : Row
  pub there : get s.sessions (near_of thing) ≡ Some row
  pub is : IsThing row.session.role row.session.stage row.session.joined thing

-- A session that is closing is there under its session ID, in such a stage.
pub record ClosingIsThere (s : State) (near : ℕ) (thing : Held) : Type 0 where
  pub row : Row
  pub there : get s.sessions near ≡ Some row
  pub stage : IsClosingStage row.session.stage
  pub is : WasThing row.session.role row.session.joined thing

pub record IsOfTheLog (setup : Setup) (s : State) (now : ℕ) (past : Past) : Type 0 where
  pub moment : s.moment ≡ now
  -- the session IDs in use, and how many there are
  pub ids : (near : ℕ) → is_used s near ≡ is_in_use near past
  pub uses_are : uses s ≡ length (ids_in_use past)
  -- the attempts and searches
  pub attempts : (near : ℕ) (a : AttemptState) → get s.startup.attempts near ≡ Some a →
      AttemptIsHeld past near a
  pub attempts_there : (peer : List ℕ) (n near : ℕ) (ni : List ℕ) →
      held peer (facts_of past) ≡ Some (AttemptHeld n near ni) → AttemptIsThere s peer n near ni
  pub searches_there : (near : ℕ) (which : Search) (at : ℕ) → IsSearch near which at past →
      SearchIsThere s near which at
  -- the sessions, with their stages
  pub sessions : (near : ℕ) (row : Row) → get s.sessions near ≡ Some row →
      SessionIsOfTheLog setup past near row.session
  pub sessions_there : (peer : List ℕ) (thing : Held) → held peer (facts_of past) ≡ Some thing →
      IsSession thing → SessionIsThere s thing
  pub closing_there : (near : ℕ) (thing : Held) (at : ℕ) → IsClosing near thing at past →
      ClosingIsThere s near thing
  -- what is held with each peer, the greatest number seen of it, and whether it has a row
  pub held_is : (peer : List ℕ) → held_with s.startup.ledger peer ≡ held peer (facts_of past)
  pub floor_is : (peer : List ℕ) → floor_of s.startup.ledger peer ≡ seen peer (facts_of past)
  pub row_is : (peer : List ℕ) → knows s.startup.ledger peer
      ≡ list_any (bytes_eq peer) (peers_in (facts_of past))
  -- how many rows there are, and how many attempts were started
  pub rows_are : row_count s.startup.ledger ≡ length (peers_in (facts_of past))
  pub count_is : s.startup.ledger.started ≡ count (facts_of past)

-- The session IDs in use, the stages and the rows of an end are those of whatever log it stands
-- for.
abbrev pub TheStateIsOfTheLog : Type 0
TheStateIsOfTheLog = (setup : Setup) (log : List Event) (s : State) → IsSetup setup → AreCalls log →
    StandsFor setup log s
    → IsOfTheLog setup s (last_moment 0 log) (past_of_log log)
