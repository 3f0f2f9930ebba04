-- What a caller tells of an end, and what births ask of what it did.
use Rattle.std.specs.Prelude.{ℕ, List, length, ◌≡◌, ◌<◌, ◌⊎◌, true, Option, Some, None}
use Rattle.std.specs.List.{list_any}
use Rattle.std.specs.Str.{bytes_eq}
use Rattle.identity.specs.Order.{Prevails}
use Rattle.glare_core.specs.declared.facts.Fact.TheVariants.{Ended}
use Rattle.glare_core.specs.declared.facts.Held.{Held}
use Rattle.glare_core.specs.declared.facts.Why.{Why}
use Rattle.glare_core.specs.Standing.{held, seen, peers_in}
use Rattle.glare_core.specs.Stands.{IsForBorn}
use Rattle.glare_core.specs.Things.{IsAttempt}
use Rattle.endpoint_model.specs.Event.{Setup, Event, ReceiveCall, own_of}
use Rattle.endpoint_laws.specs.Past.{Past, before_event, facts_of, ids_in_use, with_begun, with_fact}
use Rattle.endpoint_laws.specs.Contexts.{startup_contexts}
use Rattle.endpoint_laws.specs.Lawful.{WayMade}
use Rattle.log_births.specs.declared.party.Party.{Party}
use Rattle.log_births.specs.declared.party.Way.{Way}

-- ---- what the caller tells

-- The end was given this.
pub record IsPartyOf (setup : Setup) (p : Party) : Type 0 where
  pub cert_is : setup.cert ≡ p.cert.now
  pub own_is : own_of setup ≡ p.own.now
  pub cookies_are : setup.cookie_secret ≡ p.cookies.now
  pub peers_are : setup.config.max_peers ≡ p.max_peers
  pub sessions_are : setup.config.max_sessions ≡ p.max_sessions

-- Since the event began the startup contexts of its end stayed, if its call is given a datagram.
abbrev pub Stays : Setup → Past → Option ReceiveCall → Type 0
Stays setup past received = (r : ReceiveCall) → received ≡ Some r →
    startup_contexts setup past ≡ startup_contexts setup (before_event past)

-- The last that was done is an end that makes way for a birth, now and with this peer, after this.
pub record HasEnded (now : ℕ) (past before : Past) (peer : List ℕ) : Type 0 where
  pub near : ℕ
  pub why : Why
  pub for_born : IsForBorn why
  pub last : past ≡ with_fact now (Ended peer near why) before

-- It is what was before that end.
pub record MadeWay (now : ℕ) (past : Past) (way : Way) : Type 0 where
  pub before : Past
  pub ended : HasEnded now past before way.peer
  pub thing_is : held way.peer (facts_of before) ≡ Some way.thing
  pub uses_are : length (ids_in_use before) ≡ way.uses

-- It is that, if the last that was done is such an end.
abbrev pub IsWay : ℕ → Past → Option Way → Type 0
IsWay now past None = (before : Past) (peer : List ℕ) → HasEnded now past before peer → ⊥
IsWay now past (Some way) = MadeWay now past way

-- Where an event began last there is none.
abbrev pub NothingMadeWayBeforeAnEvent : Type 0
NothingMadeWayBeforeAnEvent = (now moment : ℕ) (e : Event) (past : Past) →
    IsWay now (with_begun moment e past) None

-- ---- what births ask

-- What an end that did this has stated, and the session IDs in use, let a session be born of the
-- attempt of this peer with this number.
pub record MayBear (setup : Setup) (past : Past) (peer : List ℕ) (n : ℕ) : Type 0 where
  pub above : seen peer (facts_of past) < n
  pub prevails : (thing : Held) → held peer (facts_of past) ≡ Some thing → IsAttempt thing →
      Prevails peer (own_of setup)
  pub row : (list_any (bytes_eq peer) (peers_in (facts_of past)) ≡ true) ⊎
      (length (peers_in (facts_of past)) < setup.config.max_peers)
  pub place : held peer (facts_of past) ≡ None →
      length (ids_in_use past) < setup.config.max_sessions

-- The same, or what it did before the end that made way lets it.
pub record MayBearHere (setup : Setup) (now : ℕ) (past : Past) (peer : List ℕ) (n : ℕ) : Type 0
  where
    pub before : Past
    pub way : WayMade now past before peer
    pub may : MayBear setup before peer n
