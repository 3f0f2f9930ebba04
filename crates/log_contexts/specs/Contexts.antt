-- When what is kept is that of a log.
use Rattle.std.specs.Prelude.{ℕ, List, ◌≡◌, Bool, true, Option, Some, None}
use Rattle.std.specs.FinMap.{get}
use Rattle.glare_core.specs.declared.facts.Held.{Held}
use Rattle.glare_core.specs.Steps.{Among}
use Rattle.glare_core.specs.Things.{IsSession}
use Rattle.endpoint_model.specs.Event.{Setup, Event}
use Rattle.endpoint_model.specs.Views.{Sending}
use Rattle.endpoint_laws.specs.Past.{Past, last_call, open_of, opened_tag, seek_of, sought_tag, tag_of, taken_since, with_begun}
use Rattle.endpoint_laws.specs.Contexts.{Secrets, BegunUnder, EventOpenedIn, IsKeying, KeyingWent, StandsUnder, inward}
use Rattle.endpoint_laws.specs.Taken.{Passes, inward_mode}
use Rattle.endpoint_laws.specs.Lawful.{OpensInSession}
use Rattle.log_digest.specs.Hearing.{Heard, IsHearingOf, OpensAs}
use Rattle.log_contexts.specs.declared.sessions.Session.{Session}
use Rattle.log_contexts.specs.Kept.{KeptContexts, keying_at, tag_at}

-- It is what is kept of this thing, a session under this session ID: the generation in which it
-- began, and what it took since then.
pub record IsKeptOf (secrets : Secrets) (setup : Setup) (past : Past) (near : ℕ) (thing : Held)
    (kept : Option Session) : Type 0 where
  pub generation : ℕ
  pub heard : Heard
  pub kept_is : kept ≡ Some (record { generation = generation; hearing = heard })
  pub begun : BegunUnder secrets setup thing generation past
  pub hearing : IsHearingOf secrets (inward setup generation thing) (inward_mode thing) near
      (taken_since near past) heard

-- It is what is kept of an end that was given this and did this: what the last call drew, of each
-- session ID the tag of what began there last and the generation of its keying, and each session
-- that is held or closing.
pub record AreContextsOf (secrets : Secrets) (setup : Setup) (past : Past) (c : KeptContexts)
    : Type 0 where
  pub opened_is : c.opened ≡ opened_tag (open_of (last_call past)) None
  pub sought_is : c.sought ≡ sought_tag (seek_of (last_call past)) None
  pub tag : (near : ℕ) → tag_of near past ≡ tag_at near c.threads
  pub went : (near generation : ℕ) → KeyingWent secrets near generation past →
      keying_at near c.threads ≡ Some generation
  pub keying : (near generation : ℕ) → keying_at near c.threads ≡ Some generation →
      KeyingWent secrets near generation past
  pub session : (near : ℕ) (thing : Held) → StandsUnder past near thing → IsSession thing →
      IsKeptOf secrets setup past near thing (get c.sessions near)

-- ---- what the caller tells

-- The datagram, if there is one, opens in no session that stands.
abbrev pub OpensInNone : Secrets → Setup → Past → Option (List ℕ) → Type 0
OpensInNone secrets setup past None = Unit {0}
OpensInNone secrets setup past (Some datagram) = (near : ℕ) (thing : Held) →
    OpensInSession secrets setup past near thing datagram → ⊥

-- The datagram opens in this thing, a session that stands under this session ID and began in this
-- generation, with this count, and is a packet of its mode where `fits` says so.
pub record OpensThere (secrets : Secrets) (setup : Setup) (past : Past) (near : ℕ) (thing : Held)
    (generation : ℕ) (datagram : List ℕ) (count : ℕ) (fits : Bool) : Type 0 where
  pub stands : StandsUnder past near thing
  pub is_session : IsSession thing
  pub begun : BegunUnder secrets setup thing generation past
  pub opens : OpensAs secrets (inward setup generation thing) (inward_mode thing) near datagram
      count fits

-- These are the session IDs of the initiators' keyings in the datagram that goes out in a startup
-- context, if one does.
pub record AreKeyingsOf (secrets : Secrets) (sent : Option Sending) (keyings : List ℕ) : Type 0
  where
    pub there : (near generation : ℕ) → IsKeying secrets near generation sent → Among near keyings
    pub is : (near : ℕ) → Among near keyings →
        (generation : ℕ) × IsKeying secrets near generation sent

-- Where a session begins, this is the generation in which the datagram opened of the last event
-- that began.
abbrev pub BeginsIn : Secrets → Setup → Past → Option ℕ → Option ℕ → Type 0
BeginsIn secrets setup past None opened = Unit {0}
BeginsIn secrets setup past (Some near) None = ⊥
BeginsIn secrets setup past (Some near) (Some generation) =
    EventOpenedIn secrets setup past generation

-- ---- what a call tells

-- It is what is kept with the event, and the session takes the event's datagram exactly where the
-- answer says so.
pub record HearsThere (secrets : Secrets) (setup : Setup) (past : Past) (moment : ℕ) (e : Event)
    (near : ℕ) (thing : Held) (generation : ℕ) (datagram : List ℕ) (c : KeptContexts)
    (took : Bool) : Type 0 where
  pub log : AreContextsOf secrets setup (with_begun moment e past) c
  pub passes : took ≡ true →
      Passes secrets setup generation thing near (taken_since near past) datagram
  pub passed : Passes secrets setup generation thing near (taken_since near past) datagram →
      took ≡ true
