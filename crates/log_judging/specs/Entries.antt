-- What is known of the entries of an event, and what is found of them.
use Rattle.std.specs.Prelude.{ℕ, List, Option, Some, None}
use Rattle.rtmfp_packet.specs.Whole.{Whole}
use Rattle.endpoint_model.specs.declared.entry.Entry.{Entry}
use Rattle.endpoint_model.specs.Event.{Setup, Call, Event}
use Rattle.endpoint_laws.specs.Past.{Past, onto}
use Rattle.endpoint_laws.specs.Contexts.{Secrets}
use Rattle.log_digest.specs.Nonces.{NonceSet, AreNonces}
use Rattle.log_facts.specs.Coming.{IsRead}
use Rattle.log_sent.specs.Nonces.{stated_onto}
use Rattle.log_births.specs.declared.party.Way.{Way}
use Rattle.log_events.specs.Watch.{IsWatchOf}
use Rattle.log_events.specs.declared.watch.EndWatch.{EndWatch}
use Rattle.log_verdict.specs.declared.verdict.Finding.{Finding}
use Rattle.log_verdict.specs.Checks.{EntriesPass, EntriesFail}
use Rattle.log_entries.specs.declared.scene.Scene.{Scene}
use Rattle.log_entries.specs.Scenes.{IsHere, IsSceneOf}

-- It is the event, and its packet; it is judged so far, and this is what is kept of its end, and
-- the nonces that all ends stated.
pub record IsGoingOn (secrets : Secrets) (setup : Setup) (now : ℕ) (e : Event) (before past : Past)
    (stated : List (List ℕ)) (s : Scene) (packet : Option Whole) (w : EndWatch) (way : Option Way)
    (n : NonceSet) : Type 0 where
  pub scene_is : IsSceneOf secrets setup now e before s
  pub reads : IsRead s.arrival s.plain.now packet
  pub here : IsHere secrets setup now e before past w way
  pub nonces_are : AreNonces stated n

-- The entries pass after this, and what is kept then is that of the past and the nonces with them;
-- or this is found first of them, of which so many come before.
abbrev pub AreJudged : Secrets → ℕ → Setup → ℕ → Call → Past → List (List ℕ) → ℕ → List Entry →
    EndWatch → NonceSet → Option Finding → Type 0
AreJudged secrets number setup now call past stated count entries w n None =
    EntriesPass secrets setup now call past stated entries ×
    IsWatchOf secrets setup now (onto now entries past) w × AreNonces (stated_onto entries stated) n
AreJudged secrets number setup now call past stated count entries w n (Some f) =
    EntriesFail secrets number setup now call past stated count entries f
