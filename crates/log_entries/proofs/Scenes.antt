-- What is known of an event tells at each of its entries what the lines ask.
use Rattle.std.proofs.Common.{ℕ, List, ◌≡◌, refl, sym, ap, subst, Bool, Option, ◌∙◌}
use Rattle.std.specs.FinMap.{get}
use Rattle.glare_core.specs.declared.facts.Fact.{Fact}
use Rattle.glare_core.specs.declared.facts.Fact.TheVariants.{Started, Born, Opened, Confirmed, Ended}
use Rattle.glare_core.specs.declared.facts.Joined.{Joined}
use Rattle.glare_core.specs.declared.facts.Why.{Why}
use Rattle.rtmfp_packet.specs.Whole.{Whole}
use Rattle.endpoint_model.specs.Event.{Setup, Call, Event, receive_in}
use Rattle.endpoint_laws.specs.Past.{Past, before_event}
use Rattle.endpoint_laws.specs.Contexts.{Secrets}
use Rattle.endpoint_laws.specs.Lawful.{BornLine}
use Rattle.log_values.specs.Events.{call_of}
use Rattle.log_contexts.specs.Kept.{last_in}
use Rattle.log_packets.specs.Asked.{Tells}
use Rattle.log_arrivals.specs.Arrivals.{ArrivesIn}
use Rattle.log_outs.specs.declared.sender.Cause.{Cause}
use Rattle.log_outs.specs.Outs.{IsCauseOf}
use Rattle.log_facts.specs.Coming.{Comes, IsRead, IsTaken}
use Rattle.log_facts.specs.Lines.{IsFoundFor}
use Rattle.log_births.specs.declared.party.Way.{Way}
use Rattle.log_births.specs.Births.{Stays}
use Rattle.log_events.specs.declared.watch.EndWatch.{EndWatch}
use Rattle.log_events.proofs.Telling.{arrivals_so, causes_so, found_so, it_stays}
use Rattle.log_entries.specs.declared.scene.Scene.{Scene}
use Rattle.log_entries.specs.Scenes.{IsHere, IsSceneOf}

-- the call as it is logged
abbrev pub logged : Scene → Call
logged scene = call_of scene.nonce.now scene.call.now

module _ (secrets : Secrets) (setup : Setup) (now : ℕ) (e : Event) (before past : Past) (scene : Scene) (w : EndWatch) (way : Option Way) (s : IsSceneOf secrets setup now e before scene) (h : IsHere secrets setup now e before past w way) where
  pub comes : (packet : Option Whole) → IsRead scene.arrival scene.plain.now packet → Comes secrets setup past (receive_in (logged scene)) scene.plain.now scene.arrival packet
  comes packet reads = record {
    arrives = subst (λ (it : Call). ArrivesIn secrets setup (before_event past) (receive_in it) scene.plain.now scene.arrival) s.call_is (arrivals_so.asked secrets setup now e before past scene.plain.now scene.arrival h.underway s.arrives);
    reads = reads;
  }

  pub taken : IsTaken secrets setup past (receive_in (logged scene)) scene.took
  taken = subst (λ (it : Call). IsTaken secrets setup past (receive_in it) scene.took) s.call_is (s.takes past h.underway)

  pub stays : Stays setup past (receive_in (logged scene))
  stays r given = it_stays.contexts secrets setup now e before past h.underway (it_stays.receives e r (ap receive_in s.call_is ∙ given))

  pub caused : (why : Cause) → why.call.now ≡ scene.call.now → why.plain.now ≡ scene.plain.now → why.arrival ≡ scene.arrival → IsCauseOf secrets setup past scene.nonce.now why
  caused why call plain arrival =
      causes_so secrets setup now e before past scene.nonce.now why h.underway (s.call_is ∙ ap (call_of scene.nonce.now) (sym call))
      (subst (λ (it : List ℕ). ArrivesIn secrets setup before (receive_in e.call) it why.arrival) (sym plain) (subst (ArrivesIn secrets setup before (receive_in e.call) scene.plain.now) (sym arrival) s.arrives))

  -- ---- what is found for a fact

  pub borne : (fact : Fact) (its j : Joined) (it : Bool) → fact ≡ Born its → fact ≡ Born j → Tells (BornLine secrets setup now (logged scene) past its) it → Tells (BornLine secrets setup now e.call past j) it
  borne fact its j it at is tells =
      let same : its ≡ j = let one : Born its ≡ Born j = sym at ∙ is in cc in
      subst (λ (x : Joined). Tells (BornLine secrets setup now e.call past x) it) same (subst (λ (c : Call). Tells (BornLine secrets setup now c past its) it) (sym s.call_is) tells)

  found_now : (borne : Bool) (last : Option ℕ) (fact : Fact) → ((j : Joined) → fact ≡ Born j → Tells (BornLine secrets setup now e.call past j) borne) → ((peer : List ℕ) (near : ℕ) (why : Why) → fact ≡ Ended peer near why → last ≡ last_in (get w.contexts.sessions near)) → IsFoundFor secrets setup now e.call past scene.arrival borne last fact
  found_now borne last (Started peer n near ni) born ended = tt
  found_now borne last (Born j) born ended = born j refl
  found_now borne last (Opened j) born ended = tt
  found_now borne last (Confirmed peer near) born ended = found_so.confirmed secrets setup now e before past scene.plain.now peer near scene.arrival borne last h.underway s.arrives
  found_now borne last (Ended peer near why) born ended =
      subst (λ (it : Option ℕ). IsFoundFor secrets setup now e.call past scene.arrival borne it (Ended peer near why)) (sym (ended peer near why refl))
      (found_so.ended secrets setup now e past peer near why scene.arrival borne w.contexts h.watch.contexts)

  pub found : (borne : Bool) (last : Option ℕ) (fact : Fact) → ((j : Joined) → fact ≡ Born j → Tells (BornLine secrets setup now e.call past j) borne) → ((peer : List ℕ) (near : ℕ) (why : Why) → fact ≡ Ended peer near why → last ≡ last_in (get w.contexts.sessions near)) → IsFoundFor secrets setup now (logged scene) past scene.arrival borne last fact
  found borne last fact born ended = subst (λ (it : Call). IsFoundFor secrets setup now it past scene.arrival borne last fact) s.call_is (found_now borne last fact born ended)
