-- An event is underway where it begins, and with each entry that meets its line.
use Rattle.std.proofs.Common.{ℕ, List, [], ◌∷◌, ◌≡◌, ◌⊎◌, inl, inr, refl, sym, ap, subst, Bool, true, if◌then◌else◌, Option, Some, None, ◌∙◌}
use Rattle.glare_core.specs.declared.facts.Fact.{Fact}
use Rattle.glare_core.specs.declared.facts.Fact.TheVariants.{Started, Born, Opened, Confirmed, Ended}
use Rattle.glare_core.specs.declared.facts.Held.{Held}
use Rattle.glare_core.specs.declared.facts.Held.TheVariants.{Opening, HalfOpen, KeptAsResponder, KeptAsInitiator}
use Rattle.glare_core.specs.Standing.{after, held, peer_of}
use Rattle.glare_core.specs.Things.{IsSession, near_of}
use Rattle.endpoint_model.specs.Event.{Setup, Event, own_of}
use Rattle.endpoint_model.specs.declared.entry.Entry.{Entry}
use Rattle.endpoint_model.specs.declared.entry.Entry.TheVariants.{Fact as FactEntry, Closed, Sought, Unsought, Moved, Learnt, Advanced, FlowOpened, Queued, Finished, Abandoned, Handed, Discard, Out}
use Rattle.endpoint_model.specs.Views.{fact_in}
use Rattle.endpoint_laws.specs.Past.{Past, begins, begun, facts_of, stamped, taken_since, with_begun, with_entry, WasStated}
use Rattle.endpoint_laws.specs.Contexts.{Secrets, BeganWith, StandsUnder}
use Rattle.endpoint_laws.specs.Lawful.{Line}
use Rattle.log_digest.specs.Kept.{Digested}
use Rattle.log_digest.specs.Digest.{IsDigestOf}
use Rattle.log_digest.proofs.Stated.{is_thing}
use Rattle.log_contexts.specs.Kept.{KeptContexts}
use Rattle.log_contexts.specs.Contexts.{AreContextsOf}
use Rattle.log_contexts.proofs.Standing.{one_stands, stands_plain, stands_fact, begun_plain, begun_confirmed, began_with}
use Rattle.log_events.specs.Underway.{BeganNow, IsUnderway, Stayed}
use Rattle.log_events.specs.Laws.{EventsGoOn}
use Rattle.log_events.proofs.Calls.{birth_opens, current_stays, next_stays}
use Rattle.log_events.proofs.Things.{began_one, begins_id, begins_once, decided, same_id, still_none}

-- ---- it begins

begins_so : (secrets : Secrets) (setup : Setup) (now : ℕ) (e : Event) (before : Past) (last : ℕ) (d : Digested) (c : KeptContexts) → IsDigestOf last before d → AreContextsOf secrets setup before c →
    IsUnderway secrets setup now e before (with_begun now e before)
begins_so secrets setup now e before last d c is are = record {
  last = refl;
  since = refl;
  current = λ keeps. refl;
  next = λ keeps. refl;
  alone = one_stands last before d is;
  sessions = λ near thing stands session.
      let stood = stands_plain before (begun now e) refl near thing stands in
      let k = are.session near thing stood session in
      inl (record {
        was = thing;
        is = inl refl;
        stands = stood;
        generation = k.generation;
        begun_before = k.begun;
        begun = begun_plain secrets setup thing k.generation before (begun now e) refl k.begun;
        taken = refl;
      });
}

-- ---- an entry

module _ (secrets : Secrets) (setup : Setup) (now : ℕ) (e : Event) (before past : Past) (rest : List Entry) (last : ℕ) (d : Digested) (u : IsUnderway secrets setup now e before past) (is : IsDigestOf last past d) where
  abbrev StandsSo : Past → ℕ → Held → Type 0
  StandsSo after near thing = Stayed secrets setup now e before after near thing ⊎ BeganNow secrets setup e before after near

  -- where no fact is stated
  on_plain : (entry : Entry) → fact_in entry ≡ None → (near : ℕ) (thing : Held) → StandsUnder (stamped now entry ∷ past) near thing → IsSession thing → StandsSo (stamped now entry ∷ past) near thing
  on_plain entry none near thing stands session =
      let same : taken_since near (stamped now entry ∷ past) ≡ taken_since near past = ap (λ (f : Option Fact). if begins near f then [] else taken_since near past) none in
      elim (u.sessions near thing (stands_plain past (stamped now entry) none near thing stands) session) [
        | inl s ↦ inl (record {
          was = s.was;
          is = s.is;
          stands = s.stands;
          generation = s.generation;
          begun_before = s.begun_before;
          begun = begun_plain secrets setup thing s.generation past (stamped now entry) none s.begun;
          taken = same ∙ s.taken;
        })
        | inr b ↦ inr (record { generation = b.generation; opened = b.opened; taken = same ∙ b.taken })
      ]

  module _ (g : Fact) (line : Line secrets setup now e.call past rest (FactEntry g)) where
    abbrev next : Past
    next = stamped now (FactEntry g) ∷ past

    -- a session begins with it
    begins_now : (near : ℕ) → begins near (Some g) ≡ true → BeganNow secrets setup e before next near
    begins_now near at =
        let id = begins_id near g at in
        let opened = birth_opens secrets setup now e before past u rest (FactEntry g) id.0 line id.1 in
        record { generation = opened.0; opened = opened.1; taken = ap (λ (b : Bool). if b then [] else taken_since near past) at }

    -- a session stood there
    on_old : (near : ℕ) (thing : Held) → StandsUnder past near thing → IsSession thing → StandsSo next near thing
    on_old near thing stands session = elim (u.sessions near thing stands session) [
      | inl s ↦ elim (decided (begins near (Some g))) [
        | inl at ↦ inr (begins_now near at)
        | inr not ↦ inl (record {
          was = s.was;
          is = s.is;
          stands = s.stands;
          generation = s.generation;
          begun_before = s.begun_before;
          begun = inr (not_again s.generation s, s.begun);
          taken = ap (λ (b : Bool). if b then [] else taken_since near past) not ∙ s.taken;
        })
      ]
      | inr b ↦ inr (record { generation = b.generation; opened = b.opened; taken = still_none (begins near (Some g)) (taken_since near past) b.taken })
    ]
      where
        not_again : (generation : ℕ) → (s : Stayed secrets setup now e before past near thing) → BeganWith thing g → ⊥
        not_again generation s b =
            let w = began_with secrets setup thing s.generation past s.begun in
            begins_once (own_of setup) past now is.orderly g line.0 thing b w.1 (subst (λ (f : Fact). WasStated w.1 f past) (began_one thing w.0 g w.2 b) w.3)

  -- a fact leaves it with its peer
  on_new : (g : Fact) → (line : Line secrets setup now e.call past rest (FactEntry g)) → (near : ℕ) (thing : Held) → after g (held (peer_of g) (facts_of past)) ≡ Some thing → near_of thing ≡ near → IsSession thing → StandsSo (stamped now (FactEntry g) ∷ past) near thing
  on_new (Started peer n id ni) line near thing left at session = absurd (subst IsSession (sym (is_thing (Opening n id ni) thing left)) session)
  on_new (Born j) line near thing left at session = inr (begins_now (Born j) line near (same_id j.near near (ap near_of (is_thing (HalfOpen j) thing left) ∙ at)))
  on_new (Opened j) line near thing left at session =
      inr (begins_now (Opened j) line near (same_id j.near near (ap near_of (is_thing (KeptAsInitiator j) thing (sym (ap (after (Opened j)) line.0) ∙ left)) ∙ at)))
  on_new (Confirmed peer id) line near thing left at session =
      let c = line.0 in
      let it : KeptAsResponder c.j ≡ thing = is_thing (KeptAsResponder c.j) thing (sym (ap (after (Confirmed peer id)) c.session) ∙ left) in
      let under : StandsUnder past near (HalfOpen c.j) = inl (record { peer = peer; is_held = c.session; id = ap near_of it ∙ at }) in
      subst (λ (t : Held). StandsSo (stamped now (FactEntry (Confirmed peer id)) ∷ past) near t) it (elim (u.sessions near (HalfOpen c.j) under tt) [
        | inl s ↦ inl (record {
          was = s.was;
          is = inr (elim s.is [ inl same ↦ same | inr same ↦ same ]);
          stands = s.stands;
          generation = s.generation;
          begun_before = s.begun_before;
          begun = inr ((λ b. let clash : Confirmed peer id ≡ Born c.j = b in cc), begun_confirmed secrets setup c.j s.generation past s.begun);
          taken = s.taken;
        })
        | inr b ↦ inr (record { generation = b.generation; opened = b.opened; taken = b.taken })
      ])
  on_new (Ended peer id why) line near thing left at session = absurd (let clash : None ≡ Some thing = left in cc)

  on_fact : (g : Fact) → Line secrets setup now e.call past rest (FactEntry g) → (near : ℕ) (thing : Held) → StandsUnder (stamped now (FactEntry g) ∷ past) near thing → IsSession thing → StandsSo (stamped now (FactEntry g) ∷ past) near thing
  on_fact g line near thing stands session = elim (stands_fact (own_of setup) past now g line.0 near thing stands) [
    | inl old ↦ on_old g line near thing old session
    | inr new ↦ on_new g line near thing new.0 new.1 session
  ]

  on_entry : (entry : Entry) → Line secrets setup now e.call past rest entry → (near : ℕ) (thing : Held) → StandsUnder (stamped now entry ∷ past) near thing → IsSession thing → StandsSo (stamped now entry ∷ past) near thing
  on_entry (FactEntry g) line = on_fact g line
  on_entry (Closed near) line = on_plain (Closed near) refl
  on_entry (Sought near name) line = on_plain (Sought near name) refl
  on_entry (Unsought near why) line = on_plain (Unsought near why) refl
  on_entry (Moved near to) line = on_plain (Moved near to) refl
  on_entry (Learnt generation) line = on_plain (Learnt generation) refl
  on_entry (Advanced generation) line = on_plain (Advanced generation) refl
  on_entry (FlowOpened near flow) line = on_plain (FlowOpened near flow) refl
  on_entry (Queued near flow seq message) line = on_plain (Queued near flow seq message) refl
  on_entry (Finished near flow seq) line = on_plain (Finished near flow seq) refl
  on_entry (Abandoned near flow seq) line = on_plain (Abandoned near flow seq) refl
  on_entry (Handed near flow seq message) line = on_plain (Handed near flow seq message) refl
  on_entry (Discard place cause) line = on_plain (Discard place cause) refl
  on_entry (Out to datagram context) line = on_plain (Out to datagram context) refl

  adds_so : (entry : Entry) → Line secrets setup now e.call past rest entry → IsUnderway secrets setup now e before (with_entry now entry past)
  adds_so entry line = record {
    last = u.last;
    since = u.since;
    current = λ keeps. current_stays secrets setup now e.call past rest keeps now entry line ∙ u.current keeps;
    next = λ keeps. next_stays secrets setup now e.call past rest keeps now entry line ∙ u.next keeps;
    alone = u.alone;
    sessions = on_entry entry line;
  }

pub they_go_on : EventsGoOn
they_go_on = record {
  begins = begins_so;
  adds = λ secrets setup now e before past rest entry last d u is line. adds_so secrets setup now e before past rest last d u is entry line;
}
