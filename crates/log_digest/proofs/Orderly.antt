-- What was done stays orderly.
use Rattle.std.proofs.Common.{ℕ, List, ◌∷◌, ◌≡◌, ◌≤◌, ◌<◌, ◌+◌, inl, inr, refl, sym, ap, subst, arith, Option, Some, None, ◌∙◌}
use Rattle.glare_core.specs.declared.facts.Fact.{Fact}
use Rattle.glare_core.specs.declared.facts.Fact.TheVariants.{Started, Born, Opened, Confirmed, Ended}
use Rattle.glare_core.specs.declared.facts.Held.{Held}
use Rattle.glare_core.specs.declared.facts.Held.TheVariants.{Opening, HalfOpen, KeptAsResponder, KeptAsInitiator}
use Rattle.glare_core.specs.declared.facts.Joined.{Joined}
use Rattle.glare_core.specs.Standing.{peer_of, after, held, seen, count}
use Rattle.glare_core.specs.Stands.{Stands}
use Rattle.glare_core.specs.Things.{near_of}
use Rattle.glare_core.proofs.Tails.{same_end}
use Rattle.endpoint_model.specs.declared.entry.Entry.TheVariants.{Fact as FactEntry}
use Rattle.endpoint_laws.specs.Past.{Stamped, stamped, fact_done, fact_and, facts_of, Past, WasStated, nothing_done}
use Rattle.log_digest.specs.Spots.{beginning, IsHeldSince, IsOrderly}
use Rattle.log_digest.proofs.Stated.{stated_now, stated_before, holds_peer, is_thing, held_same, held_other, seen_same, seen_more, count_more}

pub orderly_first : IsOrderly nothing_done
orderly_first = record {
  started = λ at peer n near ni w. absurd w;
  born = λ at j w. absurd w;
  opened = λ at j w. absurd w;
  over = λ at j w n near ni h. absurd w;
  since = λ peer thing h. absurd cc;
}

-- What is held goes on.
pub goes_on : (past now : Past) (near : ℕ) (peer : List ℕ) (at : ℕ) (h : IsHeldSince past near peer at) → held peer (facts_of now) ≡ Some h.thing → WasStated at (beginning peer h.thing) now →
    ((moment : ℕ) → WasStated moment (beginning peer h.thing) now → WasStated moment (beginning peer h.thing) past) → IsHeldSince now near peer at
goes_on past now near peer at h is_held began back = record { thing = h.thing; is_held = is_held; id = h.id; began = began; once = λ moment w. h.once moment (back moment w) }

module _ (past : Past) (o : IsOrderly past) where
  -- ---- where no fact is stated
  module _ (s : Stamped) (none : fact_done s.what ≡ None) where
    pub same_facts : facts_of (s ∷ past) ≡ facts_of past
    same_facts = ap (λ (f : Option Fact). fact_and f (facts_of past)) none

    pub since_plain : (near : ℕ) (peer : List ℕ) (at : ℕ) → IsHeldSince past near peer at → IsHeldSince (s ∷ past) near peer at
    since_plain near peer at h =
        goes_on past (s ∷ past) near peer at h (ap (held peer) same_facts ∙ h.is_held) (inr h.began) (λ moment w. stated_before s moment (beginning peer h.thing) past none w)

    pub since_plain_back : (near : ℕ) (peer : List ℕ) (at : ℕ) → IsHeldSince (s ∷ past) near peer at → IsHeldSince past near peer at
    since_plain_back near peer at h =
        goes_on (s ∷ past) past near peer at h (ap (held peer) (sym same_facts) ∙ h.is_held) (stated_before s at (beginning peer h.thing) past none h.began) (λ moment w. inr w)

    pub orderly_plain : IsOrderly (s ∷ past)
    orderly_plain = record {
      started = λ at peer n near ni w. subst (λ (facts : List Fact). n ≤ count facts) (sym same_facts) (o.started at peer n near ni (stated_before s at (Started peer n near ni) past none w));
      born = λ at j w. subst (λ (facts : List Fact). j.n ≤ seen j.peer facts) (sym same_facts) (o.born at j (stated_before s at (Born j) past none w));
      opened = λ at j w. subst (λ (facts : List Fact). j.n ≤ count facts) (sym same_facts) (o.opened at j (stated_before s at (Opened j) past none w));
      over = λ at j w n near ni h. o.over at j (stated_before s at (Opened j) past none w) n near ni (ap (held j.peer) (sym same_facts) ∙ h);
      since = λ peer thing h. let old = o.since peer thing (ap (held peer) (sym same_facts) ∙ h) in (old.0, since_plain (near_of thing) peer old.0 old.1);
    }

  -- ---- where a fact is stated
  module _ (own : List ℕ) (now : ℕ) where
    -- a thing begins with the fact
    begins : (g : Fact) (thing : Held) → held (peer_of g) (g ∷ facts_of past) ≡ Some thing → beginning (peer_of g) thing ≡ g → ((at : ℕ) → WasStated at g past → ⊥) →
        IsHeldSince (stamped now (FactEntry g) ∷ past) (near_of thing) (peer_of g) now
    begins g thing is_held is new = record {
      thing = thing;
      is_held = is_held;
      id = refl;
      began = inl (ap (λ (f : Fact). stamped now (FactEntry f)) is);
      once = λ moment w. elim (stated_now now moment g (beginning (peer_of g) thing) past w) [
        | inl e ↦ e.0
        | inr w' ↦ absurd (new moment (subst (λ (f : Fact). WasStated moment f past) is w'))
      ];
    }

    -- no such fact was stated before
    pub new_started : (peer : List ℕ) (n near : ℕ) (ni : List ℕ) → Stands own (count (facts_of past)) (facts_of past) (Started peer n near ni) → (at : ℕ) → WasStated at (Started peer n near ni) past → ⊥
    new_started peer n near ni s at w = omega (arith, s.next, o.started at peer n near ni w)

    pub new_born : (j : Joined) → Stands own (count (facts_of past)) (facts_of past) (Born j) → (at : ℕ) → WasStated at (Born j) past → ⊥
    new_born j s at w = omega (arith, s.above, o.born at j w)

    pub new_opened : (j : Joined) → Stands own (count (facts_of past)) (facts_of past) (Opened j) → (at : ℕ) → WasStated at (Opened j) past → ⊥
    new_opened j s at w = omega (arith, o.over at j w j.n j.near j.ni s)

    -- what began before doesn't begin again
    pub not_again : (g : Fact) → Stands own (count (facts_of past)) (facts_of past) g → (p : List ℕ) (thing : Held) (at : ℕ) → WasStated at (beginning p thing) past → beginning p thing ≡ g → ⊥
    not_again (Started peer n near ni) s p thing at w e = new_started peer n near ni s at (subst (λ (f : Fact). WasStated at f past) e w)
    not_again (Born j) s p thing at w e = new_born j s at (subst (λ (f : Fact). WasStated at f past) e w)
    not_again (Opened j) s p thing at w e = new_opened j s at (subst (λ (f : Fact). WasStated at f past) e w)
    not_again (Confirmed peer near) s p (Opening n near' ni) at w e = absurd cc
    not_again (Confirmed peer near) s p (HalfOpen j) at w e = absurd cc
    not_again (Confirmed peer near) s p (KeptAsResponder j) at w e = absurd cc
    not_again (Confirmed peer near) s p (KeptAsInitiator j) at w e = absurd cc
    not_again (Ended peer near why) s p (Opening n near' ni) at w e = absurd cc
    not_again (Ended peer near why) s p (HalfOpen j) at w e = absurd cc
    not_again (Ended peer near why) s p (KeptAsResponder j) at w e = absurd cc
    not_again (Ended peer near why) s p (KeptAsInitiator j) at w e = absurd cc

    back_now : (g : Fact) → Stands own (count (facts_of past)) (facts_of past) g → (p : List ℕ) (thing : Held) (at : ℕ) → WasStated at (beginning p thing) past →
        (moment : ℕ) → WasStated moment (beginning p thing) (stamped now (FactEntry g) ∷ past) → WasStated moment (beginning p thing) past
    back_now g s p thing at began moment w = elim (stated_now now moment g (beginning p thing) past w) [ inl e ↦ absurd (not_again g s p thing at began e.1) | inr w' ↦ w' ]

    -- with another peer all stays
    pub since_other : (g : Fact) → Stands own (count (facts_of past)) (facts_of past) g → (near : ℕ) (p : List ℕ) (at : ℕ) → (peer_of g ≡ p → ⊥) → IsHeldSince past near p at →
        IsHeldSince (stamped now (FactEntry g) ∷ past) near p at
    since_other g s near p at other h =
        goes_on past (stamped now (FactEntry g) ∷ past) near p at h (held_other g (facts_of past) p other ∙ h.is_held) (inr h.began) (back_now g s p h.thing at h.began)

    pub since_other_back : (g : Fact) → Stands own (count (facts_of past)) (facts_of past) g → (near : ℕ) (p : List ℕ) (at : ℕ) → (peer_of g ≡ p → ⊥) →
        IsHeldSince (stamped now (FactEntry g) ∷ past) near p at → IsHeldSince past near p at
    since_other_back g s near p at other h =
        let before : held p (facts_of past) ≡ Some h.thing = sym (held_other g (facts_of past) p other) ∙ h.is_held in
        goes_on (stamped now (FactEntry g) ∷ past) past near p at h before (elim (stated_now now at g (beginning p h.thing) past h.began) [
          | inl e ↦ absurd (other (sym (ap peer_of e.1) ∙ holds_peer p (facts_of past) h.thing before))
          | inr w ↦ w
        ]) (λ moment w. inr w)

    -- a session goes on once it is confirmed
    pub since_confirmed : (peer : List ℕ) (near : ℕ) (j : Joined) (s : Stands own (count (facts_of past)) (facts_of past) (Confirmed peer near)) → held peer (facts_of past) ≡ Some (HalfOpen j) →
        (id at : ℕ) (h : IsHeldSince past id peer at) → h.thing ≡ HalfOpen j → IsHeldSince (stamped now (FactEntry (Confirmed peer near)) ∷ past) id peer at
    since_confirmed peer near j s is id at h thing =
        let began : WasStated at (Born j) past = subst (λ (t : Held). WasStated at (beginning peer t) past) thing h.began in
        record {
          thing = KeptAsResponder j;
          is_held = held_same (Confirmed peer near) (facts_of past) peer refl ∙ ap (after (Confirmed peer near)) is;
          id = ap near_of (sym thing) ∙ h.id;
          began = inr began;
          once = λ moment w. h.once moment (subst (λ (t : Held). WasStated moment (beginning peer t) past) (sym thing) (back_now (Confirmed peer near) s peer (HalfOpen j) at began moment w));
        }

    -- ---- the fields

    after_opening : (g : Fact) → Stands own (count (facts_of past)) (facts_of past) g → (n near : ℕ) (ni : List ℕ) → after g (held (peer_of g) (facts_of past)) ≡ Some (Opening n near ni) →
        n ≡ count (facts_of past) + 1
    after_opening (Started peer m near' ni') s n near ni e = let same : m ≡ n = cc in sym same ∙ s.next
    after_opening (Born j) s n near ni e = absurd cc
    after_opening (Opened j) s n near ni e = absurd (let e' : Some (KeptAsInitiator j) ≡ Some (Opening n near ni) = sym (ap (after (Opened j)) s) ∙ e in cc)
    after_opening (Confirmed peer near') s n near ni e = absurd (let e' : Some (KeptAsResponder s.j) ≡ Some (Opening n near ni) = sym (ap (after (Confirmed peer near')) s.session) ∙ e in cc)
    after_opening (Ended peer near' why) s n near ni e = absurd cc

    started_fits : (g : Fact) → Stands own (count (facts_of past)) (facts_of past) g → (peer : List ℕ) (n near : ℕ) (ni : List ℕ) → Started peer n near ni ≡ g → n ≤ count (g ∷ facts_of past)
    started_fits (Started peer m near' ni') s p n near ni e = let same : n ≡ m = cc in omega (arith, same, s.next)
    started_fits (Born j) s p n near ni e = absurd cc
    started_fits (Opened j) s p n near ni e = absurd cc
    started_fits (Confirmed peer near') s p n near ni e = absurd cc
    started_fits (Ended peer near' why) s p n near ni e = absurd cc

    born_fits : (g : Fact) (j : Joined) → Born j ≡ g → j.n ≤ seen j.peer (g ∷ facts_of past)
    born_fits g j e = subst (λ (f : Fact). j.n ≤ seen j.peer (f ∷ facts_of past)) e (omega (arith, seen_same (Born j) (facts_of past) j.peer refl))

    opened_number : (j : Joined) → held j.peer (facts_of past) ≡ Some (Opening j.n j.near j.ni) → j.n ≤ count (facts_of past)
    opened_number j is =
        let old = o.since j.peer (Opening j.n j.near j.ni) is in
        let same : old.1.thing ≡ Opening j.n j.near j.ni = (let e : Some old.1.thing ≡ Some (Opening j.n j.near j.ni) = sym old.1.is_held ∙ is in cc) in
        o.started old.0 j.peer j.n j.near j.ni (subst (λ (t : Held). WasStated old.0 (beginning j.peer t) past) same old.1.began)

    opened_fits : (g : Fact) → Stands own (count (facts_of past)) (facts_of past) g → (j : Joined) → Opened j ≡ g → j.n ≤ count (g ∷ facts_of past)
    opened_fits (Started peer n near ni) s j e = absurd cc
    opened_fits (Born k) s j e = absurd cc
    opened_fits (Opened k) s j e = let same : j ≡ k = cc in omega (arith, ap (λ (i : Joined). i.n) same, opened_number k s)
    opened_fits (Confirmed peer near) s j e = absurd cc
    opened_fits (Ended peer near why) s j e = absurd cc

    over_same : (g : Fact) → Stands own (count (facts_of past)) (facts_of past) g → (at : ℕ) (j : Joined) → WasStated at (Opened j) (stamped now (FactEntry g) ∷ past) → peer_of g ≡ j.peer → (n near : ℕ) (ni : List ℕ) →
        held j.peer (g ∷ facts_of past) ≡ Some (Opening n near ni) → j.n < n
    over_same g s at j w e n near ni is =
        let left : after g (held (peer_of g) (facts_of past)) ≡ Some (Opening n near ni) = ap (λ (p : List ℕ). after g (held p (facts_of past))) e ∙ sym (held_same g (facts_of past) j.peer e) ∙ is in
        let next = after_opening g s n near ni left in
        elim (stated_now now at g (Opened j) past w) [
          | inl same ↦ absurd (opened_ends j (subst (λ (f : Fact). Stands own (count (facts_of past)) (facts_of past) f) (sym same.1) s) n near ni (subst (λ (f : Fact). held j.peer (f ∷ facts_of past) ≡ Some (Opening n near ni)) (sym same.1) is))
          | inr w' ↦ omega (arith, next, o.opened at j w')
        ]
      where
        opened_ends : (j : Joined) → held j.peer (facts_of past) ≡ Some (Opening j.n j.near j.ni) → (n near : ℕ) (ni : List ℕ) → held j.peer (Opened j ∷ facts_of past) ≡ Some (Opening n near ni) → ⊥
        opened_ends j s n near ni is =
            let e : Some (KeptAsInitiator j) ≡ Some (Opening n near ni) = sym (ap (after (Opened j)) s) ∙ sym (held_same (Opened j) (facts_of past) j.peer refl) ∙ is in absurd cc

    since_same : (g : Fact) (s : Stands own (count (facts_of past)) (facts_of past) g) (thing : Held) → after g (held (peer_of g) (facts_of past)) ≡ Some thing →
        (at : ℕ) × IsHeldSince (stamped now (FactEntry g) ∷ past) (near_of thing) (peer_of g) at
    since_same (Started peer n near ni) s thing e =
        (now, begins (Started peer n near ni) thing (held_same (Started peer n near ni) (facts_of past) peer refl ∙ e) (ap (beginning peer) (sym (is_thing (Opening n near ni) thing e))) (new_started peer n near ni s))
    since_same (Born j) s thing e = (now, begins (Born j) thing (held_same (Born j) (facts_of past) j.peer refl ∙ e) (ap (beginning j.peer) (sym (is_thing (HalfOpen j) thing e))) (new_born j s))
    since_same (Opened j) s thing e =
        (now, begins (Opened j) thing (held_same (Opened j) (facts_of past) j.peer refl ∙ e) (ap (beginning j.peer) (sym (is_thing (KeptAsInitiator j) thing (sym (ap (after (Opened j)) s) ∙ e)))) (new_opened j s))
    since_same (Confirmed peer near) s thing e =
        let old = o.since peer (HalfOpen s.j) s.session in
        let is : KeptAsResponder s.j ≡ thing = is_thing (KeptAsResponder s.j) thing (sym (ap (after (Confirmed peer near)) s.session) ∙ e) in (
          old.0,
          subst (λ (id : ℕ). IsHeldSince (stamped now (FactEntry (Confirmed peer near)) ∷ past) id peer old.0) (ap near_of is)
              (since_confirmed peer near s.j s s.session s.j.near old.0 old.1 (is_thing old.1.thing (HalfOpen s.j) (sym old.1.is_held ∙ s.session))),
        )
    since_same (Ended peer near why) s thing e = absurd cc

    pub orderly_fact : (g : Fact) → Stands own (count (facts_of past)) (facts_of past) g → IsOrderly (stamped now (FactEntry g) ∷ past)
    orderly_fact g s = record {
      started = λ at peer n near ni w. elim (stated_now now at g (Started peer n near ni) past w) [
        | inl e ↦ started_fits g s peer n near ni e.1
        | inr w' ↦ omega (arith, o.started at peer n near ni w', count_more g (facts_of past))
      ];
      born = λ at j w. elim (stated_now now at g (Born j) past w) [
        | inl e ↦ born_fits g j e.1
        | inr w' ↦ omega (arith, o.born at j w', seen_more g (facts_of past) j.peer)
      ];
      opened = λ at j w. elim (stated_now now at g (Opened j) past w) [
        | inl e ↦ opened_fits g s j e.1
        | inr w' ↦ omega (arith, o.opened at j w', count_more g (facts_of past))
      ];
      over = λ at j w n near ni is. elim (same_end (peer_of g) j.peer) [
        | inl d ↦ over_same g s at j w d.0 n near ni is
        | inr d ↦ elim (stated_now now at g (Opened j) past w) [
          | inl e ↦ absurd (d.0 (ap peer_of (sym e.1)))
          | inr w' ↦ o.over at j w' n near ni (sym (held_other g (facts_of past) j.peer d.0) ∙ is)
        ]
      ];
      since = λ peer thing is. elim (same_end (peer_of g) peer) [
        | inl d ↦
            let here = since_same g s thing (ap (λ (p : List ℕ). after g (held p (facts_of past))) d.0 ∙ sym (held_same g (facts_of past) peer d.0) ∙ is) in
            (here.0, subst (λ (p : List ℕ). IsHeldSince (stamped now (FactEntry g) ∷ past) (near_of thing) p here.0) d.0 here.1)
        | inr d ↦
            let old = o.since peer thing (sym (held_other g (facts_of past) peer d.0) ∙ is) in
            (old.0, since_other g s (near_of thing) peer old.0 d.0 old.1)
      ];
    }
