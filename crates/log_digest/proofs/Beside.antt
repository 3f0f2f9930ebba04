-- What stands under other session IDs than that of an entry stays.
use Rattle.std.proofs.Common.{ℕ, List, ◌∷◌, ◌≡◌, ◌==◌, inl, inr, refl, sym, ap, Bool, true, false, ◌||◌, Option, Some, None, if◌then◌else◌, ◌∙◌}
use Rattle.glare_core.specs.declared.facts.Fact.{Fact}
use Rattle.glare_core.specs.declared.facts.Fact.TheVariants.{Started, Born, Opened, Confirmed, Ended}
use Rattle.glare_core.specs.declared.facts.Held.{Held}
use Rattle.glare_core.specs.declared.facts.Held.TheVariants.{Opening, HalfOpen, KeptAsResponder, KeptAsInitiator}
use Rattle.glare_core.specs.declared.facts.Why.{Why}
use Rattle.glare_core.specs.Standing.{peer_of, after, held, count}
use Rattle.glare_core.specs.Stands.{Stands}
use Rattle.glare_core.specs.Things.{near_of}
use Rattle.glare_core.proofs.Tails.{same_end}
use Rattle.endpoint_model.specs.declared.entry.Entry.TheVariants.{Fact as FactEntry, Closed, Sought, Unsought}
use Rattle.endpoint_model.proofs.Members.{has, without, tested, has_others}
use Rattle.endpoint_laws.specs.Past.{Stamped, stamped, fact_done, closed_done, sought_done, unsought_done, started_id, facts_of, Past, GoesOn, Closes, is_close, ids_after, ids_in_use}
use Rattle.log_digest.specs.declared.spot.Spot.{Spot}
use Rattle.log_digest.specs.Spots.{IsSpotOf, IsOrderly}
use Rattle.log_digest.proofs.Stated.{id_of, is_thing, held_same}
use Rattle.log_digest.proofs.Orderly.{since_plain, since_plain_back, since_other, since_other_back}

-- ---- facts

goes_elsewhere : (g : Fact) (q : ℕ) → (q ≡ id_of g → ⊥) → GoesOn q (started_id (Some g))
goes_elsewhere (Started peer n near ni) q other = λ e. other (sym e)
goes_elsewhere (Born j) q other = tt
goes_elsewhere (Opened j) q other = tt
goes_elsewhere (Confirmed peer near) q other = tt
goes_elsewhere (Ended peer near why) q other = tt

closes_elsewhere : (g : Fact) (q : ℕ) (thing : Held) (facts : List Fact) → (q ≡ id_of g → ⊥) → Closes q thing facts (Some g) → ⊥
closes_elsewhere (Started peer n near ni) q thing facts other c = c
closes_elsewhere (Born j) q thing facts other c = c
closes_elsewhere (Opened j) q thing facts other c = c
closes_elsewhere (Confirmed peer near) q thing facts other c = c
closes_elsewhere (Ended peer near why) q thing facts other c = other (sym c.0)

pub or_second : (a b : Bool) → a ≡ false → (a || b) ≡ b
or_second true b e = absurd cc
or_second false b e = refl

pub one_beside : (near q : ℕ) (ids : List ℕ) → (q ≡ near → ⊥) → has q (near ∷ ids) ≡ has q ids
one_beside near q ids other = or_second (near == q) (has q ids) (elim (tested near q) [ inl is ↦ absurd (other (sym is.0)) | inr is ↦ is.1 ])

ended_beside : (close : Bool) (near q : ℕ) (ids : List ℕ) → (q ≡ near → ⊥) → has q (if close then ids else without near ids) ≡ has q ids
ended_beside true near q ids other = refl
ended_beside false near q ids other = has_others q near ids other

ids_beside : (g : Fact) (q : ℕ) (ids : List ℕ) → (q ≡ id_of g → ⊥) → has q (ids_after (Some g) ids) ≡ has q ids
ids_beside (Started peer n near ni) q ids other = one_beside near q (without near ids) other ∙ has_others q near ids other
ids_beside (Born j) q ids other = one_beside j.near q ids other
ids_beside (Opened j) q ids other = refl
ids_beside (Confirmed peer near) q ids other = refl
ids_beside (Ended peer near why) q ids other = ended_beside (is_close why) near q ids other

module _ (own : List ℕ) (past : Past) (o : IsOrderly past) (now : ℕ) (g : Fact) (s : Stands own (count (facts_of past)) (facts_of past) g) where
  -- what is held with the peer of the fact stands under its session ID, before and after
  pub stands_before : (thing : Held) → held (peer_of g) (facts_of past) ≡ Some thing → near_of thing ≡ id_of g
  stands_before thing e = under g s thing e
    where
      under : (f : Fact) → Stands own (count (facts_of past)) (facts_of past) f → (t : Held) → held (peer_of f) (facts_of past) ≡ Some t → near_of t ≡ id_of f
      under (Started peer n near ni) st t is = absurd (let clash = sym st.free ∙ is in cc)
      under (Born j) st t is = absurd (let clash = sym st.free ∙ is in cc)
      under (Opened j) st t is = ap near_of (sym (is_thing (Opening j.n j.near j.ni) t (sym st ∙ is)))
      under (Confirmed peer near) st t is = ap near_of (sym (is_thing (HalfOpen st.j) t (sym st.session ∙ is))) ∙ sym st.id
      under (Ended peer near why) st t is = ap near_of (sym (is_thing st.h t (sym st.thing ∙ is))) ∙ sym st.id

  pub stands_after : (thing : Held) → after g (held (peer_of g) (facts_of past)) ≡ Some thing → near_of thing ≡ id_of g
  stands_after thing e = under g s thing e
    where
      under : (f : Fact) → Stands own (count (facts_of past)) (facts_of past) f → (t : Held) → after f (held (peer_of f) (facts_of past)) ≡ Some t → near_of t ≡ id_of f
      under (Started peer n near ni) st t is = ap near_of (sym (is_thing (Opening n near ni) t is))
      under (Born j) st t is = ap near_of (sym (is_thing (HalfOpen j) t is))
      under (Opened j) st t is = ap near_of (sym (is_thing (KeptAsInitiator j) t (sym (ap (after (Opened j)) st) ∙ is)))
      under (Confirmed peer near) st t is = ap near_of (sym (is_thing (KeptAsResponder st.j) t (sym (ap (after (Confirmed peer near)) st.session) ∙ is))) ∙ sym st.id
      under (Ended peer near why) st t is = absurd cc

  pub beside_fact : (q : ℕ) (spot : Option Spot) → (q ≡ id_of g → ⊥) → IsSpotOf past q spot → IsSpotOf (stamped now (FactEntry g) ∷ past) q spot
  beside_fact q spot other is = record {
    search_there = λ which at there. elim there [ inl b ↦ absurd b.0 | inr p ↦ is.search_there which at p.2 ];
    search_is = λ which at e. inr (tt, goes_elsewhere g q other, is.search_is which at e);
    closing_there = λ thing at c. elim c [ inl b ↦ absurd (closes_elsewhere g q thing (facts_of past) other b.0) | inr p ↦ is.closing_there thing at p.1 ];
    closing_is = λ thing at e. inr (tt, is.closing_is thing at e);
    held_there = λ p at h. elim (same_end (peer_of g) p) [
      | inl d ↦ absurd (other (sym h.id ∙ stands_after h.thing (ap (λ (r : List ℕ). after g (held r (facts_of past))) d.0 ∙ sym (held_same g (facts_of past) p d.0) ∙ h.is_held)))
      | inr d ↦ is.held_there p at (since_other_back past o own now g s q p at d.0 h)
    ];
    held_is = λ p at e. let h = is.held_is p at e in elim (same_end (peer_of g) p) [
      | inl d ↦ absurd (other (sym h.id ∙ stands_before h.thing (ap (λ (r : List ℕ). held r (facts_of past)) d.0 ∙ h.is_held)))
      | inr d ↦ since_other past o own now g s q p at d.0 h
    ];
    used = ids_beside g q (ids_in_use past) other ∙ is.used;
  }

-- ---- other entries

module _ (past : Past) (o : IsOrderly past) (now : ℕ) where
  pub beside_closed : (near q : ℕ) (spot : Option Spot) → (q ≡ near → ⊥) → IsSpotOf past q spot → IsSpotOf (stamped now (Closed near) ∷ past) q spot
  beside_closed near q spot other is = record {
    search_there = λ which at there. elim there [ inl b ↦ absurd b.0 | inr p ↦ is.search_there which at p.2 ];
    search_is = λ which at e. inr (tt, tt, is.search_is which at e);
    closing_there = λ thing at c. elim c [ inl b ↦ absurd b.0 | inr p ↦ is.closing_there thing at p.1 ];
    closing_is = λ thing at e. inr ((λ e. other (sym e)), is.closing_is thing at e);
    held_there = λ p at h. is.held_there p at (since_plain_back past o (stamped now (Closed near)) refl q p at h);
    held_is = λ p at e. since_plain past o (stamped now (Closed near)) refl q p at (is.held_is p at e);
    used = has_others q near (ids_in_use past) other ∙ is.used;
  }

  pub beside_sought : (near q : ℕ) (name : List ℕ) (spot : Option Spot) → (q ≡ near → ⊥) → IsSpotOf past q spot → IsSpotOf (stamped now (Sought near name) ∷ past) q spot
  beside_sought near q name spot other is = record {
    search_there = λ which at there. elim there [ inl b ↦ absurd (other (sym b.0.0)) | inr p ↦ is.search_there which at p.2 ];
    search_is = λ which at e. inr (tt, tt, is.search_is which at e);
    closing_there = λ thing at c. elim c [ inl b ↦ absurd b.0 | inr p ↦ is.closing_there thing at p.1 ];
    closing_is = λ thing at e. inr (tt, is.closing_is thing at e);
    held_there = λ p at h. is.held_there p at (since_plain_back past o (stamped now (Sought near name)) refl q p at h);
    held_is = λ p at e. since_plain past o (stamped now (Sought near name)) refl q p at (is.held_is p at e);
    used = one_beside near q (ids_in_use past) other ∙ is.used;
  }

  pub beside_unsought : (near q : ℕ) (why : Why) (spot : Option Spot) → (q ≡ near → ⊥) → IsSpotOf past q spot → IsSpotOf (stamped now (Unsought near why) ∷ past) q spot
  beside_unsought near q why spot other is = record {
    search_there = λ which at there. elim there [ inl b ↦ absurd b.0 | inr p ↦ is.search_there which at p.2 ];
    search_is = λ which at e. inr ((λ e. other (sym e)), tt, is.search_is which at e);
    closing_there = λ thing at c. elim c [ inl b ↦ absurd b.0 | inr p ↦ is.closing_there thing at p.1 ];
    closing_is = λ thing at e. inr (tt, is.closing_is thing at e);
    held_there = λ p at h. is.held_there p at (since_plain_back past o (stamped now (Unsought near why)) refl q p at h);
    held_is = λ p at e. since_plain past o (stamped now (Unsought near why)) refl q p at (is.held_is p at e);
    used = has_others q near (ids_in_use past) other ∙ is.used;
  }

  -- nothing changes where nothing of this kind is done
  pub beside_plain : (s : Stamped) → fact_done s.what ≡ None → closed_done s.what ≡ None → sought_done s.what ≡ None → unsought_done s.what ≡ None →
      (q : ℕ) (spot : Option Spot) → IsSpotOf past q spot → IsSpotOf (s ∷ past) q spot
  beside_plain s fact closed sought unsought q spot is = record {
    search_there = λ which at there. elim there [ inl b ↦ absurd (let never = rw sought at b.0 in never) | inr p ↦ is.search_there which at p.2 ];
    search_is = λ which at e. inr (rw unsought tt, rw fact tt, is.search_is which at e);
    closing_there = λ thing at c. elim c [ inl b ↦ absurd (let never = rw fact at b.0 in never) | inr p ↦ is.closing_there thing at p.1 ];
    closing_is = λ thing at e. inr (rw closed tt, is.closing_is thing at e);
    held_there = λ p at h. is.held_there p at (since_plain_back past o s fact q p at h);
    held_is = λ p at e. since_plain past o s fact q p at (is.held_is p at e);
    used = rw (sought, unsought, closed, fact) is.used;
  }
