-- What is held or closing under a session ID, and the generation in which it began, after one more thing was done.
use Rattle.std.proofs.Common.{ℕ, List, [], ◌∷◌, ◌≡◌, ◌⊎◌, inl, inr, refl, sym, ap, subst, true, Option, Some, None, is_some, ◌∙◌}
use Rattle.std.specs.FinMap.{get}
use Rattle.glare_core.specs.declared.facts.Fact.{Fact}
use Rattle.glare_core.specs.declared.facts.Fact.TheVariants.{Started, Born, Opened, Confirmed, Ended}
use Rattle.glare_core.specs.declared.facts.Held.{Held}
use Rattle.glare_core.specs.declared.facts.Held.TheVariants.{HalfOpen, KeptAsResponder}
use Rattle.glare_core.specs.declared.facts.Joined.{Joined}
use Rattle.glare_core.specs.Standing.{peer_of, after, held, count}
use Rattle.glare_core.specs.Stands.{Stands}
use Rattle.glare_core.specs.Things.{near_of}
use Rattle.glare_core.proofs.Tails.{same_end}
use Rattle.endpoint_model.specs.Event.{Setup}
use Rattle.endpoint_model.specs.declared.entry.Entry.{Entry}
use Rattle.endpoint_model.specs.declared.entry.Entry.TheVariants.{Fact as FactEntry, Closed, Sought, Unsought, Moved, Learnt, Advanced, FlowOpened, Queued, Finished, Abandoned, Handed, Discard, Out}
use Rattle.endpoint_model.specs.Views.{fact_in}
use Rattle.endpoint_laws.specs.Past.{Past, Happening, OfEvent, OfEntry, Stamped, stamped, fact_and, fact_done, facts_of, Closes, IsClosing, WasStated, is_in_use}
use Rattle.endpoint_laws.specs.Contexts.{Secrets, BeganWith, Begins, BegunUnder, EventOpenedIn, HeldUnder, StandsUnder}
use Rattle.endpoint_laws.proofs.Unique.{event_one}
use Rattle.log_digest.specs.declared.spot.Spot.TheVariants.{Holding, Closing}
use Rattle.log_digest.specs.Spots.{IsHeldSince}
use Rattle.log_digest.specs.Kept.{Digested}
use Rattle.log_digest.specs.Digest.{IsDigestOf}
use Rattle.log_digest.proofs.Stated.{is_thing, held_same, held_other}

-- ---- one thing

holding_one : (p q : List ℕ) (a b : ℕ) → Some (Holding p a) ≡ Some (Holding q b) → p ≡ q
holding_one p q a b e = cc

closing_one : (x y : Held) (a b : ℕ) → Some (Closing x a) ≡ Some (Closing y b) → x ≡ y
closing_one x y a b e = cc

never_both : (p : List ℕ) (x : Held) (a b : ℕ) → Some (Holding p a) ≡ Some (Closing x b) → ⊥
never_both p x a b e = absurd cc

module _ (last : ℕ) (past : Past) (d : Digested) (is : IsDigestOf last past d) where
  -- what is held is there since some moment
  since : (near : ℕ) (thing : Held) (h : HeldUnder (facts_of past) near thing) → (at : ℕ) × IsHeldSince past near h.peer at
  since near thing h =
      let old = is.orderly.since h.peer thing h.is_held in
      (old.0, subst (λ (id : ℕ). IsHeldSince past id h.peer old.0) h.id old.1)

  pub held_spot : (near : ℕ) (thing : Held) (h : HeldUnder (facts_of past) near thing) → (at : ℕ) × (get d.spots near ≡ Some (Holding h.peer at))
  held_spot near thing h = let s = since near thing h in (s.0, (is.spots_are.spot near).held_there h.peer s.0 s.1)

  pub closing_spot : (near : ℕ) (thing : Held) (c : (at : ℕ) × IsClosing near thing at past) → get d.spots near ≡ Some (Closing thing c.0)
  closing_spot near thing c = (is.spots_are.spot near).closing_there thing c.0 c.1

  pub one_stands : (near : ℕ) (a b : Held) → StandsUnder past near a → StandsUnder past near b → a ≡ b
  one_stands near a b (inl h) (inl k) =
      let hs = held_spot near a h in
      let ks = held_spot near b k in
      let peers : h.peer ≡ k.peer = holding_one h.peer k.peer hs.0 ks.0 (sym hs.1 ∙ ks.1) in
      is_thing a b (sym h.is_held ∙ ap (λ (p : List ℕ). held p (facts_of past)) peers ∙ k.is_held)
  one_stands near a b (inl h) (inr c) = let hs = held_spot near a h in absurd (never_both h.peer b hs.0 c.0 (sym hs.1 ∙ closing_spot near b c))
  one_stands near a b (inr c) (inl k) = let ks = held_spot near b k in absurd (never_both k.peer a ks.0 c.0 (sym ks.1 ∙ closing_spot near a c))
  one_stands near a b (inr c) (inr e) = closing_one a b c.0 e.0 (sym (closing_spot near a c) ∙ closing_spot near b e)

  -- its session ID is in use
  pub stands_in_use : (near : ℕ) (thing : Held) → StandsUnder past near thing → is_in_use near past ≡ true
  stands_in_use near thing (inl h) = (is.spots_are.spot near).used ∙ ap is_some (held_spot near thing h).1
  stands_in_use near thing (inr c) = (is.spots_are.spot near).used ∙ ap is_some (closing_spot near thing c)

-- ---- what stands after one more thing

pub stands_plain : (past : Past) (s : Stamped) → fact_done s.what ≡ None → (near : ℕ) (thing : Held) → StandsUnder (s ∷ past) near thing → StandsUnder past near thing
stands_plain past s none near thing (inl h) =
    inl (record { peer = h.peer; is_held = ap (λ (f : Option Fact). held h.peer (fact_and f (facts_of past))) (sym none) ∙ h.is_held; id = h.id })
stands_plain past s none near thing (inr c) = elim c.1 [
  | inl b ↦ absurd (subst (λ (f : Option Fact). Closes near thing (facts_of past) f) none b.0)
  | inr p ↦ inr (c.0, p.1)
]

module _ (own : List ℕ) (past : Past) (now : ℕ) where
  -- what a fact closes was held
  closed : (g : Fact) → Stands own (count (facts_of past)) (facts_of past) g → (near : ℕ) (thing : Held) → Closes near thing (facts_of past) (Some g) → HeldUnder (facts_of past) near thing
  closed (Started peer n id ni) s near thing c = absurd c
  closed (Born j) s near thing c = absurd c
  closed (Opened j) s near thing c = absurd c
  closed (Confirmed peer id) s near thing c = absurd c
  closed (Ended peer id why) s near thing c = record {
    peer = peer;
    is_held = c.2;
    id = ap near_of (is_thing thing s.h (sym c.2 ∙ s.thing)) ∙ sym s.id ∙ c.0;
  }

  -- After a fact what stands stood before, or the fact leaves it with its peer.
  pub stands_fact : (g : Fact) → Stands own (count (facts_of past)) (facts_of past) g → (near : ℕ) (thing : Held) → StandsUnder (stamped now (FactEntry g) ∷ past) near thing →
      StandsUnder past near thing ⊎ ((after g (held (peer_of g) (facts_of past)) ≡ Some thing) × (near_of thing ≡ near))
  stands_fact g s near thing (inl h) = elim (same_end (peer_of g) h.peer) [
    | inl d ↦ inr (ap (λ (p : List ℕ). after g (held p (facts_of past))) d.0 ∙ sym (held_same g (facts_of past) h.peer d.0) ∙ h.is_held, h.id)
    | inr d ↦ inl (inl (record { peer = h.peer; is_held = sym (held_other g (facts_of past) h.peer d.0) ∙ h.is_held; id = h.id }))
  ]
  stands_fact g s near thing (inr c) = elim c.1 [ inl b ↦ inl (inl (closed g s near thing b.0)) | inr p ↦ inl (inr (c.0, p.1)) ]

-- ---- the generation in which a session began

pub begun_one : (secrets : Secrets) (setup : Setup) (thing : Held) (g h : ℕ) (past : Past) → BegunUnder secrets setup thing g past → BegunUnder secrets setup thing h past → g ≡ h
begun_one secrets setup thing g h [] a b = absurd a
begun_one secrets setup thing g h (s ∷ earlier) (inl a) (inl b) = event_one secrets setup earlier g h a.1 b.1
begun_one secrets setup thing g h (s ∷ earlier) (inl a) (inr b) = absurd (b.0 a.0)
begun_one secrets setup thing g h (s ∷ earlier) (inr a) (inl b) = absurd (a.0 b.0)
begun_one secrets setup thing g h (s ∷ earlier) (inr a) (inr b) = begun_one secrets setup thing g h earlier a.1 b.1

-- where no fact is stated
pub begun_plain : (secrets : Secrets) (setup : Setup) (thing : Held) (generation : ℕ) (past : Past) (s : Stamped) → fact_done s.what ≡ None → BegunUnder secrets setup thing generation past → BegunUnder secrets setup thing generation (s ∷ past)
begun_plain secrets setup thing generation past s none begun = inr (subst (λ (o : Option Fact). Begins thing o → ⊥) (sym none) (λ e. e), begun)

-- an open session of the peer's attempt began as a half-open one
pub begun_confirmed : (secrets : Secrets) (setup : Setup) (j : Joined) (generation : ℕ) (past : Past) → BegunUnder secrets setup (HalfOpen j) generation past → BegunUnder secrets setup (KeptAsResponder j) generation past
begun_confirmed secrets setup j generation [] begun = begun
begun_confirmed secrets setup j generation (s ∷ earlier) begun = by (λ before. begun_confirmed secrets setup j generation earlier before) (fact_done s.what) begun
  where
    by : (BegunUnder secrets setup (HalfOpen j) generation earlier → BegunUnder secrets setup (KeptAsResponder j) generation earlier) → (o : Option Fact) → (Begins (HalfOpen j) o × EventOpenedIn secrets setup earlier generation) ⊎ ((Begins (HalfOpen j) o → ⊥) × BegunUnder secrets setup (HalfOpen j) generation earlier) →
        (Begins (KeptAsResponder j) o × EventOpenedIn secrets setup earlier generation) ⊎ ((Begins (KeptAsResponder j) o → ⊥) × BegunUnder secrets setup (KeptAsResponder j) generation earlier)
    by later None (inl here) = absurd here.0
    by later None (inr before) = inr (before.0, later before.1)
    by later (Some fact) (inl here) = inl here
    by later (Some fact) (inr before) = inr (before.0, later before.1)

some_fact : (f g : Fact) → Some f ≡ Some g → f ≡ g
some_fact f g e = cc

-- a happening that states a fact is its entry
by_entry : (moment : ℕ) (entry : Entry) (f : Fact) → fact_in entry ≡ Some f → stamped moment (FactEntry f) ≡ stamped moment entry
by_entry moment (FactEntry g) f e = ap (λ (h : Fact). stamped moment (FactEntry h)) (sym (some_fact g f e))
by_entry moment (Closed near) f e = absurd cc
by_entry moment (Sought near name) f e = absurd cc
by_entry moment (Unsought near why) f e = absurd cc
by_entry moment (Moved near to) f e = absurd cc
by_entry moment (Learnt generation) f e = absurd cc
by_entry moment (Advanced generation) f e = absurd cc
by_entry moment (FlowOpened near flow) f e = absurd cc
by_entry moment (Queued near flow seq message) f e = absurd cc
by_entry moment (Finished near flow seq) f e = absurd cc
by_entry moment (Abandoned near flow seq) f e = absurd cc
by_entry moment (Handed near flow seq message) f e = absurd cc
by_entry moment (Discard place cause) f e = absurd cc
by_entry moment (Out to datagram context) f e = absurd cc

by_happening : (moment : ℕ) (what : Happening) (f : Fact) → fact_done what ≡ Some f → stamped moment (FactEntry f) ≡ record { moment = moment; what = what }
by_happening moment (OfEvent event) f e = absurd cc
by_happening moment (OfEntry entry) f e = by_entry moment entry f e

-- a session that began was stated to begin
pub began_with : (secrets : Secrets) (setup : Setup) (thing : Held) (generation : ℕ) (past : Past) → BegunUnder secrets setup thing generation past →
    (fact : Fact) × (moment : ℕ) × BeganWith thing fact × WasStated moment fact past
began_with secrets setup thing generation [] begun = absurd begun
began_with secrets setup thing generation (s ∷ earlier) (inl here) = go (fact_done s.what) refl here.0
  where
    go : (o : Option Fact) → fact_done s.what ≡ o → Begins thing o → (fact : Fact) × (moment : ℕ) × BeganWith thing fact × WasStated moment fact (s ∷ earlier)
    go None e b = absurd b
    go (Some fact) e b = (fact, s.moment, b, inl (by_happening s.moment s.what fact e))
began_with secrets setup thing generation (s ∷ earlier) (inr before) =
    let old = began_with secrets setup thing generation earlier before.1 in (old.0, old.1, old.2, inr old.3)
