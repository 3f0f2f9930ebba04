-- What was stated, after one more thing was done.
use Rattle.std.proofs.Common.{ℕ, List, [], ◌∷◌, ◌≡◌, ◌≤◌, ◌⊎◌, inl, inr, refl, sym, ap, subst, arith, Option, Some, None, ◌∙◌, max}
use Rattle.glare_core.specs.declared.facts.Fact.{Fact}
use Rattle.glare_core.specs.declared.facts.Fact.TheVariants.{Started, Born, Opened, Confirmed, Ended}
use Rattle.glare_core.specs.declared.facts.Held.{Held}
use Rattle.glare_core.specs.declared.facts.Held.TheVariants.{Opening, HalfOpen, KeptAsResponder, KeptAsInitiator}
use Rattle.glare_core.specs.Standing.{peer_of, after, held, seen_in, seen, count}
use Rattle.glare_core.proofs.Tails.{same_end}
use Rattle.endpoint_model.specs.declared.entry.Entry.TheVariants.{Fact as FactEntry}
use Rattle.endpoint_laws.specs.Past.{Stamped, stamped, fact_done, Past, WasStated}
use Rattle.log_digest.specs.Spots.{beginning}

-- the session ID that a fact speaks of
abbrev pub id_of : Fact → ℕ
id_of (Started peer n near ni) = near
id_of (Born j) = j.near
id_of (Opened j) = j.near
id_of (Confirmed peer near) = near
id_of (Ended peer near why) = near

some_is : {A : Type 0} (a b : A) → Some a ≡ Some b → a ≡ b
some_is a b e = cc

pub is_thing : (a b : Held) → Some a ≡ Some b → a ≡ b
is_thing a b e = some_is a b e

none_some : {A : Type 0} (a : A) → None ≡ Some a → ⊥
none_some a e = absurd cc

-- A fact was stated just now, or before.
pub stated_now : (now at : ℕ) (g f : Fact) (past : Past) → WasStated at f (stamped now (FactEntry g) ∷ past) → ((at ≡ now) × (f ≡ g)) ⊎ WasStated at f past
stated_now now at g f past (inl e) = inl (ap (λ (s : Stamped). s.moment) e, some_is f g (ap (λ (s : Stamped). fact_done s.what) e))
stated_now now at g f past (inr w) = inr w

-- Where no fact was stated just now, it was stated before.
pub stated_before : (s : Stamped) (at : ℕ) (f : Fact) (past : Past) → fact_done s.what ≡ None → WasStated at f (s ∷ past) → WasStated at f past
stated_before s at f past none (inl e) = absurd (none_some f (sym none ∙ sym (ap (λ (s : Stamped). fact_done s.what) e)))
stated_before s at f past none (inr w) = w

pub held_same : (g : Fact) (facts : List Fact) (p : List ℕ) → peer_of g ≡ p → held p (g ∷ facts) ≡ after g (held p facts)
held_same g facts p e = elim (same_end (peer_of g) p) [ inl d ↦ rw d.1 refl | inr d ↦ absurd (d.0 e) ]

pub held_other : (g : Fact) (facts : List Fact) (p : List ℕ) → (peer_of g ≡ p → ⊥) → held p (g ∷ facts) ≡ held p facts
held_other g facts p e = elim (same_end (peer_of g) p) [ inl d ↦ absurd (e d.0) | inr d ↦ rw d.1 refl ]

pub seen_same : (g : Fact) (facts : List Fact) (p : List ℕ) → peer_of g ≡ p → seen p (g ∷ facts) ≡ max (seen_in g) (seen p facts)
seen_same g facts p e = elim (same_end (peer_of g) p) [ inl d ↦ rw d.1 refl | inr d ↦ absurd (d.0 e) ]

pub seen_more : (g : Fact) (facts : List Fact) (p : List ℕ) → seen p facts ≤ seen p (g ∷ facts)
seen_more g facts p = elim (same_end (peer_of g) p) [ inl d ↦ rw d.1 (omega arith) | inr d ↦ rw d.1 (omega arith) ]

pub count_more : (g : Fact) (facts : List Fact) → count facts ≤ count (g ∷ facts)
count_more g facts = omega arith

-- What is held with a peer began with a fact of that peer.
peer_after : (g : Fact) (p : List ℕ) (before : Option Held) → peer_of g ≡ p → ((thing : Held) → before ≡ Some thing → peer_of (beginning p thing) ≡ p) → (thing : Held) → after g before ≡ Some thing →
    peer_of (beginning p thing) ≡ p
peer_after (Started peer n near ni) p before e old thing is = subst (λ (t : Held). peer_of (beginning p t) ≡ p) (some_is (Opening n near ni) thing is) refl
peer_after (Born j) p before e old thing is = subst (λ (t : Held). peer_of (beginning p t) ≡ p) (some_is (HalfOpen j) thing is) e
peer_after (Opened j) p None e old thing is = absurd cc
peer_after (Opened j) p (Some (Opening n near ni)) e old thing is = subst (λ (t : Held). peer_of (beginning p t) ≡ p) (some_is (KeptAsInitiator j) thing is) e
peer_after (Opened j) p (Some (HalfOpen t)) e old thing is = old thing is
peer_after (Opened j) p (Some (KeptAsResponder t)) e old thing is = old thing is
peer_after (Opened j) p (Some (KeptAsInitiator t)) e old thing is = old thing is
peer_after (Confirmed peer near) p None e old thing is = absurd cc
peer_after (Confirmed peer near) p (Some (Opening n near' ni)) e old thing is = old thing is
peer_after (Confirmed peer near) p (Some (HalfOpen t)) e old thing is = subst (λ (t : Held). peer_of (beginning p t) ≡ p) (some_is (KeptAsResponder t) thing is) (old (HalfOpen t) refl)
peer_after (Confirmed peer near) p (Some (KeptAsResponder t)) e old thing is = old thing is
peer_after (Confirmed peer near) p (Some (KeptAsInitiator t)) e old thing is = old thing is
peer_after (Ended peer near why) p before e old thing is = absurd cc

pub holds_peer : (p : List ℕ) (facts : List Fact) (thing : Held) → held p facts ≡ Some thing → peer_of (beginning p thing) ≡ p
holds_peer p [] thing is = absurd cc
holds_peer p (g ∷ earlier) thing is = elim (same_end (peer_of g) p) [
  | inl d ↦ peer_after g p (held p earlier) d.0 (λ t e. holds_peer p earlier t e) thing (sym (held_same g earlier p d.0) ∙ is)
  | inr d ↦ holds_peer p earlier thing (sym (held_other g earlier p d.0) ∙ is)
]
