-- What the agreement laws say of a list of steps they say of the facts in it alone.
use Rattle.std.proofs.Common.{ℕ, List, [], ◌∷◌, ◌≡◌, inl, inr, refl, sym, ap, subst, ◌∙◌, Some, ◌⊎◌}
use Rattle.glare_core.specs.declared.facts.Fact.{Fact}
use Rattle.glare_core.specs.declared.facts.Fact.TheVariants.{Born, Opened}
use Rattle.glare_core.specs.declared.facts.Held.TheVariants.{HalfOpen}
use Rattle.glare_core.specs.declared.facts.Joined.{Joined}
use Rattle.glare_core.specs.Standing.{held}
use Rattle.glare_core.specs.Steps.{Item, Told, Did, Sends, Step, step, view, facts, holding, IsTail, Happened}
use Rattle.glare_core.specs.Agreed.{Keeps, KeepTheSame, EachOpenedHasOneBirth, NoStartedHasTwoBirths, Attempt, IsNotBorn, AreCrossed, Opens, IsOver, CrossedIsOver, OneOpens, PrevailingIsSpared, PeerEnded, OverrideIsLate}
use Rattle.glare_core.proofs.Tails.{tail_self, same_end}

-- a step that is a fact, on top of those before
abbrev pub alone_on : List ℕ → Item → List Step → List Step
alone_on who (Told t) before = before
alone_on who (Did fact g) before = step who (Did fact g) ∷ before
alone_on who (Sends t) before = before

-- the steps that are facts
abbrev pub alone : List Step → List Step
alone [] = []
alone (s ∷ earlier) = alone_on s.who s.item (alone earlier)

-- ---- what an end states, and so what it holds, is the same

facts_alone_on : (own who : List ℕ) (item : Item) (now : List Step) → facts (view own (alone now)) ≡ facts (view own now) →
    facts (view own (alone_on who item (alone now))) ≡ facts (view own (step who item ∷ now))
facts_alone_on own who (Told t) now e = elim (same_end who own) [ inl d ↦ rw d.1 e | inr d ↦ rw d.1 e ]
facts_alone_on own who (Did fact g) now e = elim (same_end who own) [ inl d ↦ rw d.1 (ap (λ (fs : List Fact). fact ∷ fs) e) | inr d ↦ rw d.1 e ]
facts_alone_on own who (Sends t) now e = elim (same_end who own) [ inl d ↦ rw d.1 e | inr d ↦ rw d.1 e ]

pub facts_alone : (own : List ℕ) (now : List Step) → facts (view own (alone now)) ≡ facts (view own now)
facts_alone own [] = refl
facts_alone own (s ∷ earlier) = facts_alone_on own s.who s.item earlier (facts_alone own earlier)

pub holding_alone : (own peer : List ℕ) (now : List Step) → holding own peer (alone now) ≡ holding own peer now
holding_alone own peer now = ap (held peer) (facts_alone own now)

-- ---- moments

-- a moment of the facts alone, as one of all steps
pub record Whole (early now : List Step) : Type 0 where
  pub then : List Step
  pub is : early ≡ alone then
  pub tail : IsTail then now

whole_later : (early : List Step) (s : Step) (earlier : List Step) → Whole early earlier → Whole early (s ∷ earlier)
whole_later early s earlier w = record { then = w.then; is = w.is; tail = inr w.tail }

whole_on : (early : List Step) (who : List ℕ) (item : Item) (earlier : List Step) → (IsTail early (alone earlier) → Whole early earlier) → IsTail early (alone_on who item (alone earlier)) → Whole early (step who item ∷ earlier)
whole_on early who (Told t) earlier ih h = whole_later early (step who (Told t)) earlier (ih h)
whole_on early who (Did fact g) earlier ih (inl e) = record { then = step who (Did fact g) ∷ earlier; is = e; tail = inl refl }
whole_on early who (Did fact g) earlier ih (inr h) = whole_later early (step who (Did fact g)) earlier (ih h)
whole_on early who (Sends t) earlier ih h = whole_later early (step who (Sends t)) earlier (ih h)

pub whole : (early now : List Step) → IsTail early (alone now) → Whole early now
whole early [] e = record { then = []; is = e; tail = refl }
whole early (s ∷ earlier) t = whole_on early s.who s.item earlier (whole early earlier) t

tail_on : (early : List Step) (who : List ℕ) (item : Item) (before : List Step) → IsTail early before → IsTail early (alone_on who item before)
tail_on early who (Told t) before h = h
tail_on early who (Did fact g) before h = inr h
tail_on early who (Sends t) before h = h

pub tail_alone : (then now : List Step) → IsTail then now → IsTail (alone then) (alone now)
tail_alone then [] e = ap alone e
tail_alone then (s ∷ earlier) (inl e) = subst (λ (x : List Step). IsTail (alone then) x) (ap alone e) (tail_self (alone then))
tail_alone then (s ∷ earlier) (inr h) = tail_on (alone then) s.who s.item (alone earlier) (tail_alone then earlier h)

-- a fact of the facts alone, as one of all steps
pub record HappenedWhole (who : List ℕ) (fact : Fact) (g : ℕ) (before now : List Step) : Type 0 where
  pub early : List Step
  pub is : before ≡ alone early
  pub at : Happened who (Did fact g) early now

rest_same : (s t : Step) (a b : List Step) → s ∷ a ≡ t ∷ b → (s ≡ t) × (a ≡ b)
rest_same s t a b e = (let h : s ≡ t = cc in h, let h : a ≡ b = cc in h)

happened_later : (who : List ℕ) (fact : Fact) (g : ℕ) (before : List Step) (s : Step) (earlier : List Step) → HappenedWhole who fact g before earlier → HappenedWhole who fact g before (s ∷ earlier)
happened_later who fact g before s earlier w = record { early = w.early; is = w.is; at = inr w.at }

happened_on : (who : List ℕ) (fact : Fact) (g : ℕ) (before : List Step) (own : List ℕ) (item : Item) (earlier : List Step) → (Happened who (Did fact g) before (alone earlier) → HappenedWhole who fact g before earlier) →
    IsTail (step who (Did fact g) ∷ before) (alone_on own item (alone earlier)) → HappenedWhole who fact g before (step own item ∷ earlier)
happened_on who fact g before own (Told t) earlier ih h = happened_later who fact g before (step own (Told t)) earlier (ih h)
happened_on who fact g before own (Did fact' g') earlier ih (inl e) =
    let same = rest_same (step who (Did fact g)) (step own (Did fact' g')) before (alone earlier) e in
    record { early = earlier; is = same.1; at = inl (ap (λ (x : Step). x ∷ earlier) same.0) }
happened_on who fact g before own (Did fact' g') earlier ih (inr h) = happened_later who fact g before (step own (Did fact' g')) earlier (ih h)
happened_on who fact g before own (Sends t) earlier ih h = happened_later who fact g before (step own (Sends t)) earlier (ih h)

pub happened_whole : (who : List ℕ) (fact : Fact) (g : ℕ) (before now : List Step) → Happened who (Did fact g) before (alone now) → HappenedWhole who fact g before now
happened_whole who fact g before [] e = absurd (cc)
happened_whole who fact g before (s ∷ earlier) t = happened_on who fact g before s.who s.item earlier (happened_whole who fact g before earlier) t

pub happened_alone : (who : List ℕ) (fact : Fact) (g : ℕ) (early now : List Step) → Happened who (Did fact g) early now → Happened who (Did fact g) (alone early) (alone now)
happened_alone who fact g early now h = tail_alone (step who (Did fact g) ∷ early) now h

-- ---- the laws

keeps_whole : (x y : List ℕ) (s : Joined) (now : List Step) → Keeps x y s (alone now) → Keeps x y s now
keeps_whole x y s now (inl e) = inl (sym (holding_alone x y now) ∙ e)
keeps_whole x y s now (inr e) = inr (sym (holding_alone x y now) ∙ e)

keeps_alone : (x y : List ℕ) (s : Joined) (now : List Step) → Keeps x y s now → Keeps x y s (alone now)
keeps_alone x y s now (inl e) = inl (holding_alone x y now ∙ e)
keeps_alone x y s now (inr e) = inr (holding_alone x y now ∙ e)

pub same_alone : (now : List Step) → KeepTheSame now → KeepTheSame (alone now)
same_alone now law x y s t a b = law x y s t (keeps_whole x y s now a) (keeps_whole y x t now b)

pub opened_alone : (now : List Step) → EachOpenedHasOneBirth now → EachOpenedHasOneBirth (alone now)
opened_alone now law x s g before h =
    let w = happened_whole x (Opened s) g before now h in
    let b = law x s g w.early w.at in
    record {
      t = b.t;
      early = alone b.early;
      born = subst (λ (r : List Step). Happened s.peer (Did (Born b.t) g) (alone b.early) r) (sym w.is) (happened_alone s.peer (Born b.t) g b.early w.early b.born);
      n = b.n;
      k = b.k;
      values = b.values;
      only = λ t' g' early' at n ni.
          let v = happened_whole s.peer (Born t') g' early' now at in
          let one = b.only t' g' v.early v.at n ni in
          (one.0, v.is ∙ ap alone one.1);
    }

pub started_alone : (now : List Step) → NoStartedHasTwoBirths now → NoStartedHasTwoBirths (alone now)
started_alone now law x peer n near ni g before h y y' t t' k k' early early' born p q r born' p' q' r' =
    let w = happened_whole x _ g before now h in
    let v = happened_whole y (Born t) k early now born in
    let v' = happened_whole y' (Born t') k' early' now born' in
    let one = law x peer n near ni g w.early w.at y y' t t' k k' v.early v'.early v.at p q r v'.at p' q' r' in
    (one.0, one.1, v.is ∙ ap alone one.2 ∙ sym v'.is)

not_born_whole : (x y : List ℕ) (a : Attempt) (now : List Step) → IsNotBorn x y a (alone now) → IsNotBorn x y a now
not_born_whole x y a now none t g early born = none t g (alone early) (happened_alone y (Born t) g early now born)

crossed_whole : (x y : List ℕ) (a b : Attempt) (now : List Step) → AreCrossed x y a b (alone now) → AreCrossed x y a b now
crossed_whole x y a b now c = record {
  attempts_x = sym (holding_alone x y now) ∙ c.attempts_x;
  attempts_y = sym (holding_alone y x now) ∙ c.attempts_y;
  not_born_y = not_born_whole x y a now c.not_born_y;
  not_born_x = not_born_whole y x b now c.not_born_x;
}

record OpensWhole (x y : List ℕ) (a : Attempt) (before now : List Step) : Type 0 where
  early : List Step
  is : before ≡ alone early
  opens : Opens x y a early now

opens_whole : (x y : List ℕ) (a : Attempt) (before now : List Step) → Opens x y a before (alone now) → OpensWhole x y a before now
opens_whole x y a before now o =
    let w = happened_whole x (Opened o.0) o.1 before now o.2 in
    record { early = w.early; is = w.is; opens = (o.0, o.1, w.at, o.3, o.4) }

over_alone : (y x : List ℕ) (b : Attempt) (now : List Step) → IsOver y x b now → IsOver y x b (alone now)
over_alone y x b now o = (o.0, o.1, o.2, alone o.3, happened_alone y _ o.2 o.3 now o.4, holding_alone y x o.3 ∙ o.5)

pub over_law_alone : (now : List Step) → CrossedIsOver now → CrossedIsOver (alone now)
over_law_alone now law x y a b then before tail crossed opens =
    let w = whole then now tail in
    let o = opens_whole x y a before now opens in
    subst (λ (r : List Step). IsOver y x b r) (sym o.is)
    (over_alone y x b o.early (law x y a b w.then o.early w.tail (crossed_whole x y a b w.then (subst (λ (r : List Step). AreCrossed x y a b r) w.is crossed)) o.opens))

pub one_alone : (now : List Step) → OneOpens now → OneOpens (alone now)
one_alone now law x y a b then before before' tail crossed opens opens' =
    let w = whole then now tail in
    let o = opens_whole x y a before now opens in
    let o' = opens_whole y x b before' now opens' in
    law x y a b w.then o.early o'.early w.tail (crossed_whole x y a b w.then (subst (λ (r : List Step). AreCrossed x y a b r) w.is crossed)) o.opens o'.opens

pub spared_alone : (now : List Step) → PrevailingIsSpared now → PrevailingIsSpared (alone now)
spared_alone now law x y near g before h = let w = happened_whole x _ g before now h in law x y near g w.early w.at

peer_ended_alone : (now : List Step) (x y : List ℕ) (s : Joined) → PeerEnded now x y s → PeerEnded (alone now) x y s
peer_ended_alone now x y s p = record {
  near = p.near;
  why = p.why;
  g = p.g;
  t = p.t;
  early = alone p.early;
  ended = happened_alone y _ p.g p.early now p.ended;
  session = session p.session;
  one = p.one;
}
  where
    session : (holding y x p.early ≡ Some (HalfOpen p.t)) ⊎ Keeps y x p.t p.early → (holding y x (alone p.early) ≡ Some (HalfOpen p.t)) ⊎ Keeps y x p.t (alone p.early)
    session (inl e) = inl (holding_alone y x p.early ∙ e)
    session (inr k) = inr (keeps_alone y x p.t p.early k)

pub late_alone : (now : List Step) → OverrideIsLate now → OverrideIsLate (alone now)
late_alone now law x y near g s before h kept =
    let w = happened_whole x _ g before now h in
    subst (λ (r : List Step). PeerEnded r x y s) (sym w.is)
    (peer_ended_alone w.early x y s (law x y near g s w.early w.at (keeps_whole x y s w.early (subst (λ (r : List Step). Keeps x y s r) w.is kept))))
