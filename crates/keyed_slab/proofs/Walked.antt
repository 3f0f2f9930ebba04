-- What is found first, and what is changed, where the slots of a set are gone through.
use Rattle.std.proofs.Common.{ℕ, ◌≡◌, ◌<◌, ◌≤◌, ◌+◌, ◌⊎◌, inl, inr, List, length, nat_le, Bool, true, false, if◌then◌else◌, Option, Some, None, IfSome, IfNone, refl, sym, ap, subst, ◌∙◌, arith, ⊎_elim}
use Rattle.std.specs.Option.{option_map}
use Rattle.std.specs.List.{find}
use Rattle.std.specs.FinMap.{get, entries}
use Rattle.std.proofs.lemmas.Bool.{cases_eq, cases_lt, cases_Bool}
use Rattle.std.proofs.lemmas.Bool.Decides.{nat_tests}
use Rattle.std.proofs.lemmas.Option.{none-some, same_Some}
use Rattle.rtmfp_base.proofs.Lowest.{lowest_is_first, none_is_first}
use Rattle.deadlines.specs.Deadlines.{Deadline, Slots, entry_of, IsNextDue, NoneIsDue}
use Rattle.keyed_slab.specs.declared.keys.Key.{Key}
use Rattle.keyed_slab.specs.Keys.{KeyTable}
use Rattle.keyed_slab.specs.KeyedSlab.{thing_in, IsChangedAt}
use Rattle.keyed_slab.specs.SlotSet.{Flags, flag_of, slot_at, AreApart, AreListed}
use Rattle.keyed_slab.specs.Seating.{table_in, keyed_by, deadline_in, busy_in, IsNamed, IsKept}
use Rattle.keyed_slab.specs.Walks.{IsWithin, IsLookedAt, near_or, NonePasses, IsFirst, NoneOf, IsFirstOf, IsBestOf, lower_of, better_with, better_of, AreChanged}
use Rattle.keyed_slab.proofs.Named.{found_by, in_slot}

false_true : {A : Type 0} → false ≡ true → A
false_true e = absurd cc

at_most : (n m : ℕ) → nat_le n m ≡ true → n ≤ m
at_most n m t = grind (arith, nat_tests)

above : (n m : ℕ) → nat_le n m ≡ false → m < n
above n m t = grind (arith, nat_tests)

-- one more is among the first
pub one_more : (slots : List ℕ) (count slot k : ℕ) → slot_at slots count ≡ slot → IsWithin slots (count + 1) k → IsWithin slots count k ⊎ (k ≡ slot)
one_more slots count slot k is w = ⊎_elim
    (λ l. inl (w.0, l, w.2))
    (λ past. let same : w.0 ≡ count = omega (arith, past, w.1) in inr (sym w.2 ∙ ap (slot_at slots) same ∙ is))
    (cases_lt w.0 count)

none_within : (slots : List ℕ) (k : ℕ) → IsWithin slots 0 k → ⊥
none_within slots k w = omega (arith, w.1)

module _ {X : Type 0} (near_of : X → ℕ) (test : X → Bool) (things : List (Option X)) where
  near_is : (slot : ℕ) (thing : X) → thing_in things slot ≡ Some thing → near_or near_of test things (thing_in things slot) ≡ near_of thing
  near_is slot thing at = ap (near_or near_of test things) at

  -- ---- another slot is looked at

  module _ (Seen More : ℕ → Type 0) (slot : ℕ) (thing : X) (at : thing_in things slot ≡ Some thing) (grows : (k : ℕ) → More k → Seen k ⊎ (k ≡ slot)) where
    own : (w : X) → thing_in things slot ≡ Some w → thing ≡ w
    own w there = same_Some thing w (sym at ∙ there)

    -- what is known of those that were looked at before, and of this one
    lowest_with : (near : ℕ) → ((k : ℕ) (w : X) → thing_in things k ≡ Some w → Seen k → test w ≡ true → near ≤ near_of w) → near ≤ near_of thing →
        (k : ℕ) (w : X) → thing_in things k ≡ Some w → More k → test w ≡ true → near ≤ near_of w
    lowest_with near before here k w there more passes = ⊎_elim
        (λ seen. before k w there seen passes)
        (λ same. subst (λ n. near ≤ n) (ap near_of (own w (ap (thing_in things) (sym same) ∙ there))) here)
        (grows k more)

    skipped : (best : Option ℕ) → test thing ≡ false → IsBestOf near_of test things Seen best → IsBestOf near_of test things More best
    skipped None fails none = λ k w there more. ⊎_elim
        (λ seen. none k w there seen)
        (λ same. ap test (sym (own w (ap (thing_in things) (sym same) ∙ there))) ∙ fails)
        (grows k more)
    skipped (Some b) fails best = record {
      thing = best.thing;
      stands = best.stands;
      passes = best.passes;
      lowest = λ k w there more passes. ⊎_elim
          (λ seen. best.lowest k w there seen passes)
          (λ same. false_true (sym fails ∙ ap test (own w (ap (thing_in things) (sym same) ∙ there)) ∙ passes))
          (grows k more);
    }

    first_now : (passes : test thing ≡ true) → ((k : ℕ) (w : X) → thing_in things k ≡ Some w → Seen k → test w ≡ true → near_of thing ≤ near_of w) → IsFirstOf near_of test things More slot
    first_now passes before = record { thing = thing; stands = at; passes = passes; lowest = lowest_with (near_of thing) before (omega arith) }

    lowered : (best : Option ℕ) → test thing ≡ true → IsBestOf near_of test things Seen best → IsBestOf near_of test things More (lower_of near_of test things best slot (near_of thing))
    lowered None passes none = first_now passes (λ k w there seen yes. false_true (sym (none k w there seen) ∙ yes))
    lowered (Some b) passes best = by_test (nat_le (near_or near_of test things (thing_in things b)) (near_of thing)) refl
      where
        by_test : (l : Bool) → nat_le (near_or near_of test things (thing_in things b)) (near_of thing) ≡ l → IsBestOf near_of test things More (if l then Some b else Some slot)
        by_test true e = record {
          thing = best.thing;
          stands = best.stands;
          passes = best.passes;
          lowest = lowest_with (near_of best.thing) best.lowest (subst (λ n. n ≤ near_of thing) (near_is b best.thing best.stands) (at_most (near_or near_of test things (thing_in things b)) (near_of thing) e));
        }
        by_test false e = first_now passes (λ k w there seen yes.
            let low = best.lowest k w there seen yes in
            let high = above (near_or near_of test things (thing_in things b)) (near_of thing) e in
            let is = near_is b best.thing best.stands in
            omega (arith, low, high, is))

    with_thing_there : (best : Option ℕ) → IsBestOf near_of test things Seen best → (l : Bool) → test thing ≡ l → IsBestOf near_of test things More (if l then lower_of near_of test things best slot (near_of thing) else best)
    with_thing_there best known true e = lowered best e known
    with_thing_there best known false e = skipped best e known

    pub bettered : (best : Option ℕ) → IsBestOf near_of test things Seen best → IsBestOf near_of test things More (better_of near_of test things best slot)
    bettered best known =
        subst (λ o. IsBestOf near_of test things More (better_with near_of test things best slot o)) (sym at) (with_thing_there best known (test thing) refl)

-- ---- by deadlines first, and then by the set

module _ {X : Type 0} (near_of at_of : X → ℕ) (is_busy test : X → Bool) (things : List (Option X)) (generations : List ℕ) (keys : KeyTable) (deadlines : Slots) (flags : Flags) (moment : ℕ)
    (kept : IsKept near_of at_of is_busy things generations keys deadlines flags) where
  -- a deadline is that of what stands there
  own_deadline : (slot : ℕ) (d : Deadline) → entry_of deadlines slot ≡ Some d → (thing : X) × (thing_in things slot ≡ Some thing) × (d ≡ deadline_in near_of at_of thing)
  own_deadline slot d is = go (thing_in things slot) refl
    where
      go : (o : Option X) → thing_in things slot ≡ o → (thing : X) × (thing_in things slot ≡ Some thing) × (d ≡ deadline_in near_of at_of thing)
      go None e = absurd (none-some d (sym (kept.timed slot ∙ ap (option_map (deadline_in near_of at_of)) e) ∙ is))
      go (Some thing) e = (thing, e, same_Some d (deadline_in near_of at_of thing) (sym is ∙ kept.timed slot ∙ ap (option_map (deadline_in near_of at_of)) e))

  module _ (due_passes : (thing : X) → at_of thing ≤ moment → test thing ≡ true) where
    nothing_seen : (slots : List ℕ) (k : ℕ) → NoneIsDue deadlines moment → IsLookedAt deadlines moment slots 0 k → ⊥
    nothing_seen slots k none (inl due) = let late = none k due.0 due.1 in let now = due.2 in omega (arith, late, now)
    nothing_seen slots k none (inr w) = none_within slots k w

    own_first : (slots : List ℕ) (slot : ℕ) → IsNextDue deadlines moment slot → IsFirstOf near_of test things (IsLookedAt deadlines moment slots 0) slot
    own_first slots slot next =
        let mine = own_deadline slot next.entry next.stands in
        record {
          thing = mine.0;
          stands = mine.1;
          passes = due_passes mine.0 (subst (λ (d : Deadline). d.at ≤ moment) mine.2 next.is_due);
          lowest = λ k w there seen passes. low mine.0 mine.1 mine.2 k w there seen;
        }
      where
        low : (t : X) → thing_in things slot ≡ Some t → next.entry ≡ deadline_in near_of at_of t → (k : ℕ) (w : X) → thing_in things k ≡ Some w → IsLookedAt deadlines moment slots 0 k → near_of t ≤ near_of w
        low t at is k w there (inr within) = absurd (none_within slots k within)
        low t at is k w there (inl due) = ⊎_elim
            (λ same. let e = ap near_of (same_Some t w (sym at ∙ ap (thing_in things) (sym same) ∙ there)) in omega (arith, e))
            (λ n.
            let theirs = own_deadline k due.0 due.1 in
            let w_is = same_Some theirs.0 w (sym theirs.1 ∙ there) in
            let before = next.lowest k due.0 due.1 due.2 n in
            let mine_near = ap (λ (d : Deadline). d.near) is in
            let their_near = ap (λ (d : Deadline). d.near) theirs.2 ∙ ap near_of w_is in
            omega (arith, before, mine_near, their_near))
            (cases_eq k slot)

    -- at first
    pub looked_by_deadline : (slots : List ℕ) (due : Option ℕ) → IfSome due (IsNextDue deadlines moment) → IfNone due (NoneIsDue deadlines moment) → IsBestOf near_of test things (IsLookedAt deadlines moment slots 0) due
    looked_by_deadline slots None some none = λ k w there seen. absurd (nothing_seen slots k none seen)
    looked_by_deadline slots (Some slot) some none = own_first slots slot some

  -- one slot of the set more
  pub looked_further : (slots : List ℕ) (count slot : ℕ) (best : Option ℕ) → AreListed flags slots → count < length slots → slot_at slots count ≡ slot → IsBestOf near_of test things (IsLookedAt deadlines moment slots count) best →
      IsBestOf near_of test things (IsLookedAt deadlines moment slots (count + 1)) (better_of near_of test things best slot)
  looked_further slots count slot best listed less is known = go (thing_in things slot) refl
    where
      grows : (k : ℕ) → IsLookedAt deadlines moment slots (count + 1) k → IsLookedAt deadlines moment slots count k ⊎ (k ≡ slot)
      grows k (inl due) = inl (inl due)
      grows k (inr w) = ⊎_elim (λ before. inl (inr before)) (λ same. inr same) (one_more slots count slot k is w)

      go : (o : Option X) → thing_in things slot ≡ o → IsBestOf near_of test things (IsLookedAt deadlines moment slots (count + 1)) (better_of near_of test things best slot)
      go None e = false_true (sym (kept.marked slot ∙ ap (busy_in near_of at_of is_busy) e) ∙ ap (flag_of flags) (sym is) ∙ listed.marked count less)
      go (Some thing) e = bettered near_of test things (IsLookedAt deadlines moment slots count) (IsLookedAt deadlines moment slots (count + 1)) slot thing e grows best known

  -- at last
  module _ (why : (thing : X) → test thing ≡ true → (at_of thing ≤ moment) ⊎ (is_busy thing ≡ true)) (slots : List ℕ) (listed : AreListed flags slots) where
    all_looked : (k : ℕ) (w : X) → thing_in things k ≡ Some w → test w ≡ true → IsLookedAt deadlines moment slots (length slots) k
    all_looked k w there passes = ⊎_elim
        (λ due. inl (deadline_in near_of at_of w, kept.timed k ∙ ap (option_map (deadline_in near_of at_of)) there, due))
        (λ busy. inr (listed.all k (kept.marked k ∙ ap (busy_in near_of at_of is_busy) there ∙ busy)))
        (why w passes)

    none_passes : NoneOf near_of test things (IsLookedAt deadlines moment slots (length slots)) → NonePasses near_of test things
    none_passes none k w there = ⊎_elim
        (λ passes. false_true (sym (none k w there (all_looked k w there passes)) ∙ passes))
        (λ fails. fails)
        (cases_Bool (test w))

    first_passes : (slot : ℕ) → IsFirstOf near_of test things (IsLookedAt deadlines moment slots (length slots)) slot → IsFirst near_of test things slot
    first_passes slot first = record {
      thing = first.thing;
      stands = first.stands;
      passes = first.passes;
      lowest = λ k w there passes. first.lowest k w there (all_looked k w there passes) passes;
    }

    pub first_or_none : (best : Option ℕ) → IsBestOf near_of test things (IsLookedAt deadlines moment slots (length slots)) best → IfNone best (NonePasses near_of test things) × IfSome best (IsFirst near_of test things)
    first_or_none None best = (none_passes best, tt)
    first_or_none (Some slot) best = (tt, first_passes slot best)

-- ---- the first of all things, by near ids

module _ {X : Type 0} (near_of : X → ℕ) (test : X → Bool) (things : List (Option X)) (generations : List ℕ) (keys : KeyTable) (names : IsNamed near_of things generations keys) where
  stands_by : (q : ℕ) (w : X) → get (table_in near_of things) q ≡ Some w → (slot : ℕ) × (thing_in things slot ≡ Some w) × (near_of w ≡ q)
  stands_by q w is = go (get keys q) refl
    where
      go : (o : Option Key) → get keys q ≡ o → (slot : ℕ) × (thing_in things slot ≡ Some w) × (near_of w ≡ q)
      go None e = absurd (none-some w (sym (found_by near_of things generations keys names q ∙ ap (keyed_by things) e) ∙ is))
      go (Some key) e =
          let seat = names.seated q key e in
          let at = sym (found_by near_of things generations keys names q ∙ ap (keyed_by things) e) ∙ is in
          (key.slot, at, ap near_of (same_Some w seat.thing (sym at ∙ seat.stands)) ∙ seat.near_is)

  pub none_is_found : NonePasses near_of test things → find (λ (e : ℕ × X). test e.1) (entries (table_in near_of things)) ≡ None
  none_is_found none = none_is_first test (table_in near_of things) (λ q w is. let there = stands_by q w is in none there.0 w there.1)

  pub first_is_found : (slot : ℕ) (thing : X) → thing_in things slot ≡ Some thing → IsFirst near_of test things slot → find (λ (e : ℕ × X). test e.1) (entries (table_in near_of things)) ≡ Some (near_of thing, thing)
  first_is_found slot thing at first =
      let own = same_Some first.thing thing (sym first.stands ∙ at) in
      lowest_is_first test (table_in near_of things) (near_of thing) thing (in_slot near_of things generations keys names slot thing (near_of thing) at refl) (ap test (sym own) ∙ first.passes) (λ q w less is.
      let there = stands_by q w is in
      ⊎_elim
      (λ passes.
      let low = first.lowest there.0 w there.1 passes in
      let mine = ap near_of own in
      let theirs = there.2 in
      absurd (omega (arith, low, mine, theirs, less)))
      (λ fails. fails)
      (cases_Bool (test w)))

-- ---- what stands in the slots of a set is changed

module _ {X : Type 0} (change : X → X) (old now new : List (Option X)) (slots : List ℕ) (count : ℕ) where
  -- what stands in the next one is as it was
  pub next_stands : AreApart slots → count < length slots → AreChanged change old now slots count → thing_in now (slot_at slots count) ≡ thing_in old (slot_at slots count)
  next_stands apart less so_far = so_far.rest (slot_at slots count) (λ w.
      let l = w.1 in
      let same = apart w.0 count (omega (arith, l, less)) less w.2 in
      omega (arith, same, l))

  pub next_changed : (thing : X) → AreApart slots → count < length slots → AreChanged change old now slots count → thing_in old (slot_at slots count) ≡ Some thing →
      IsChangedAt now new (slot_at slots count) (Some (change thing)) → AreChanged change old new slots (count + 1)
  next_changed thing apart less so_far at is = record {
    done = λ place l. ⊎_elim
        (λ before. is.others (slot_at slots place) (λ e. let same = apart place count (omega (arith, before, less)) less e in omega (arith, same, before)) ∙ so_far.done place before)
        (λ past. let same : place ≡ count = omega (arith, past, l) in
        ap (λ n. thing_in new (slot_at slots n)) same ∙ is.changed ∙ sym (ap (option_map change) (ap (λ n. thing_in old (slot_at slots n)) same ∙ at)))
        (cases_lt place count);
    rest = λ k n. is.others k (λ e. n (count, omega arith, sym e)) ∙ so_far.rest k (λ w. n (w.0, (let l = w.1 in omega (arith, l)), w.2));
  }

-- a change that leaves near ids, deadlines and what isn't busy
module _ {X : Type 0} (near_of at_of : X → ℕ) (is_busy : X → Bool) (change : X → X) (old new : List (Option X)) (generations : List ℕ) (keys : KeyTable) (deadlines : Slots) (flags : Flags) (slots : List ℕ)
    (kept : IsKept near_of at_of is_busy old generations keys deadlines flags) (same_near : (x : X) → near_of (change x) ≡ near_of x) (same_at : (x : X) → at_of (change x) ≡ at_of x)
    (same_busy : (x : X) → is_busy (change x) ≡ is_busy x) (idle : (x : X) → is_busy x ≡ false → change x ≡ x) (listed : AreListed flags slots) (changed : AreChanged change old new slots (length slots)) where
  each_changed : (k : ℕ) → thing_in new k ≡ option_map change (thing_in old k)
  each_changed k = ⊎_elim
      (λ marked.
      let w = listed.all k marked in
      ap (thing_in new) (sym w.2) ∙ changed.done w.0 w.1 ∙ ap (λ s. option_map change (thing_in old s)) w.2)
      (λ free. changed.rest k (λ w. false_true (sym free ∙ ap (flag_of flags) (sym w.2) ∙ listed.marked w.0 w.1)) ∙ stays (thing_in old k) (sym (kept.marked k) ∙ free))
      (cases_Bool (flag_of flags k))
    where
      stays : (o : Option X) → busy_in near_of at_of is_busy o ≡ false → o ≡ option_map change o
      stays None e = refl
      stays (Some x) e = ap (λ y. Some y) (sym (idle x e))

  was_there : (k : ℕ) (x : X) → thing_in new k ≡ Some x → (y : X) × (thing_in old k ≡ Some y) × (change y ≡ x)
  was_there k x at = go (thing_in old k) refl
    where
      go : (o : Option X) → thing_in old k ≡ o → (y : X) × (thing_in old k ≡ Some y) × (change y ≡ x)
      go None e = absurd (none-some x (sym (each_changed k ∙ ap (option_map change) e) ∙ at))
      go (Some y) e = (y, e, same_Some (change y) x (sym (each_changed k ∙ ap (option_map change) e) ∙ at))

  changed_named : IsNamed near_of new generations keys
  changed_named = record {
    seated = λ q key is. let seat = kept.names.seated q key is in
        record { thing = change seat.thing; stands = each_changed key.slot ∙ ap (option_map change) seat.stands; near_is = same_near seat.thing ∙ seat.near_is; generation = seat.generation };
    keyed = λ k x at. let was = was_there k x at in ap (get keys) (sym (ap near_of was.2) ∙ same_near was.0) ∙ kept.names.keyed k was.0 was.1;
  }

  pub changed_kept : IsKept near_of at_of is_busy new generations keys deadlines flags
  changed_kept = record {
    names = changed_named;
    timed = λ k. kept.timed k ∙ same_deadline (thing_in old k) ∙ ap (option_map (deadline_in near_of at_of)) (sym (each_changed k));
    marked = λ k. kept.marked k ∙ same_mark (thing_in old k) ∙ ap (busy_in near_of at_of is_busy) (sym (each_changed k));
    room = λ k x at. let was = was_there k x at in kept.room k was.0 was.1;
  }
    where
      same_deadline : (o : Option X) → option_map (deadline_in near_of at_of) o ≡ option_map (deadline_in near_of at_of) (option_map change o)
      same_deadline None = refl
      same_deadline (Some x) = λ i. Some (record { at = sym (same_at x) i; near = sym (same_near x) i })

      same_mark : (o : Option X) → busy_in near_of at_of is_busy o ≡ busy_in near_of at_of is_busy (option_map change o)
      same_mark None = refl
      same_mark (Some x) = sym (same_busy x)

  pub changed_found : (q : ℕ) → get (table_in near_of new) q ≡ option_map change (get (table_in near_of old) q)
  changed_found q =
      found_by near_of new generations keys changed_named q ∙ go (get keys q) ∙ ap (option_map change) (sym (found_by near_of old generations keys kept.names q))
    where
      go : (o : Option Key) → keyed_by new o ≡ option_map change (keyed_by old o)
      go None = refl
      go (Some key) = each_changed key.slot
