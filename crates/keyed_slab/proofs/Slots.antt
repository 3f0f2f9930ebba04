-- Slots that come into a set, go out of it, and get room.
use Rattle.std.proofs.Common.{ℕ, ◌≡◌, ◌≢◌, ◌≤◌, ◌<◌, ◌+◌, List, [], ◌∷◌, ◌++◌, length, get_or, set, take, Bool, true, false, ltb, refl, sym, subst, ap, ◌∙◌, arith, ⊎_elim, length-append}
use Rattle.std.proofs.lemmas.Grind.{common_steps}
use Rattle.std.proofs.lemmas.Bool.{cases_eq, cases_lt}
use Rattle.std.proofs.lemmas.List.{ext_get_or, get_or-map, get_or-set_same, get_or-set_other, get_or_past, get_or_append_left, get_or_at, get_or-take, length-map, length-set, length-take-le}
use Rattle.std.specs.List.{SwappedAt}
use Rattle.keyed_slab.specs.SlotSet.{IsTied, AreListed, flags_of, flag_of, slot_at}

is_below : (place count : ℕ) → place < count → ltb place count ≡ true
is_below place count l = grind (arith, common_steps)

not_below : (place count : ℕ) → count ≤ place → ltb place count ≡ false
not_below place count l = grind (arith, common_steps)

below : (place count : ℕ) → ltb place count ≡ true → place < count
below place count t = grind (arith, common_steps)

pub flag_at : (p : List ℕ) (count slot : ℕ) → slot < length p → flag_of (flags_of p count) slot ≡ ltb (slot_at p slot) count
flag_at p count slot l = get_or-map (λ place. ltb place count) p slot 0 false l

-- one slot comes or goes
pub flags_set : (p q : List ℕ) (count m slot : ℕ) (b : Bool) → length q ≡ length p → slot < length p → ltb (slot_at q slot) m ≡ b → ((k : ℕ) → k < length p → k ≢ slot → ltb (slot_at q k) m ≡ ltb (slot_at p k) count) →
    flags_of q m ≡ set (flags_of p count) slot b
flags_set p q count m slot b long inside here beside =
    ext_get_or false (flags_of q m) (set (flags_of p count) slot b) (length-map q (λ place. ltb place m) ∙ long ∙ sym (length-map p (λ place. ltb place count)) ∙ sym (length-set (flags_of p count) slot b)) each
  where
    within : slot < length (flags_of p count)
    within = omega (arith, inside, length-map p (λ place. ltb place count))

    each : (k : ℕ) → k < length (flags_of q m) → get_or (flags_of q m) k false ≡ get_or (set (flags_of p count) slot b) k false
    each k l =
        let lq : k < length q = omega (arith, l, length-map q (λ place. ltb place m)) in
        let lp : k < length p = omega (arith, lq, long) in
        flag_at q m k lq ∙ ⊎_elim
        (λ e. ap (λ j. ltb (slot_at q j) m) e ∙ here ∙ sym (get_or-set_same (flags_of p count) slot b false within) ∙ ap (λ j. get_or (set (flags_of p count) slot b) j false) (sym e))
        (λ n. beside k lp n ∙ sym (flag_at p count k lp) ∙ sym (get_or-set_other (flags_of p count) slot k b false n)) (cases_eq k slot)

module _ (s p q : List ℕ) (count slot : ℕ) (tied : IsTied s p) (fits : count ≤ length p) (inside : slot < length p) (long : length q ≡ length p) where
  abbrev place : ℕ
  place = slot_at p slot

  -- the set has a slot in it already, or has it not
  pub stays_in : place < count → flags_of p count ≡ set (flags_of p count) slot true
  stays_in l = flags_set p p count count slot true refl inside (is_below place count l) (λ k _ n. refl)

  pub stays_out : count ≤ place → flags_of p count ≡ set (flags_of p count) slot false
  stays_out l = flags_set p p count count slot false refl inside (not_below place count l) (λ k _ n. refl)

  module _ (to : ℕ) (there : to < length p) (swapped : SwappedAt p q (slot_at s place) (slot_at s to)) where
    goes : slot_at q slot ≡ to
    goes = ap (slot_at q) (sym (tied.stands slot inside)) ∙ swapped.0 0 ∙ tied.keeps to there

    comes : (k : ℕ) → k ≡ slot_at s to → slot_at q k ≡ place
    comes k e = ap (slot_at q) e ∙ swapped.1 0 ∙ ap (slot_at p) (tied.stands slot inside)

    -- what stands at neither place
    stays : (k : ℕ) → k ≢ slot → k ≢ slot_at s to → slot_at q k ≡ slot_at p k
    stays k n m = swapped.2 k 0 (λ e. n (e ∙ tied.stands slot inside)) m

    elsewhere : (k : ℕ) → k < length p → k ≢ slot_at s to → slot_at p k ≢ to
    elsewhere k l n e = n (sym (tied.stands k l) ∙ ap (slot_at s) e)

    apart : (k : ℕ) → k ≢ slot → k ≡ slot_at s to → place ≢ to
    apart k n e same = n (e ∙ ap (slot_at s) (sym same) ∙ tied.stands slot inside)

    pub comes_in : to ≡ count → count ≤ place → flags_of q (count + 1) ≡ set (flags_of p count) slot true
    comes_in at past = flags_set p q count (count + 1) slot true long inside (is_below (slot_at q slot) (count + 1) (omega (arith, goes, at))) (λ k l n. ⊎_elim
        (λ e.
        let differs : place ≢ to = apart k n e in
        let above : count + 1 ≤ slot_at q k = past_by (slot_at q k) (comes k e) differs in
        let was : count ≤ slot_at p k = omega (arith, ap (slot_at p) e, tied.keeps to there, at) in
        not_below (slot_at q k) (count + 1) above ∙ sym (not_below (slot_at p k) count was))
        (λ m. ap (λ j. ltb j (count + 1)) (stays k n m) ∙ next (slot_at p k) (elsewhere k l m)) (cases_eq k (slot_at s to)))
      where
        past_by : (j : ℕ) → j ≡ place → (place ≢ to) → count + 1 ≤ j
        past_by j e differs = ⊎_elim (λ same. absurd (differs same)) (λ n. grind (arith, common_steps)) (cases_eq place to)

        next : (j : ℕ) → j ≢ to → ltb j (count + 1) ≡ ltb j count
        next j n = grind (arith, common_steps)

    pub goes_out : to + 1 ≡ count → place < count → flags_of q to ≡ set (flags_of p count) slot false
    goes_out at before = flags_set p q count to slot false long inside (not_below (slot_at q slot) to (omega (arith, goes))) (λ k l n. ⊎_elim
        (λ e.
        let differs : place ≢ to = apart k n e in
        let low : slot_at q k < to = before_by (slot_at q k) (comes k e) differs in
        let was : slot_at p k < count = omega (arith, ap (slot_at p) e, tied.keeps to there, at) in
        is_below (slot_at q k) to low ∙ sym (is_below (slot_at p k) count was))
        (λ m. ap (λ j. ltb j to) (stays k n m) ∙ next (slot_at p k) (elsewhere k l m)) (cases_eq k (slot_at s to)))
      where
        before_by : (j : ℕ) → j ≡ place → (place ≢ to) → j < to
        before_by j e differs = ⊎_elim (λ same. absurd (differs same)) (λ n. grind (arith, common_steps)) (cases_eq place to)

        next : (j : ℕ) → j ≢ to → ltb j to ≡ ltb j count
        next j n = grind (arith, common_steps)

-- one slot more, which isn't in the set
module _ (s p : List ℕ) (tied : IsTied s p) where
  more : length (p ++ length p ∷ []) ≡ length p + 1
  more = length-append p (length p ∷ [])

  last-place : slot_at (p ++ length p ∷ []) (length p) ≡ length p
  last-place = get_or_at p (length p) [] 0 (length p) refl

  last-slot : slot_at (s ++ length p ∷ []) (length p) ≡ length p
  last-slot = get_or_at s (length p) [] 0 (length p) tied.long

  place-kept : (slot : ℕ) → slot < length p → slot_at (p ++ length p ∷ []) slot ≡ slot_at p slot
  place-kept slot l = get_or_append_left p (length p ∷ []) 0 slot l

  slot-kept : (place : ℕ) → place < length p → slot_at (s ++ length p ∷ []) place ≡ slot_at s place
  slot-kept place l = get_or_append_left s (length p ∷ []) 0 place (omega (arith, l, tied.long))

  each : {P : ℕ → Type 0} → ((k : ℕ) → k < length p → P k) → P (length p) → (k : ℕ) → k < length (p ++ length p ∷ []) → P k
  each {P} old new k l = ⊎_elim (old k) (λ far. subst P (omega (arith, far, l, more)) new) (cases_lt k (length p))

  pub tied_pushed : IsTied (s ++ length p ∷ []) (p ++ length p ∷ [])
  tied_pushed = record {
    long = length-append s (length p ∷ []) ∙ rw tied.long (sym (length-append p (length p ∷ [])));
    inside = each {P = λ k. slot_at (p ++ length p ∷ []) k < length (p ++ length p ∷ [])}
        (λ k l. let within = tied.inside k l in rw (place-kept k l, more) (omega (arith, within)))
        (rw (last-place, more) (omega arith));
    stands = each {P = λ k. slot_at (s ++ length p ∷ []) (slot_at (p ++ length p ∷ []) k) ≡ k}
        (λ k l. rw (place-kept k l, slot-kept (slot_at p k) (tied.inside k l)) (tied.stands k l))
        (rw (last-place, last-slot) refl);
    named = each {P = λ k. slot_at (s ++ length p ∷ []) k < length (p ++ length p ∷ [])}
        (λ k l. let within = tied.named k l in rw (slot-kept k l, more) (omega (arith, within)))
        (rw (last-slot, more) (omega arith));
    keeps = each {P = λ k. slot_at (p ++ length p ∷ []) (slot_at (s ++ length p ∷ []) k) ≡ k}
        (λ k l. rw (slot-kept k l, place-kept (slot_at s k) (tied.named k l)) (tied.keeps k l))
        (rw (last-slot, last-place) refl);
  }

-- the first places have the slots in the set
false_true : {A : Type 0} → false ≡ true → A
false_true e = absurd cc

pub first_listed : (s p : List ℕ) (count : ℕ) → IsTied s p → count ≤ length p → AreListed (flags_of p count) (take count s)
first_listed s p count tied fits = record {
  marked = λ place l.
      let less : place < count = omega (arith, l, cut) in
      let at : slot_at (take count s) place ≡ slot_at s place = get_or-take count s place 0 less in
      let inside : place < length p = omega (arith, less, fits) in
      ap (flag_of (flags_of p count)) at ∙ flag_at p count (slot_at s place) (tied.named place inside) ∙ ap (λ j. ltb j count) (tied.keeps place inside) ∙ is_below place count less;
  all = λ slot flag. ⊎_elim
      (λ l.
      let less : slot_at p slot < count = below (slot_at p slot) count (sym (flag_at p count slot l) ∙ flag) in
      (slot_at p slot, omega (arith, less, cut), get_or-take count s (slot_at p slot) 0 less ∙ tied.stands slot l))
      (λ past. false_true (sym (get_or_past (flags_of p count) slot false (omega (arith, past, length-map p (λ place. ltb place count)))) ∙ flag))
      (cases_lt slot (length p));
  apart = λ i j first second same.
      let less : i < count = omega (arith, first, cut) in
      let less_too : j < count = omega (arith, second, cut) in
      let at = get_or-take count s i 0 less in
      let at_too = get_or-take count s j 0 less_too in
      sym (tied.keeps i (omega (arith, less, fits))) ∙ ap (slot_at p) (sym at ∙ same ∙ at_too) ∙ tied.keeps j (omega (arith, less_too, fits));
}
  where
    cut : length (take count s) ≡ count
    cut = length-take-le count s (omega (arith, fits, tied.long))
