-- Which attempt is chosen, of all slots and of those that are due.
use Rattle.std.proofs.Common.{ℕ, ◌≡◌, ◌<◌, ◌≤◌, ◌+◌, ◌||◌, ◌⊎◌, inl, inr, min, nat_le, Bool, true, false, [], Option, Some, None, IfSome, IfNone, IsSome, is_some, refl, sym, ap, subst, ◌∙◌, arith, ⊎_elim}
use Rattle.std.proofs.lemmas.Bool.{cases_Bool, cases_lt}
use Rattle.std.proofs.lemmas.Bool.Decides.{nat_tests}
use Rattle.std.proofs.lemmas.Option.{none-some, same_Some}
use Rattle.std.specs.FinMap.{get}
use Rattle.rtmfp_base.proofs.Lowest.{lowest_is_first, none_is_first}
use Rattle.deadlines.specs.Deadlines.{Slots, IsNextDue, NoneIsDue}
use Rattle.keyed_slab.specs.Keys.{KeyTable}
use Rattle.keyed_slab.specs.KeyedSlab.{Seats, thing_at}
use Rattle.keyed_slab.specs.Seating.{IsNamed}
use Rattle.keyed_slab.specs.SlotSet.{AreListed}
use Rattle.keyed_slab.specs.Walks as walks
use Rattle.keyed_slab.proofs.Walked.{bettered, first_or_none, looked_by_deadline}
use Rattle.startup.specs.declared.attempt.Row.{Row}
use Rattle.startup.specs.State.{AttemptState}
use Rattle.startup.specs.Attempts.{lowest}
use Rattle.startup.specs.Due.{gap_of, lifetime, is_due}
use Rattle.startup.specs.Sought.{IsChosenWith}
use Rattle.startup.specs.Table.{near_of, due_from, row_due_from, row_passes, attempts_in, is_in, no_flags, IsKept, NonePasses, IsFirst, better_of}
use Rattle.startup.proofs.Seats.{of_key, in_slot, no_flag, seat_of}

-- ---- slots that are looked through one by one

abbrev pub IsBelow : ℕ → ℕ → Type 0
IsBelow n slot = slot < n

module _ (test : AttemptState → Bool) (rows : Seats Row) where
  -- of the first n slots, the one with the lowest near id that passes
  abbrev pub IsBestBelow : ℕ → Option ℕ → Type 0
  IsBestBelow n best = walks.IsBestOf near_of (row_passes test) rows.things (IsBelow n) best

  pub none_below : IsBestBelow 0 None
  none_below = λ k w there less. absurd (omega (arith, less))

  module _ (n : ℕ) (best : Option ℕ) (known : IsBestBelow n best) where
    one_more : (k : ℕ) → k < n + 1 → (k < n) ⊎ (k ≡ n)
    one_more k less = ⊎_elim (λ before. inl before) (λ past. inr (omega (arith, less, past))) (cases_lt k n)

    lower : thing_at rows n ≡ None → (k : ℕ) (w : Row) → thing_at rows k ≡ Some w → k < n + 1 → k < n
    lower nothing k w there less = ⊎_elim (λ l. l) (λ same. absurd (none-some w (sym nothing ∙ ap (thing_at rows) (sym same) ∙ there))) (one_more k less)

    passed_by : (b : Option ℕ) → IsBestBelow n b → thing_at rows n ≡ None → IsBestBelow (n + 1) b
    passed_by None none nothing = λ k w there less. none k w there (lower nothing k w there less)
    passed_by (Some slot) first nothing = record {
      thing = first.thing;
      stands = first.stands;
      passes = first.passes;
      lowest = λ k w there less yes. first.lowest k w there (lower nothing k w there less) yes;
    }

    -- one slot more
    pub looked_further : IsBestBelow (n + 1) (better_of test rows best n)
    looked_further = go (thing_at rows n) refl
      where
        go : (o : Option Row) → thing_at rows n ≡ o → IsBestBelow (n + 1) (better_of test rows best n)
        go None e = subst (λ o. IsBestBelow (n + 1) (walks.better_with near_of (row_passes test) rows.things best n o)) (sym e) (passed_by best known e)
        go (Some row) e = bettered near_of (row_passes test) rows.things (IsBelow n) (IsBelow (n + 1)) n row e one_more best known

  -- when each slot with an attempt was looked at
  pub all_looked : (n : ℕ) (best : Option ℕ) → ((slot : ℕ) → IsSome (thing_at rows slot) → slot < n) → IsBestBelow n best → IfNone best (NonePasses test rows) × IfSome best (IsFirst test rows)
  all_looked n None bound known = ((λ k w there. known k w there (bound k (ap is_some there))), tt)
  all_looked n (Some slot) bound known = (
    tt,
    record {
      thing = known.thing;
      stands = known.stands;
      passes = known.passes;
      lowest = λ k w there yes. known.lowest k w there (bound k (ap is_some there)) yes;
    },
  )

-- ---- by near ids

module _ (test : AttemptState → Bool) (rows : Seats Row) (keys : KeyTable) (names : IsNamed near_of rows.things rows.generations keys) where
  stands_by : (q : ℕ) (w : AttemptState) → get (attempts_in rows) q ≡ Some w → (slot : ℕ) × (row : Row) × (thing_at rows slot ≡ Some row) × (row.near ≡ q) × (row.attempt ≡ w)
  stands_by q w is =
      let there = seat_of rows keys names q w is in
      (there.key.slot, there.seat.thing, there.seat.stands, there.seat.near_is, same_Some there.seat.thing.attempt w (sym (of_key rows keys names q there.key there.seat.thing there.key_is there.seat.stands) ∙ is))

  pub none_chosen : NonePasses test rows → lowest test (attempts_in rows) ≡ None
  none_chosen none = none_is_first test (attempts_in rows) (λ q w is. let there = stands_by q w is in ap test (sym there.4) ∙ none there.0 there.1 there.2)

  first_chosen : (slot : ℕ) (row : Row) → thing_at rows slot ≡ Some row → IsFirst test rows slot → IsChosenWith (lowest test (attempts_in rows)) (attempts_in rows) row.near row.attempt
  first_chosen slot row at first =
      let own = same_Some first.thing row (sym first.stands ∙ at) in
      let here = in_slot rows keys names slot row at in
      record {
        chosen_is = lowest_is_first test (attempts_in rows) row.near row.attempt here (ap (row_passes test) (sym own) ∙ first.passes) (λ q w less is.
            let there = stands_by q w is in
            ⊎_elim
            (λ yes.
            let low = first.lowest there.0 there.1 there.2 (ap test there.4 ∙ yes) in
            let mine = ap near_of own in
            let theirs = there.3 in
            absurd (omega (arith, low, mine, theirs, less)))
            (λ fails. fails)
            (cases_Bool (test w)));
        there = here;
      }

  -- the attempt of its row
  pub found_chosen : (slot : ℕ) (row : Row) → thing_at rows slot ≡ Some row → IsFirst test rows slot → (near : ℕ) (a : AttemptState) → near ≡ row.near → a ≡ row.attempt → IsChosenWith (lowest test (attempts_in rows)) (attempts_in rows) near a
  found_chosen slot row at first near a near_is is =
      subst (λ (n : ℕ). IsChosenWith (lowest test (attempts_in rows)) (attempts_in rows) n a) (sym near_is)
      (subst (λ (b : AttemptState). IsChosenWith (lowest test (attempts_in rows)) (attempts_in rows) row.near b) (sym is) (first_chosen slot row at first))

-- ---- what is due

due_is : (start last gap moment : ℕ) → (nat_le (start + lifetime) moment || nat_le (last + gap) moment) ≡ nat_le (min (start + lifetime) (last + gap)) moment
due_is start last gap moment = grind (arith, nat_tests)

-- something is due of an attempt from its deadline on
due_from_then : (a : AttemptState) (moment : ℕ) → is_due moment a ≡ nat_le (due_from a) moment
due_from_then a moment = due_is a.start a.last (gap_of a.gap) moment

is_not_later : (n moment : ℕ) → n ≤ moment → nat_le n moment ≡ true
is_not_later n moment l = grind (arith, nat_tests)

not_later : (n moment : ℕ) → nat_le n moment ≡ true → n ≤ moment
not_later n moment t = grind (arith, nat_tests)

module _ (rows : Seats Row) (keys : KeyTable) (deadlines : Slots) (kept : IsKept rows keys deadlines) (moment : ℕ) where
  none_listed : AreListed (no_flags deadlines) []
  none_listed = record {
    marked = λ place l. absurd (omega (arith, l));
    all = λ slot is. absurd (let clash : false ≡ true = sym (no_flag deadlines slot) ∙ is in cc);
    apart = λ i j l m e. absurd (omega (arith, l));
  }

  due_passes : (row : Row) → row_due_from row ≤ moment → row_passes (is_due moment) row ≡ true
  due_passes row come = due_from_then row.attempt moment ∙ is_not_later (row_due_from row) moment come

  why_due : (row : Row) → row_passes (is_due moment) row ≡ true → (row_due_from row ≤ moment) ⊎ (is_in row ≡ true)
  why_due row passes = inl (not_later (row_due_from row) moment (sym (due_from_then row.attempt moment) ∙ passes))

  -- the slot that is due next has the attempt that is due first
  pub due_or_none : (due : Option ℕ) → IfSome due (IsNextDue deadlines moment) → IfNone due (NoneIsDue deadlines moment) → IfNone due (NonePasses (is_due moment) rows) × IfSome due (IsFirst (is_due moment) rows)
  due_or_none due some none =
      first_or_none near_of row_due_from is_in (row_passes (is_due moment)) rows.things rows.generations keys deadlines (no_flags deadlines) moment kept why_due [] none_listed due
      (looked_by_deadline near_of row_due_from is_in (row_passes (is_due moment)) rows.things rows.generations keys deadlines (no_flags deadlines) moment kept due_passes [] due some none)
