-- The two heaps as one list of slots, while entries come, change, go and move from one to the other.
use Rattle.std.proofs.Common.{ℕ, zero, suc, ◌≡◌, ◌≢◌, ◌≤◌, ◌<◌, ◌+◌, ◌-◌, ◌⊎◌, [], ◌∷◌, length, slice_index_or, slice_set, replicate, refl, sym, subst, ap, ◌∙◌, arith, Option, Some, None, inl, inr, ⊎_elim, length-set, length-append}
use Rattle.std.proofs.lemmas.List.{ext_get_or, get_or-set_other, get_or_past, set-get_or, length-replicate}
use Rattle.std.proofs.lemmas.Option.{none-some, same_Some}
use Rattle.std.proofs.lemmas.Bool.{cases_lt}
use Rattle.deadlines.specs.Deadlines.{Deadline, Slots, HasRoom, IsFreeFor, IsNamedApart, IsNextDue, NoneIsDue, entry_of, deadline_set, deadline_cleared, with_room}
use Rattle.deadlines.specs.Inside.{deadline_of}
use Rattle.deadlines.specs.Halves.{AllAreDue, IsLowDue, IsSplit, Stands, entries_in, merged, or_else}
use Rattle.deadlines.specs.declared.entry.Entry.{Entry}
use Rattle.deadlines.proofs.Ways.{either}
use Rattle.deadlines.proofs.Keeping.{apart_set, apart_cleared, apart_room, entry_in_room, written_is}

pub length_merged : (l r : Slots) → length r ≤ length l → length (merged l r) ≡ length r
length_merged [] [] fits = refl
length_merged [] (y ∷ r) fits = absurd (omega (arith, fits))
length_merged (x ∷ l) [] fits = refl
length_merged (x ∷ l) (y ∷ r) fits = let rest = length_merged l r (omega (arith, fits)) in omega (arith, rest)

pub merged_at : (l r : Slots) (k : ℕ) → length r ≤ length l → k < length r → entry_of (merged l r) k ≡ or_else (entry_of l k) (entry_of r k)
merged_at [] [] k fits inside = absurd (omega (arith, inside))
merged_at [] (y ∷ r) k fits inside = absurd (omega (arith, fits))
merged_at (x ∷ l) [] k fits inside = absurd (omega (arith, inside))
merged_at (x ∷ l) (y ∷ r) zero fits inside = refl
merged_at (x ∷ l) (y ∷ r) (suc k) fits inside = merged_at l r k (omega (arith, fits)) (omega (arith, inside))

-- a slot is written in both
pub merged_set : (l r : Slots) (slot : ℕ) (a b : Option Deadline) → merged (slice_set l slot a) (slice_set r slot b) ≡ slice_set (merged l r) slot (or_else a b)
merged_set [] r slot a b = refl
merged_set (x ∷ l) [] zero a b = refl
merged_set (x ∷ l) [] (suc slot) a b = refl
merged_set (x ∷ l) (y ∷ r) zero a b = refl
merged_set (x ∷ l) (y ∷ r) (suc slot) a b = ap (λ z. or_else x y ∷ z) (merged_set l r slot a b)

-- what holds of each entry and of a new one holds of each after it is written
each_written : (P : Deadline → Type 0) (slots : Slots) (slot : ℕ) (y : Option Deadline) → ((d : Deadline) → y ≡ Some d → P d)
    → ((k : ℕ) (d : Deadline) → entry_of slots k ≡ Some d → P d) → (k : ℕ) (d : Deadline) → entry_of (slice_set slots slot y) k ≡ Some d → P d
each_written P slots slot y new old k d is = either k slot
    (λ e. new d (written_is slots slot y d (sym (ap (entry_of (slice_set slots slot y)) e) ∙ is)))
    (λ n. old k d (sym (get_or-set_other slots slot k y None n) ∙ is))

pub due_set : (slots : Slots) (moment slot at near : ℕ) → AllAreDue slots moment → at ≤ moment → AllAreDue (deadline_set slots slot at near) moment
due_set slots moment slot at near due l = each_written (λ d. d.at ≤ moment) slots slot (Some (record { at = at; near = near })) (λ d e. subst (λ z. z.at ≤ moment) (same_Some (record { at = at; near = near }) d e) l) due

pub late_set : (slots : Slots) (moment slot at near : ℕ) → NoneIsDue slots moment → moment < at → NoneIsDue (deadline_set slots slot at near) moment
late_set slots moment slot at near late l = each_written (λ d. moment < d.at) slots slot (Some (record { at = at; near = near })) (λ d e. subst (λ z. moment < z.at) (same_Some (record { at = at; near = near }) d e) l) late

pub due_cleared : (slots : Slots) (moment slot : ℕ) → AllAreDue slots moment → AllAreDue (deadline_cleared slots slot) moment
due_cleared slots moment slot due = each_written (λ d. d.at ≤ moment) slots slot None (λ d e. absurd (none-some d e)) due

pub late_cleared : (slots : Slots) (moment slot : ℕ) → NoneIsDue slots moment → NoneIsDue (deadline_cleared slots slot) moment
late_cleared slots moment slot late = each_written (λ d. moment < d.at) slots slot None (λ d e. absurd (none-some d e)) late

pub due_room : (slots : Slots) (moment n : ℕ) → AllAreDue slots moment → AllAreDue (with_room slots n) moment
due_room slots moment n due k d is = due k d (sym (entry_in_room slots n k) ∙ is)

pub late_room : (slots : Slots) (moment n : ℕ) → NoneIsDue slots moment → NoneIsDue (with_room slots n) moment
late_room slots moment n late k d is = late k d (sym (entry_in_room slots n k) ∙ is)

pub entries_fewer : (slots : Slots) (slot : ℕ) (d : Deadline) → entry_of slots slot ≡ Some d → entries_in (deadline_cleared slots slot) + 1 ≡ entries_in slots
entries_fewer [] slot d is = absurd (none-some d is)
entries_fewer (None ∷ slots) zero d is = absurd (none-some d is)
entries_fewer (Some c ∷ slots) zero d is = refl
entries_fewer (None ∷ slots) (suc slot) d is = entries_fewer slots slot d is
entries_fewer (Some c ∷ slots) (suc slot) d is = ap (λ n. n + 1) (entries_fewer slots slot d is)

module _ (l r : Slots) (split : IsSplit l r) where
  within : (slot : ℕ) → HasRoom (merged l r) slot → slot < length r
  within slot room = subst (λ k. slot < k) (length_merged l r split.fits) room

  pub has_room : (slot : ℕ) → HasRoom r slot → HasRoom (merged l r) slot
  has_room slot room = rw (length_merged l r split.fits) room

  -- what one of the two has, both together have
  pub in_later : (slot : ℕ) (d : Deadline) → entry_of l slot ≡ Some d → entry_of (merged l r) slot ≡ Some d
  in_later slot d is = merged_at l r slot split.fits (split.inside slot d is) ∙ ap (λ x. or_else x (entry_of r slot)) is

  pub in_ready : (slot : ℕ) (d : Deadline) → entry_of r slot ≡ Some d → entry_of (merged l r) slot ≡ Some d
  in_ready slot d is = ⊎_elim
      (λ k. merged_at l r slot split.fits k ∙ go (entry_of l slot) refl)
      (λ k. absurd (none-some d (sym (get_or_past r slot None k) ∙ is)))
      (cases_lt slot (length r))
    where
      go : (o : Option Deadline) → entry_of l slot ≡ o → or_else o (entry_of r slot) ≡ Some d
      go None e = is
      go (Some c) e = absurd (split.alone slot c d e is)

  -- what both together have, one of the two has
  pub in_either : (slot : ℕ) (d : Deadline) → entry_of (merged l r) slot ≡ Some d → (entry_of l slot ≡ Some d) ⊎ (entry_of r slot ≡ Some d)
  in_either slot d is = ⊎_elim
      (λ k. go (entry_of l slot) refl (sym (merged_at l r slot split.fits k) ∙ is))
      (λ k. absurd (none-some d (sym (get_or_past (merged l r) slot None (rw (length_merged l r split.fits) k)) ∙ is)))
      (cases_lt slot (length r))
    where
      go : (o : Option Deadline) → entry_of l slot ≡ o → or_else o (entry_of r slot) ≡ Some d → (entry_of l slot ≡ Some d) ⊎ (entry_of r slot ≡ Some d)
      go None e was = inr was
      go (Some c) e was = inl (e ∙ was)

  changed : (slot : ℕ) (a b : Option Deadline) → ((d : Deadline) → a ≡ Some d → slot < length r) → ((c d : Deadline) → a ≡ Some c → b ≡ Some d → ⊥)
      → IsNamedApart (slice_set (merged l r) slot (or_else a b)) → IsSplit (slice_set l slot a) (slice_set r slot b)
  changed slot a b room one apart = record { fits = fits; inside = inside; alone = alone; apart = subst IsNamedApart (sym (merged_set l r slot a b)) apart }
    where
      fits : length (slice_set r slot b) ≤ length (slice_set l slot a)
      fits = rw (length-set r slot b, length-set l slot a) split.fits

      inside : (k : ℕ) (d : Deadline) → entry_of (slice_set l slot a) k ≡ Some d → k < length (slice_set r slot b)
      inside k d is = rw (length-set r slot b) (either k slot
          (λ e. rw e (room d (written_is l slot a d (sym (ap (entry_of (slice_set l slot a)) e) ∙ is))))
          (λ n. split.inside k d (sym (get_or-set_other l slot k a None n) ∙ is)))

      alone : (k : ℕ) (c d : Deadline) → entry_of (slice_set l slot a) k ≡ Some c → entry_of (slice_set r slot b) k ≡ Some d → ⊥
      alone k c d is it = either k slot
          (λ e. one c d (written_is l slot a c (sym (ap (entry_of (slice_set l slot a)) e) ∙ is)) (written_is r slot b d (sym (ap (entry_of (slice_set r slot b)) e) ∙ it)))
          (λ n. split.alone k c d (sym (get_or-set_other l slot k a None n) ∙ is) (sym (get_or-set_other r slot k b None n) ∙ it))

  pub split_ready : (slot at near : ℕ) → HasRoom (merged l r) slot → IsFreeFor (merged l r) slot near → IsSplit (deadline_cleared l slot) (deadline_set r slot at near)
  split_ready slot at near room free = changed slot None (Some (record { at = at; near = near })) (λ d no. absurd (none-some d no)) (λ c d no _. none-some c no) (apart_set (merged l r) slot at near room split.apart free)

  pub split_later : (slot at near : ℕ) → HasRoom (merged l r) slot → IsFreeFor (merged l r) slot near → IsSplit (deadline_set l slot at near) (deadline_cleared r slot)
  split_later slot at near room free = changed slot (Some (record { at = at; near = near })) None (λ d _. within slot room) (λ c d _ no. none-some d no) (apart_set (merged l r) slot at near room split.apart free)

  pub split_cleared : (slot : ℕ) → IsSplit (deadline_cleared l slot) (deadline_cleared r slot)
  split_cleared slot = changed slot None None (λ d no. absurd (none-some d no)) (λ c d no _. none-some c no) (apart_cleared (merged l r) slot split.apart)

  pub room_later : (slot : ℕ) → HasRoom (merged l r) slot → HasRoom l slot
  room_later slot room = let k = within slot room in let fits = split.fits in omega (arith, k, fits)

  pub room_ready : (slot : ℕ) → HasRoom (merged l r) slot → HasRoom r slot
  room_ready = within

  -- an entry that goes from one to the other changes nothing of both together
  pub merged_moved : (e : Entry) → Stands l e → merged (deadline_cleared l e.slot) (deadline_set r e.slot e.at e.near) ≡ merged l r
  unfolding deadline_of
  merged_moved e stands =
      merged_set l r e.slot None (Some (record { at = e.at; near = e.near }))
      ∙ ap (slice_set (merged l r) e.slot) (sym (in_later e.slot (record { at = e.at; near = e.near }) stands))
      ∙ set-get_or (merged l r) e.slot None

  pub split_moved : (e : Entry) → Stands l e → IsSplit (deadline_cleared l e.slot) (deadline_set r e.slot e.at e.near)
  split_moved e stands = changed e.slot None (Some (record { at = e.at; near = e.near })) (λ d no. absurd (none-some d no)) (λ c d no _. none-some c no)
      (subst IsNamedApart (sym (merged_moved e stands) ∙ merged_set l r e.slot None (Some (record { at = e.at; near = e.near }))) split.apart)

  -- the first of the one has more room, the other not yet
  pub merged_wider : (n : ℕ) → merged (with_room l n) r ≡ merged l r
  merged_wider n = ext_get_or None (merged (with_room l n) r) (merged l r) (long ∙ sym (length_merged l r split.fits)) (λ i k. let inside = subst (λ z. i < z) long k in
      merged_at (with_room l n) r i fits inside ∙ ap (λ x. or_else x (entry_of r i)) (entry_in_room l n i) ∙ sym (merged_at l r i split.fits inside))
    where
      fits : length r ≤ length (with_room l n)
      fits = let more = length-append l (replicate (n - length l) None) in let was = split.fits in omega (arith, more, was)

      long : length (merged (with_room l n) r) ≡ length r
      long = length_merged (with_room l n) r fits

  pub split_wider : (n : ℕ) → IsSplit (with_room l n) r
  split_wider n = record {
    fits = let more = length-append l (replicate (n - length l) None) in let was = split.fits in omega (arith, more, was);
    inside = λ k d is. split.inside k d (sym (entry_in_room l n k) ∙ is);
    alone = λ k c d is it. split.alone k c d (sym (entry_in_room l n k) ∙ is) it;
    apart = subst IsNamedApart (sym (merged_wider n)) split.apart;
  }

  room_length : (xs : Slots) (n : ℕ) → length (with_room xs n) ≡ length xs + (n - length xs)
  room_length xs n = length-append xs (replicate (n - length xs) None) ∙ ap (λ z. length xs + z) (length-replicate {A = Option Deadline} (n - length xs) None)

  pub merged_room : (n : ℕ) → merged (with_room l n) (with_room r n) ≡ with_room (merged l r) n
  merged_room n = ext_get_or None (merged (with_room l n) (with_room r n)) (with_room (merged l r) n) long each
    where
      fits : length (with_room r n) ≤ length (with_room l n)
      fits = let a = room_length l n in let b = room_length r n in let was = split.fits in omega (arith, a, b, was)

      long : length (merged (with_room l n) (with_room r n)) ≡ length (with_room (merged l r) n)
      long = let a = length_merged (with_room l n) (with_room r n) fits in let b = room_length r n in let c = room_length (merged l r) n in let d = length_merged l r split.fits in omega (arith, a, b, c, d)

      all : (i : ℕ) → or_else (entry_of l i) (entry_of r i) ≡ entry_of (merged l r) i
      all i = ⊎_elim
          (λ k. sym (merged_at l r i split.fits k))
          (λ k. go k (entry_of l i) refl (get_or_past r i None k) ∙ sym (get_or_past (merged l r) i None (rw (length_merged l r split.fits) k)))
          (cases_lt i (length r))
        where
          go : length r ≤ i → (o : Option Deadline) → entry_of l i ≡ o → entry_of r i ≡ None → or_else o (entry_of r i) ≡ None
          go far None e past = past
          go far (Some d) e past = let near = split.inside i d e in absurd (omega (arith, near, far))

      each : (i : ℕ) → i < length (merged (with_room l n) (with_room r n)) → slice_index_or (merged (with_room l n) (with_room r n)) i None ≡ slice_index_or (with_room (merged l r) n) i None
      each i k =
          merged_at (with_room l n) (with_room r n) i fits (subst (λ z. i < z) (length_merged (with_room l n) (with_room r n) fits) k)
          ∙ ap (λ x. or_else x (entry_of (with_room r n) i)) (entry_in_room l n i)
          ∙ ap (or_else (entry_of l i)) (entry_in_room r n i)
          ∙ all i
          ∙ sym (entry_in_room (merged l r) n i)

  pub split_room : (n : ℕ) → IsSplit (with_room l n) (with_room r n)
  split_room n = record {
    fits = let a = room_length l n in let b = room_length r n in let was = split.fits in omega (arith, a, b, was);
    inside = λ k d is. let b = room_length r n in let was = split.inside k d (sym (entry_in_room l n k) ∙ is) in omega (arith, b, was);
    alone = λ k c d is it. split.alone k c d (sym (entry_in_room l n k) ∙ is) (sym (entry_in_room r n k) ∙ it);
    apart = subst IsNamedApart (sym (merged_room n)) (apart_room (merged l r) n split.apart);
  }

  pub none_of_both : (moment : ℕ) → NoneIsDue l moment → NoneIsDue r moment → NoneIsDue (merged l r) moment
  none_of_both moment later ready slot d is = ⊎_elim (later slot d) (ready slot d) (in_either slot d is)

  next : (moment : ℕ) (e : Entry) → Stands (merged l r) e → e.at ≤ moment
      → ((other : ℕ) (d : Deadline) → entry_of l other ≡ Some d → d.at ≤ moment → e.near ≤ d.near)
      → ((other : ℕ) (d : Deadline) → entry_of r other ≡ Some d → d.at ≤ moment → e.near ≤ d.near) → IsNextDue (merged l r) moment e.slot
  unfolding deadline_of
  next moment e stands due later ready = record { entry = deadline_of e; stands = stands; is_due = due; lowest = lowest }
    where
      strictly : (a b : ℕ) → a ≤ b → a ≢ b → a < b
      strictly a b l n = grind arith

      lowest : (other : ℕ) (d : Deadline) → entry_of (merged l r) other ≡ Some d → d.at ≤ moment → other ≢ e.slot → e.near < d.near
      lowest other d is past n = strictly e.near d.near (⊎_elim (λ x. later other d x past) (λ x. ready other d x past) (in_either other d is)) (λ z. n (split.apart other e.slot d (deadline_of e) is stands (sym z)))

  none_lower : (slots : Slots) (moment near : ℕ) → NoneIsDue slots moment → (other : ℕ) (d : Deadline) → entry_of slots other ≡ Some d → d.at ≤ moment → near ≤ d.near
  none_lower slots moment near none other d is due = let late = none other d is in absurd (omega (arith, late, due))

  no_higher : (slots : Slots) (moment near : ℕ) (e : Entry) → IsLowDue slots moment e → near ≤ e.near → (other : ℕ) (d : Deadline) → entry_of slots other ≡ Some d → d.at ≤ moment → near ≤ d.near
  no_higher slots moment near e low l other d is due = let above = low.lowest other d is due in omega (arith, above, l)

  pub next_later : (moment : ℕ) (e : Entry) → NoneIsDue r moment → IsLowDue l moment e → IsNextDue (merged l r) moment e.slot
  next_later moment e none low = next moment e (in_later e.slot (deadline_of e) low.stands) low.is_due low.lowest (none_lower r moment e.near none)

  pub next_ready : (moment : ℕ) (e : Entry) → NoneIsDue l moment → IsLowDue r moment e → IsNextDue (merged l r) moment e.slot
  next_ready moment e none low = next moment e (in_ready e.slot (deadline_of e) low.stands) low.is_due (none_lower l moment e.near none) low.lowest

  pub next_later_of : (moment : ℕ) (e f : Entry) → IsLowDue l moment e → IsLowDue r moment f → e.near < f.near → IsNextDue (merged l r) moment e.slot
  next_later_of moment e f low other less = next moment e (in_later e.slot (deadline_of e) low.stands) low.is_due low.lowest (no_higher r moment e.near f other (omega (arith, less)))

  pub next_ready_of : (moment : ℕ) (e f : Entry) → IsLowDue l moment e → IsLowDue r moment f → f.near ≤ e.near → IsNextDue (merged l r) moment f.slot
  next_ready_of moment e f other low less = next moment f (in_ready f.slot (deadline_of f) low.stands) low.is_due (no_higher l moment f.near e other less) low.lowest
