-- Which rows a round still comes to, as rows and round change, and what it finds.
use Rattle.std.proofs.Common.{ℕ, ◌≡◌, ◌≢◌, ◌<◌, ◌≤◌, ◌+◌, ◌^◌, ◌⊎◌, inl, inr, List, [], ◌∷◌, ◌++◌, length, true, false, Option, Some, None, IsSome, IfSome, IfNone, is_some, refl, sym, ap, subst, ◌∙◌, arith, ⊎_elim}
use Rattle.std.specs.Prelude.{IsPermutation, IsSorted}
use Rattle.std.specs.FinMap.{get}
use Rattle.std.specs.Option.{option_map}
use Rattle.std.specs.Ordering.{nat_cmp}
use Rattle.std.proofs.lemmas.List.{get_or_append_left, get_or_default, get_or_push, length_push}
use Rattle.std.proofs.lemmas.List.Sorted.{Contains-permutation, IsNonDecreasingBy-from_sort}
use Rattle.std.proofs.lemmas.Bool.{cases_eq, cases_lt, cases_Bool}
use Rattle.std.proofs.lemmas.Option.{none-some, same_Some}
use Rattle.deadlines.specs.Deadlines.{Slots, IsNextDue, NoneIsDue}
use Rattle.keyed_slab.specs.declared.keys.Key.{Key}
use Rattle.keyed_slab.specs.Keys.{KeyTable}
use Rattle.keyed_slab.specs.KeyedSlab.{thing_in, IsChangedAt}
use Rattle.keyed_slab.specs.SlotSet.{Flags, slot_at, AreListed}
use Rattle.keyed_slab.specs.Seating.{busy_in, deadline_in, key_to, IsMarkedAt, IsNamed}
use Rattle.keyed_slab.specs.Seating as seating
use Rattle.keyed_slab.specs.Walks.{IsLookedAt, NonePasses, IsFirst, IsBestOf, better_of}
use Rattle.keyed_slab.proofs.Walked.{bettered, looked_by_deadline}
use Rattle.endpoint_model.specs.declared.row.Row.{Row}
use Rattle.endpoint_model.specs.FlowTimes.{is_row_due}
use Rattle.session_table.specs.declared.round.Round.{Round}
use Rattle.session_table.specs.Table.{near_of}
use Rattle.session_table.specs.Inside.{due_from, may_be_due_of, AllAreOwn, IsAwaitedAt, IsDueUnder, IsFirstBeside, IsLeft, IsRising, NoneIsDueUnder}
use Rattle.session_table.proofs.OwnDue.{due_passes, why_due}

pub false_true : {A : Type 0} → false ≡ true → A
false_true e = absurd cc

abbrev AllAwait : List (Option Row) → Round → Type 0
AllAwait things round = (slot : ℕ) → IsAwaitedAt things round slot

-- ---- what stands in one slot is changed

pub beside_awaits : (old new : List (Option Row)) (slot : ℕ) (thing : Option Row) (round : Round) → IsChangedAt old new slot thing → AllAwait old round → (other : ℕ) → other ≢ slot → IsAwaitedAt new round other
beside_awaits old new slot thing round is awaits other n row at = awaits other row (sym (is.others other n) ∙ at)

pub gone_awaits : (old new : List (Option Row)) (slot : ℕ) (round : Round) → IsChangedAt old new slot None → AllAwait old round → AllAwait new round
gone_awaits old new slot round is awaits k row at = ⊎_elim
    (λ same. absurd (none-some row (sym (ap (thing_in new) same ∙ is.changed) ∙ at)))
    (λ n. beside_awaits old new slot None round is awaits k n row at)
    (cases_eq k slot)

-- the round is told of what the row has become
pub settled_awaits : (things : List (Option Row)) (old new : Round) (slot near : ℕ) (row : Row) → thing_in things slot ≡ Some row → near ≡ near_of row → ((other : ℕ) → other ≢ slot → IsAwaitedAt things old other) →
    (IsSome new.moment → new.moment ≡ old.moment) → (IsSome new.moment → IsLeft new.nears.items new.next near) →
    (IsSome new.moment → (other : ℕ) → IsLeft old.nears.items old.next other → IsLeft new.nears.items new.next other) → AllAwait things new
settled_awaits things old new slot near row is near_is awaits stays put rest k w at m goes due =
    let some : IsSome new.moment = ap is_some goes in
    ⊎_elim
    (λ same.
    let own : row ≡ w = same_Some row w (sym is ∙ ap (thing_in things) (sym same) ∙ at) in
    inr (subst (λ (n : ℕ). IsLeft new.nears.items new.next n) (near_is ∙ ap near_of own) (put some)))
    (λ n. ⊎_elim
    (λ come. inl come)
    (λ left. inr (rest some (near_of w) left))
    (awaits k n w at m (sym (stays some) ∙ goes) due))
    (cases_eq k slot)

-- ---- nothing is changed

pub same_rises : (r s : Round) → s.nears.items ≡ r.nears.items → s.next ≡ r.next → IsRising r.nears.items r.next → IsRising s.nears.items s.next
same_rises r s nears next rises =
    subst (λ (l : List ℕ). IsRising l s.next) (sym nears) (subst (λ (n : ℕ). IsRising r.nears.items n) (sym next) rises)

pub same_awaits : (old new : List (Option Row)) (r s : Round) → new ≡ old → s.moment ≡ r.moment → s.nears.items ≡ r.nears.items → s.next ≡ r.next → AllAwait old r → AllAwait new s
same_awaits old new r s things moment nears next awaits k w at m goes due = ⊎_elim
    (λ come. inl come)
    (λ left. inr (subst (λ (l : List ℕ). IsLeft l s.next (near_of w)) (sym nears) (subst (λ (n : ℕ). IsLeft r.nears.items n (near_of w)) (sym next) left)))
    (awaits k w (ap (λ (t : List (Option Row)). thing_in t k) (sym things) ∙ at) m (sym moment ∙ goes) due)

pub ended_awaits : (things : List (Option Row)) (round : Round) → round.moment ≡ None → AllAwait things round
ended_awaits things round none k w at m goes due = absurd (none-some m (sym none ∙ goes))

pub empty_rises : (nears : List ℕ) (next : ℕ) → nears ≡ [] → IsRising nears next
empty_rises nears next none a b first le below = absurd (let long : length nears ≡ 0 = ap length none in omega (arith, below, long))

-- ---- a round begins

module _ (things : List (Option Row)) (flags : Flags) (slots : List ℕ) (marked : (slot : ℕ) → IsMarkedAt near_of due_from may_be_due_of things flags slot) (listed : AreListed flags slots) where
  pub listed_stands : (place : ℕ) → place < length slots → IsSome (thing_in things (slot_at slots place))
  listed_stands place less = go (thing_in things (slot_at slots place)) refl
    where
      go : (o : Option Row) → thing_in things (slot_at slots place) ≡ o → IsSome (thing_in things (slot_at slots place))
      go None e = false_true (sym (marked (slot_at slots place) ∙ ap (busy_in near_of due_from may_be_due_of) e) ∙ listed.marked place less)
      go (Some row) e = ap is_some e

  pub begun_awaits : (round : Round) (moment : ℕ) → moment < 2 ^ 64 → IfSome round.moment (λ begun. begun ≡ moment) →
      (IsSome round.moment → (place : ℕ) (row : Row) → place < length slots → thing_in things (slot_at slots place) ≡ Some row → IsLeft round.nears.items round.next (near_of row)) → AllAwait things round
  begun_awaits round moment below begun left k w at m goes due =
      let same : m ≡ moment = subst (λ (o : Option ℕ). IfSome o (λ b. b ≡ moment)) goes begun in
      ⊎_elim
      (λ come. inl come)
      (λ sending.
      let there = listed.all k (marked k ∙ ap (busy_in near_of due_from may_be_due_of) at ∙ sending) in
      inr (left (ap is_some goes) there.0 w there.1 (ap (thing_in things) there.2 ∙ at)))
      (why_due m w (subst (λ (n : ℕ). n < 2 ^ 64) (sym same) below) due)

-- The session IDs of the rows in the first slots, so many, are listed.
abbrev pub AreFilled : List (Option Row) → List ℕ → List ℕ → ℕ → Type 0
AreFilled things slots nears count = (place : ℕ) (row : Row) → place < count → thing_in things (slot_at slots place) ≡ Some row → IsLeft nears 0 (near_of row)

pushed_left : (nears more : List ℕ) (last near : ℕ) → more ≡ nears ++ last ∷ [] → IsLeft nears 0 near → IsLeft more 0 near
pushed_left nears more last near is left =
    let long = ap length is ∙ length_push nears last in
    let less = left.below in
    record {
      place = left.place;
      begins = omega arith;
      below = omega (arith, long, less);
      is = ap (λ (l : List ℕ). slot_at l left.place) is ∙ get_or_append_left nears (last ∷ []) 0 left.place less ∙ left.is;
    }

last_left : (nears more : List ℕ) (last : ℕ) → more ≡ nears ++ last ∷ [] → IsLeft more 0 last
last_left nears more last is =
    let long = ap length is ∙ length_push nears last in
    record {
      place = length nears;
      begins = omega arith;
      below = omega (arith, long);
      is = ap (λ (l : List ℕ). slot_at l (length nears)) is ∙ get_or_push nears last 0 (length nears) refl;
    }

pub filled_more : (things : List (Option Row)) (slots nears more : List ℕ) (index last : ℕ) (row : Row) → thing_in things (slot_at slots index) ≡ Some row → last ≡ near_of row → more ≡ nears ++ last ∷ [] →
    AreFilled things slots nears index → AreFilled things slots more (index + 1)
filled_more things slots nears more index last row at is pushed filled place w less there = ⊎_elim
    (λ before. pushed_left nears more last (near_of w) pushed (filled place w before there))
    (λ past.
    let same : index ≡ place = omega (arith, past, less) in
    let own : row ≡ w = same_Some row w (sym at ∙ ap (λ (n : ℕ). thing_in things (slot_at slots n)) same ∙ there) in
    subst (λ (n : ℕ). IsLeft more 0 n) (is ∙ ap near_of own) (last_left nears more last pushed))
    (cases_lt place index)

pub shuffled_left : (xs ys : List ℕ) (near : ℕ) → IsPermutation xs ys → IsLeft xs 0 near → IsLeft ys 0 near
shuffled_left xs ys near shuffled left =
    let found = Contains-permutation xs ys near shuffled (left.place, left.below, get_or_default xs left.place near 0 left.below ∙ left.is) in
    record { place = found.0; begins = omega arith; below = found.1; is = get_or_default ys found.0 0 near found.1 ∙ found.2 }

pub sorted_rises : (xs : List ℕ) → IsSorted nat_cmp xs → IsRising xs 0
sorted_rises xs sorted a b first le below = IsNonDecreasingBy-from_sort (λ (x : ℕ). x) xs sorted a b 0 le below

-- ---- what is due under a session ID

module _ (things : List (Option Row)) (generations : List ℕ) (keys : KeyTable) (names : IsNamed near_of things generations keys) (moment near : ℕ) where
  pub none_under : None ≡ get keys near → NoneIsDueUnder moment near things
  none_under none slot row at is = absurd (none-some (key_to generations slot) (none ∙ ap (get keys) (sym is) ∙ names.keyed slot row at))

  module _ (key : Key) (found : Some key ≡ get keys near) where
    pub key_stands : IsSome (thing_in things key.slot)
    key_stands = ap is_some (names.seated near key (sym found)).stands

    module _ (row : Row) (stands : thing_in things key.slot ≡ Some row) where
      pub idle_under : is_row_due moment row ≡ false → NoneIsDueUnder moment near things
      idle_under idle slot w at is =
          let same : key ≡ key_to generations slot = same_Some key (key_to generations slot) (found ∙ ap (get keys) (sym is) ∙ names.keyed slot w at) in
          let own : row ≡ w = same_Some row w (sym stands ∙ ap (λ (k : Key). thing_in things k.slot) same ∙ at) in
          ap (is_row_due moment) (sym own) ∙ idle

      pub due_under : is_row_due moment row ≡ true → IsDueUnder moment near things key.slot
      due_under due =
          let seat = names.seated near key (sym found) in
          record { row = row; stands = stands; near_is = ap near_of (same_Some row seat.thing (sym stands ∙ seat.stands)) ∙ seat.near_is; due = due }

-- ---- a round goes on

module _ (things : List (Option Row)) (round : Round) (moment : ℕ) (goes : round.moment ≡ Some moment) (awaits : AllAwait things round) where
  -- past one of which nothing is due
  pub passed_awaits : (later : Round) → later.moment ≡ round.moment → later.nears.items ≡ round.nears.items → later.next ≡ round.next + 1 → NoneIsDueUnder moment (slot_at round.nears.items round.next) things → AllAwait things later
  passed_awaits later same nears next none k w at m later_goes due =
      let is : moment ≡ m = same_Some moment m (sym goes ∙ sym same ∙ later_goes) in
      ⊎_elim
      (λ come. inl come)
      (λ left. ⊎_elim
      (λ first.
      let near : near_of w ≡ slot_at round.nears.items round.next = sym left.is ∙ ap (slot_at round.nears.items) first in
      false_true (sym (none k w at near) ∙ subst (λ (n : ℕ). is_row_due n w ≡ true) (sym is) due))
      (λ other.
      let first = left.begins in
      inr (record {
        place = left.place;
        begins = omega (arith, first, other, next);
        below = subst (λ (l : List ℕ). left.place < length l) (sym nears) left.below;
        is = ap (λ (l : List ℕ). slot_at l left.place) nears ∙ left.is;
      }))
      (cases_eq left.place round.next))
      (awaits k w at m (sym same ∙ later_goes) due)

  pub found_first : (slot : ℕ) → IsRising round.nears.items round.next → IsDueUnder moment (slot_at round.nears.items round.next) things slot → IsFirstBeside moment things slot
  found_first slot rises found = record {
    row = found.row;
    stands = found.stands;
    due = found.due;
    lowest = λ other w at due. ⊎_elim
        (λ come. inl come)
        (λ left.
        let low = rises round.next left.place (omega arith) left.begins left.below in
        let mine = found.near_is in
        let theirs = left.is in
        inr (omega (arith, low, mine, theirs)))
        (awaits other w at moment goes due);
  }

  pub found_none : length round.nears.items ≤ round.next → AllAreOwn moment things
  found_none ends slot w at due = ⊎_elim
      (λ come. come)
      (λ left. let first = left.begins in let below = left.below in absurd (omega (arith, ends, first, below)))
      (awaits slot w at moment goes due)

-- ---- what a round finds, with what is due by deadlines

-- Something is due of one that was looked at, with no higher session ID.
record IsNoHigher (moment : ℕ) (things : List (Option Row)) (Seen : ℕ → Type 0) (w : Row) : Type 0 where
  slot : ℕ
  row : Row
  stands : thing_in things slot ≡ Some row
  due : is_row_due moment row ≡ true
  seen : Seen slot
  low : near_of row ≤ near_of w

module _ (things : List (Option Row)) (moment : ℕ) where
  abbrev IsFirstOrNone : Option ℕ → Type 0
  IsFirstOrNone found = IfNone found (NonePasses near_of (is_row_due moment) things) × IfSome found (IsFirst near_of (is_row_due moment) things)

  best_is_first : (Seen : ℕ → Type 0) (best : Option ℕ) → IsBestOf near_of (is_row_due moment) things Seen best →
      ((k : ℕ) (w : Row) → thing_in things k ≡ Some w → is_row_due moment w ≡ true → IsNoHigher moment things Seen w) → IsFirstOrNone best
  best_is_first Seen None known all = (
    λ k w at. ⊎_elim
        (λ due. let x = all k w at due in false_true (sym (known x.slot x.row x.stands x.seen) ∙ x.due))
        (λ fails. fails)
        (cases_Bool (is_row_due moment w)),
    tt,
  )
  best_is_first Seen (Some slot) known all = (
    tt,
    record {
      thing = known.thing;
      stands = known.stands;
      passes = known.passes;
      lowest = λ k w at due.
          let x = all k w at due in
          let more = known.lowest x.slot x.row x.stands x.seen x.due in
          let low = x.low in
          omega (arith, more, low);
    },
  )

module _ (things : List (Option Row)) (generations : List ℕ) (keys : KeyTable) (deadlines : Slots) (sending : Flags) (moment : ℕ) (kept : seating.IsKept near_of due_from may_be_due_of things generations keys deadlines sending) (small : moment < 2 ^ 64)
    (own : Option ℕ) (some : IfSome own (IsNextDue deadlines moment)) (none : IfNone own (NoneIsDue deadlines moment)) where
  abbrev Looked : ℕ → Type 0
  Looked = IsLookedAt deadlines moment [] 0

  pub own_best : IsBestOf near_of (is_row_due moment) things Looked own
  own_best = looked_by_deadline near_of due_from may_be_due_of (is_row_due moment) things generations keys deadlines sending moment kept (λ row. due_passes moment row small) [] own some none

  pub own_stands : IfSome own (λ slot. IsSome (thing_in things slot))
  own_stands = go own own_best
    where
      go : (o : Option ℕ) → IsBestOf near_of (is_row_due moment) things Looked o → IfSome o (λ slot. IsSome (thing_in things slot))
      go None best = tt
      go (Some slot) best = ap is_some best.stands

  come : (k : ℕ) (w : Row) → thing_in things k ≡ Some w → due_from w ≤ moment → Looked k
  come k w at past = inl (deadline_in near_of due_from w, kept.timed k ∙ ap (option_map (deadline_in near_of due_from)) at, past)

  pub own_alone : AllAreOwn moment things → IsFirstOrNone things moment own
  own_alone all = best_is_first things moment Looked own own_best (λ k w at due.
      record { slot = k; row = w; stands = at; due = due; seen = come k w at (all k w at due); low = omega arith })

  pub with_first : (slot : ℕ) → IsFirstBeside moment things slot → IsFirstOrNone things moment (better_of near_of (is_row_due moment) things own slot)
  with_first slot first =
      best_is_first things moment (λ k. Looked k ⊎ (k ≡ slot)) (better_of near_of (is_row_due moment) things own slot)
      (bettered near_of (is_row_due moment) things Looked (λ k. Looked k ⊎ (k ≡ slot)) slot first.row first.stands (λ k more. more) own own_best)
      (λ k w at due. ⊎_elim
      (λ past. record { slot = k; row = w; stands = at; due = due; seen = inl (come k w at past); low = omega arith })
      (λ low. record { slot = slot; row = first.row; stands = first.stands; due = first.due; seen = inr refl; low = low })
      (first.lowest k w at due))
