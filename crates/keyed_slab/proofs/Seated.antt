-- Keys, deadlines and set still name the same things once a thing comes, changes or goes.
use Rattle.std.proofs.Common.{ℕ, ◌≡◌, ◌≢◌, ◌<◌, ◌≤◌, List, [], length, set, Bool, false, Option, Some, None, refl, sym, ap, subst, ◌∙◌, arith, ⊎_elim}
use Rattle.std.specs.Option.{option_map}
use Rattle.std.specs.Ordering.{nat_cmp}
use Rattle.std.specs.FinMap.{empty, get, get-empty, insert, remove}
use Rattle.std.proofs.lemmas.Bool.{cases_eq}
use Rattle.std.proofs.lemmas.List.{length-set, get_or-set_same, get_or-set_other}
use Rattle.std.proofs.lemmas.Option.{none-some, same_Some}
use Rattle.rtmfp_base.proofs.Maps.{same_tables, get_inserted, get_beside, get_removed, get_left}
use Rattle.deadlines.specs.Deadlines.{Deadline, Slots, entry_of, deadline_set, deadline_cleared, IsFreeFor}
use Rattle.keyed_slab.specs.declared.keys.Key.{Key}
use Rattle.keyed_slab.specs.Keys.{KeyTable}
use Rattle.keyed_slab.specs.KeyedSlab.{generation_in, thing_in, IsChangedAt}
use Rattle.keyed_slab.specs.SlotSet.{Flags, flag_of}
use Rattle.keyed_slab.specs.Seating.{keyed_by, key_to, table_in, deadline_in, busy_in, IsSeat, IsNamed, IsKept, IsLoose}
use Rattle.keyed_slab.proofs.Placing.{within}
use Rattle.keyed_slab.proofs.Named.{found_by, in_slot, one_slot}

-- what stands in the slots once one has another thing
pub set_at : {X : Type 0} (things : List (Option X)) (slot : ℕ) (old new : X) → thing_in things slot ≡ Some old → IsChangedAt things (set things slot (Some new)) slot (Some new)
set_at things slot old new at = record {
  changed = get_or-set_same things slot (Some new) None (within things slot old at);
  others = λ k n. get_or-set_other things slot k (Some new) None n;
}

-- ---- one slot has something else

module _ {X : Type 0} (near_of : X → ℕ) (things new : List (Option X)) (generations : List ℕ) (keys : KeyTable) (slot : ℕ) (names : IsNamed near_of things generations keys) where
  -- a key of another near id is that of another slot
  elsewhere : (q : ℕ) (key : Key) (old : X) → thing_in things slot ≡ Some old → near_of old ≢ q → get keys q ≡ Some key → key.slot ≢ slot
  elsewhere q key old at n is same =
      let seat = names.seated q key is in
      n (sym (ap near_of (same_Some seat.thing old (sym seat.stands ∙ ap (thing_in things) same ∙ at))) ∙ seat.near_is)

  -- another thing with the same near id stands there
  module _ (old now : X) (at : thing_in things slot ≡ Some old) (same : near_of now ≡ near_of old) (change : IsChangedAt things new slot (Some now)) where
    stays_seated : (q : ℕ) (key : Key) → get keys q ≡ Some key → IsSeat near_of new generations q key
    stays_seated q key is =
        let seat = names.seated q key is in
        ⊎_elim
        (λ e.
        let here = same_Some seat.thing old (sym seat.stands ∙ ap (thing_in things) e ∙ at) in
        record { thing = now; stands = ap (thing_in new) e ∙ change.changed; near_is = same ∙ sym (ap near_of here) ∙ seat.near_is; generation = seat.generation })
        (λ n. record { thing = seat.thing; stands = change.others key.slot n ∙ seat.stands; near_is = seat.near_is; generation = seat.generation })
        (cases_eq key.slot slot)

    stays_keyed : (k : ℕ) (thing : X) → thing_in new k ≡ Some thing → get keys (near_of thing) ≡ Some (key_to generations k)
    stays_keyed k thing there = ⊎_elim
        (λ e.
        let here = same_Some now thing (sym change.changed ∙ ap (thing_in new) (sym e) ∙ there) in
        ap (get keys) (sym (ap near_of here) ∙ same) ∙ names.keyed slot old at ∙ ap (λ s. Some (key_to generations s)) (sym e))
        (λ n. names.keyed k thing (sym (change.others k n) ∙ there))
        (cases_eq k slot)

    pub stays_named : IsNamed near_of new generations keys
    stays_named = record { seated = stays_seated; keyed = stays_keyed }

    pub is_put : table_in near_of new ≡ insert (table_in near_of things) (near_of now) now
    is_put = same_tables _ _ (λ q. ⊎_elim
        (λ e. in_slot near_of new generations keys stays_named slot now q change.changed (sym e) ∙ sym (ap (get (insert (table_in near_of things) (near_of now) now)) e ∙ get_inserted (table_in near_of things) (near_of now) now))
        (λ n.
        found_by near_of new generations keys stays_named q ∙ beside q n (get keys q) refl ∙ sym (found_by near_of things generations keys names q)
        ∙ sym (get_beside (table_in near_of things) (near_of now) now q n))
        (cases_eq q (near_of now)))
      where
        beside : (q : ℕ) → q ≢ near_of now → (o : Option Key) → get keys q ≡ o → keyed_by new (get keys q) ≡ keyed_by things (get keys q)
        beside q n None e = ap (keyed_by new) e ∙ sym (ap (keyed_by things) e)
        beside q n (Some key) e =
            ap (keyed_by new) e ∙ change.others key.slot (elsewhere q key old at (λ is. n (sym is ∙ sym same)) e) ∙ sym (ap (keyed_by things) e)

  -- a thing comes, whose near id none has
  module _ (now : X) (more : KeyTable) (vacant : thing_in things slot ≡ None) (none : get keys (near_of now) ≡ None) (change : IsChangedAt things new slot (Some now))
      (put : more ≡ insert keys (near_of now) (key_to generations slot)) where
    far : (q : ℕ) (key : Key) → get keys q ≡ Some key → key.slot ≢ slot
    far q key is e = let seat = names.seated q key is in none-some seat.thing (sym vacant ∙ ap (thing_in things) (sym e) ∙ seat.stands)

    lone : (k : ℕ) (thing : X) → thing_in things k ≡ Some thing → near_of thing ≢ near_of now
    lone k thing at e = none-some (key_to generations k) (sym none ∙ ap (get keys) (sym e) ∙ names.keyed k thing at)

    there : get more (near_of now) ≡ Some (key_to generations slot)
    there = ap (λ (m : KeyTable). get m (near_of now)) put ∙ get_inserted keys (near_of now) (key_to generations slot)

    as_before : (q : ℕ) → q ≢ near_of now → get more q ≡ get keys q
    as_before q n = ap (λ (m : KeyTable). get m q) put ∙ get_beside keys (near_of now) (key_to generations slot) q n

    pub come_named : IsNamed near_of new generations more
    come_named = record {
      seated = λ q key is. ⊎_elim
          (λ e.
          let own = same_Some (key_to generations slot) key (sym there ∙ ap (get more) (sym e) ∙ is) in
          subst (λ k. IsSeat near_of new generations q k) own (record { thing = now; stands = change.changed; near_is = sym e; generation = refl }))
          (λ n.
          let before = sym (as_before q n) ∙ is in
          let seat = names.seated q key before in
          record { thing = seat.thing; stands = change.others key.slot (far q key before) ∙ seat.stands; near_is = seat.near_is; generation = seat.generation })
          (cases_eq q (near_of now));
      keyed = λ k thing at. ⊎_elim
          (λ e.
          let own = same_Some now thing (sym change.changed ∙ ap (thing_in new) (sym e) ∙ at) in
          ap (get more) (sym (ap near_of own)) ∙ there ∙ ap (λ s. Some (key_to generations s)) (sym e))
          (λ n.
          let before = sym (change.others k n) ∙ at in
          as_before (near_of thing) (lone k thing before) ∙ names.keyed k thing before)
          (cases_eq k slot);
    }

    pub come_put : table_in near_of new ≡ insert (table_in near_of things) (near_of now) now
    come_put = same_tables _ _ (λ q. ⊎_elim
        (λ e. in_slot near_of new generations more come_named slot now q change.changed (sym e) ∙ sym (ap (get (insert (table_in near_of things) (near_of now) now)) e ∙ get_inserted (table_in near_of things) (near_of now) now))
        (λ n.
        found_by near_of new generations more come_named q ∙ ap (keyed_by new) (as_before q n) ∙ beside q (get keys q) refl ∙ sym (found_by near_of things generations keys names q)
        ∙ sym (get_beside (table_in near_of things) (near_of now) now q n))
        (cases_eq q (near_of now)))
      where
        beside : (q : ℕ) → (o : Option Key) → get keys q ≡ o → keyed_by new (get keys q) ≡ keyed_by things (get keys q)
        beside q None e = ap (keyed_by new) e ∙ sym (ap (keyed_by things) e)
        beside q (Some key) e = ap (keyed_by new) e ∙ change.others key.slot (far q key e) ∙ sym (ap (keyed_by things) e)

  -- the thing goes
  module _ (old : X) (fewer : KeyTable) (risen : List ℕ) (at : thing_in things slot ≡ Some old) (change : IsChangedAt things new slot None)
      (aside : (k : ℕ) → k ≢ slot → generation_in risen k ≡ generation_in generations k) (left : fewer ≡ remove keys (near_of old)) where
    gone : get fewer (near_of old) ≡ None
    gone = ap (λ (m : KeyTable). get m (near_of old)) left ∙ get_removed keys (near_of old)

    still : (q : ℕ) → q ≢ near_of old → get fewer q ≡ get keys q
    still q n = ap (λ (m : KeyTable). get m q) left ∙ get_left keys (near_of old) q n

    others : (k : ℕ) (thing : X) → thing_in new k ≡ Some thing → k ≢ slot
    others k thing there e = none-some thing (sym change.changed ∙ ap (thing_in new) (sym e) ∙ there)

    pub left_named : IsNamed near_of new risen fewer
    left_named = record {
      seated = λ q key is. ⊎_elim
          (λ e. absurd (none-some key (sym gone ∙ ap (get fewer) (sym e) ∙ is)))
          (λ n.
          let before = sym (still q n) ∙ is in
          let seat = names.seated q key before in
          let far = elsewhere q key old at (λ e. n (sym e)) before in
          record { thing = seat.thing; stands = change.others key.slot far ∙ seat.stands; near_is = seat.near_is; generation = aside key.slot far ∙ seat.generation })
          (cases_eq q (near_of old));
      keyed = λ k thing there.
          let n = others k thing there in
          let before = sym (change.others k n) ∙ there in
          still (near_of thing) (λ e. n (one_slot near_of things generations keys names k slot thing old before at e)) ∙ names.keyed k thing before
          ∙ ap (λ g. Some (record { slot = k; generation = g })) (sym (aside k n));
    }

    pub is_left : table_in near_of new ≡ remove (table_in near_of things) (near_of old)
    is_left = same_tables _ _ (λ q. ⊎_elim
        (λ e. found_by near_of new risen fewer left_named q ∙ ap (keyed_by new) (ap (get fewer) e ∙ gone) ∙ sym (ap (get (remove (table_in near_of things) (near_of old))) e ∙ get_removed (table_in near_of things) (near_of old)))
        (λ n.
        found_by near_of new risen fewer left_named q ∙ ap (keyed_by new) (still q n) ∙ beside q n (get keys q) refl ∙ sym (found_by near_of things generations keys names q)
        ∙ sym (get_left (table_in near_of things) (near_of old) q n))
        (cases_eq q (near_of old)))
      where
        beside : (q : ℕ) → q ≢ near_of old → (o : Option Key) → get keys q ≡ o → keyed_by new (get keys q) ≡ keyed_by things (get keys q)
        beside q n None e = ap (keyed_by new) e ∙ sym (ap (keyed_by things) e)
        beside q n (Some key) e = ap (keyed_by new) e ∙ change.others key.slot (elsewhere q key old at (λ is. n (sym is)) e) ∙ sym (ap (keyed_by things) e)

-- ---- deadlines and set besides

module _ {X : Type 0} (near_of at_of : X → ℕ) (is_busy : X → Bool) (things : List (Option X)) (generations : List ℕ) (keys : KeyTable) (deadlines : Slots) (flags : Flags) where
  abbrev Kept : Type 0
  Kept = IsKept near_of at_of is_busy things generations keys deadlines flags

  -- where something has a deadline there is room for it
  pub timer_there : Kept → (slot : ℕ) (thing : X) → thing_in things slot ≡ Some thing → slot < length deadlines
  timer_there kept slot thing at = within deadlines slot (deadline_in near_of at_of thing) (kept.timed slot ∙ ap (option_map (deadline_in near_of at_of)) at)

  room_at : (new : List (Option X)) (slot : ℕ) (now : Option X) → IsChangedAt things new slot now → slot < length flags → ((k : ℕ) (thing : X) → thing_in things k ≡ Some thing → k < length flags) →
      (k : ℕ) (thing : X) → thing_in new k ≡ Some thing → k < length flags
  room_at new slot now change inside room k thing at = ⊎_elim
      (λ e. subst (λ j. j < length flags) (sym e) inside)
      (λ n. room k thing (sym (change.others k n) ∙ at))
      (cases_eq k slot)

  -- a slot has another thing, and all else is as it was
  pub comes_loose : (new : List (Option X)) (more : KeyTable) (slot : ℕ) (now : X) → Kept → IsNamed near_of new generations more → IsChangedAt things new slot (Some now) → slot < length flags → slot < length deadlines →
      IsLoose near_of at_of is_busy new generations more deadlines flags slot
  comes_loose new more slot now kept names change inside timer = record {
    names = names;
    timed = λ k n. kept.timed k ∙ ap (option_map (deadline_in near_of at_of)) (sym (change.others k n));
    marked = λ k n. kept.marked k ∙ ap (busy_in near_of at_of is_busy) (sym (change.others k n));
    room = room_at new slot (Some now) change inside kept.room;
    stands = (now, change.changed);
    timer = timer;
  }

  pub set_loose : (slot : ℕ) (old new : X) → Kept → thing_in things slot ≡ Some old → near_of new ≡ near_of old → IsLoose near_of at_of is_busy (set things slot (Some new)) generations keys deadlines flags slot
  set_loose slot old new kept at same =
      comes_loose (set things slot (Some new)) keys slot new kept (stays_named near_of things (set things slot (Some new)) generations keys slot kept.names old new at same (set_at things slot old new at)) (set_at things slot old new at)
      (kept.room slot old at) (timer_there kept slot old at)

  -- ---- the deadline and the mark of one slot are set anew

  module _ (slot : ℕ) (thing : X) (loose : IsLoose near_of at_of is_busy things generations keys deadlines flags slot) (at : thing_in things slot ≡ Some thing) where
    -- no other slot's deadline has the near id
    pub free_there : IsFreeFor deadlines slot (near_of thing)
    free_there other d n is same = go (thing_in things other) refl
      where
        go : (o : Option X) → thing_in things other ≡ o → ⊥
        go None e = none-some d (sym (loose.timed other n ∙ ap (option_map (deadline_in near_of at_of)) e) ∙ is)
        go (Some stands) e =
            let own = same_Some d (deadline_in near_of at_of stands) (sym is ∙ loose.timed other n ∙ ap (option_map (deadline_in near_of at_of)) e) in
            n (one_slot near_of things generations keys loose.names other slot stands thing e at (sym (ap (λ (z : Deadline). z.near) own) ∙ same))

    pub settled : IsKept near_of at_of is_busy things generations keys (deadline_set deadlines slot (at_of thing) (near_of thing)) (set flags slot (is_busy thing))
    settled = record {
      names = loose.names;
      timed = λ k. ⊎_elim
          (λ e.
          ap (entry_of (deadline_set deadlines slot (at_of thing) (near_of thing))) e ∙ get_or-set_same deadlines slot (Some (deadline_in near_of at_of thing)) None loose.timer
          ∙ sym (ap (option_map (deadline_in near_of at_of)) (ap (thing_in things) e ∙ at)))
          (λ n. get_or-set_other deadlines slot k (Some (deadline_in near_of at_of thing)) None n ∙ loose.timed k n)
          (cases_eq k slot);
      marked = λ k. ⊎_elim
          (λ e.
          ap (flag_of (set flags slot (is_busy thing))) e ∙ get_or-set_same flags slot (is_busy thing) false (loose.room slot thing at)
          ∙ sym (ap (busy_in near_of at_of is_busy) (ap (thing_in things) e ∙ at)))
          (λ n. get_or-set_other flags slot k (is_busy thing) false n ∙ loose.marked k n)
          (cases_eq k slot);
      room = λ k other there. subst (λ n. k < n) (sym (length-set flags slot (is_busy thing))) (loose.room k other there);
    }

  -- ---- what stands in one slot goes

  pub left_kept : (new : List (Option X)) (fewer : KeyTable) (risen : List ℕ) (slot : ℕ) (old : X) → Kept → thing_in things slot ≡ Some old → IsChangedAt things new slot None →
      ((k : ℕ) → k ≢ slot → generation_in risen k ≡ generation_in generations k) → fewer ≡ remove keys (near_of old) →
      IsKept near_of at_of is_busy new risen fewer (deadline_cleared deadlines slot) (set flags slot false)
  left_kept new fewer risen slot old kept at change aside left = record {
    names = left_named near_of things new generations keys slot kept.names old fewer risen at change aside left;
    timed = λ k. ⊎_elim
        (λ e.
        ap (entry_of (deadline_cleared deadlines slot)) e ∙ get_or-set_same deadlines slot None None (timer_there kept slot old at)
        ∙ sym (ap (option_map (deadline_in near_of at_of)) (ap (thing_in new) e ∙ change.changed)))
        (λ n. get_or-set_other deadlines slot k None None n ∙ kept.timed k ∙ ap (option_map (deadline_in near_of at_of)) (sym (change.others k n)))
        (cases_eq k slot);
    marked = λ k. ⊎_elim
        (λ e.
        ap (flag_of (set flags slot false)) e ∙ get_or-set_same flags slot false false (kept.room slot old at)
        ∙ sym (ap (busy_in near_of at_of is_busy) (ap (thing_in new) e ∙ change.changed)))
        (λ n. get_or-set_other flags slot k false false n ∙ kept.marked k ∙ ap (busy_in near_of at_of is_busy) (sym (change.others k n)))
        (cases_eq k slot);
    room = λ k thing there. subst (λ n. k < n) (sym (length-set flags slot false)) (room_at new slot None change (kept.room slot old at) kept.room k thing there);
  }

  -- ---- there is more room

  wider_named : (wider : List ℕ) → ((k : ℕ) → generation_in wider k ≡ generation_in generations k) → IsNamed near_of things generations keys → IsNamed near_of things wider keys
  wider_named wider as_before names = record {
    seated = λ q key is. let seat = names.seated q key is in
        record { thing = seat.thing; stands = seat.stands; near_is = seat.near_is; generation = as_before key.slot ∙ seat.generation };
    keyed = λ k thing at. names.keyed k thing at ∙ ap (λ g. Some (record { slot = k; generation = g })) (sym (as_before k));
  }

  pub wider_kept : (same : List (Option X)) (wider : List ℕ) (more : KeyTable) (timers : Slots) (marks : Flags) → Kept → same ≡ things → ((k : ℕ) → generation_in wider k ≡ generation_in generations k) → more ≡ keys →
      ((k : ℕ) → entry_of timers k ≡ entry_of deadlines k) → ((k : ℕ) → flag_of marks k ≡ flag_of flags k) → length flags ≤ length marks → IsKept near_of at_of is_busy same wider more timers marks
  wider_kept same wider more timers marks kept same_things as_before same_keys same_timers same_marks grown =
      subst (λ t. IsKept near_of at_of is_busy t wider more timers marks) (sym same_things) (subst (λ k. IsKept near_of at_of is_busy things wider k timers marks) (sym same_keys) here)
    where
      here : IsKept near_of at_of is_busy things wider keys timers marks
      here = record {
        names = wider_named wider as_before kept.names;
        timed = λ k. same_timers k ∙ kept.timed k;
        marked = λ k. same_marks k ∙ kept.marked k;
        room = λ k thing at. let l = kept.room k thing at in omega (arith, l, grown);
      }

-- ---- there is nothing at first

module _ {X : Type 0} (near_of at_of : X → ℕ) (is_busy : X → Bool) (things : List (Option X)) (generations : List ℕ) (keys : KeyTable) (deadlines : Slots) (flags : Flags) (no_things : things ≡ []) (no_keys : keys ≡ empty) where
  nothing_at : (slot : ℕ) → thing_in things slot ≡ None
  nothing_at slot = ap (λ (t : List (Option X)). thing_in t slot) no_things

  pub none_kept : deadlines ≡ [] → flags ≡ [] → IsKept near_of at_of is_busy things generations keys deadlines flags
  none_kept no_deadlines no_flags = record {
    names = record {
      seated = λ near key is. absurd (none-some key (sym (ap (λ (m : KeyTable). get m near) no_keys ∙ get-empty nat_cmp near) ∙ is));
      keyed = λ slot thing at. absurd (none-some thing (sym (nothing_at slot) ∙ at));
    };
    timed = λ slot. ap (λ (d : Slots). entry_of d slot) no_deadlines ∙ sym (ap (option_map (deadline_in near_of at_of)) (nothing_at slot));
    marked = λ slot. ap (λ (f : Flags). flag_of f slot) no_flags ∙ sym (ap (busy_in near_of at_of is_busy) (nothing_at slot));
    room = λ slot thing at. absurd (none-some thing (sym (nothing_at slot) ∙ at));
  }
