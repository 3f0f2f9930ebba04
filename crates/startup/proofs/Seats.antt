-- The attempts in their slots by near ids: what is found there, and what the change of one slot leaves.
use Rattle.std.proofs.Common.{ℕ, ◌≡◌, ◌≢◌, ◌&&◌, Bool, true, false, cond, nat_le, nat_lt, List, [], ◌∷◌, map, set, length, length-append, replicate, ◌-◌, ◌<◌, ◌≤◌, ◌==◌, if◌then◌else◌, Option, Some, None, is_some, refl, sym, ap, subst, ◌∙◌, arith, eq-eqb, ⊎_elim}
use Rattle.std.specs.Option.{option_map}
use Rattle.std.specs.Ordering.{nat_cmp, eq_by_cmp}
use Rattle.std.specs.Cmp.{nat_cmp_total}
use Rattle.std.specs.FinMap.{FinMap, empty, get, insert, remove, len, get-from_entries}
use Rattle.std.specs.FinMap as fin
use Rattle.std.proofs.lemmas.Bool.{cases_eq}
use Rattle.std.proofs.lemmas.Bool.Decides.{nat_tests}
use Rattle.std.proofs.lemmas.List.{length-map, map-set}
use Rattle.std.proofs.lemmas.Option.{none-some, same_Some}
use Rattle.std.proofs.Math.ListN.{get_or-map}
use Rattle.rtmfp_base.proofs.Maps.{same_tables, get_inserted, get_beside, get_removed, get_left}
use Rattle.deadlines.specs.Deadlines.{Deadline, Slots, entry_of, with_room, deadline_set, deadline_cleared, IsFreeFor}
use Rattle.keyed_slab.specs.declared.keys.Key.{Key}
use Rattle.keyed_slab.specs.Keys.{KeyTable, KeyMap}
use Rattle.keyed_slab.specs.KeyedSlab.{Seats, generation_at, thing_at, named, with_thing, IsChangedAt}
use Rattle.keyed_slab.specs.SlotSet.{flag_of}
use Rattle.keyed_slab.specs.Seating.{present, keyed_by, key_to, table_in, deadline_in, IsSeat, IsNamed}
use Rattle.keyed_slab.specs.Seating as seating
use Rattle.keyed_slab.proofs.Named.{found_by, as_many_keys, same_len}
use Rattle.keyed_slab.proofs.Seated.{come_named, come_put, comes_loose, free_there, is_left, is_put, left_kept, none_kept, set_at, set_loose, settled, wider_kept}
use Rattle.startup.specs.declared.attempt.Row.{Row}
use Rattle.startup.specs.State.{AttemptState}
use Rattle.startup.specs.Table.{near_of, attempt_of, row_entry, attempts_in, row_due_from, is_in, unflagged, no_flags, is_ready, IsKept, IsLoose}

-- ---- the attempts by near ids

same_found : (q : ℕ) (rows : List Row) → fin.find nat_cmp q (map row_entry rows) ≡ option_map attempt_of (fin.find nat_cmp q (map (λ (row : Row). (near_of row, row)) rows))
same_found q [] = refl
same_found q (row ∷ rows) = either_way (eq_by_cmp nat_cmp q row.near) (same_found q rows)
  where
    either_way : (b : Bool) → fin.find nat_cmp q (map row_entry rows) ≡ option_map attempt_of (fin.find nat_cmp q (map (λ (row : Row). (near_of row, row)) rows)) →
        cond b (Some row.attempt) (fin.find nat_cmp q (map row_entry rows)) ≡ option_map attempt_of (cond b (Some row) (fin.find nat_cmp q (map (λ (row : Row). (near_of row, row)) rows)))
    either_way true rest = refl
    either_way false rest = rest

-- what is found under a near id is the attempt of the row there
get_attempt : (rows : Seats Row) (q : ℕ) → get (attempts_in rows) q ≡ option_map attempt_of (get (table_in near_of rows.things) q)
get_attempt rows q =
    get-from_entries nat_cmp_total (map row_entry (present rows.things)) q ∙ same_found q (present rows.things)
    ∙ sym (ap (option_map attempt_of) (get-from_entries nat_cmp_total (map (λ (row : Row). (near_of row, row)) (present rows.things)) q))

as_many : (rows : Seats Row) → len (attempts_in rows) ≡ len (table_in near_of rows.things)
as_many rows = same_len (attempts_in rows) (table_in near_of rows.things) (λ q. ap is_some (get_attempt rows q) ∙ is_there (get (table_in near_of rows.things) q))
  where
    is_there : (o : Option Row) → is_some (option_map attempt_of o) ≡ is_some o
    is_there None = refl
    is_there (Some row) = refl

-- a row is put, or goes
pub put_attempt : (old new : Seats Row) (row : Row) → table_in near_of new.things ≡ insert (table_in near_of old.things) row.near row → attempts_in new ≡ insert (attempts_in old) row.near row.attempt
put_attempt old new row put = same_tables (attempts_in new) (insert (attempts_in old) row.near row.attempt) (λ q.
    get_attempt new q ∙ ap (λ (m : FinMap nat_cmp Row). option_map attempt_of (get m q)) put ∙ ⊎_elim
    (λ e.
    ap (λ k. option_map attempt_of (get (insert (table_in near_of old.things) row.near row) k)) e ∙ ap (option_map attempt_of) (get_inserted (table_in near_of old.things) row.near row)
    ∙ sym (ap (get (insert (attempts_in old) row.near row.attempt)) e ∙ get_inserted (attempts_in old) row.near row.attempt))
    (λ n.
    ap (option_map attempt_of) (get_beside (table_in near_of old.things) row.near row q n) ∙ sym (get_attempt old q) ∙ sym (get_beside (attempts_in old) row.near row.attempt q n))
    (cases_eq q row.near))

pub left_attempt : (old new : Seats Row) (near : ℕ) → table_in near_of new.things ≡ remove (table_in near_of old.things) near → attempts_in new ≡ remove (attempts_in old) near
left_attempt old new near left = same_tables (attempts_in new) (remove (attempts_in old) near) (λ q.
    get_attempt new q ∙ ap (λ (m : FinMap nat_cmp Row). option_map attempt_of (get m q)) left ∙ ⊎_elim
    (λ e.
    ap (λ k. option_map attempt_of (get (remove (table_in near_of old.things) near) k)) e ∙ ap (option_map attempt_of) (get_removed (table_in near_of old.things) near)
    ∙ sym (ap (get (remove (attempts_in old) near)) e ∙ get_removed (attempts_in old) near))
    (λ n.
    ap (option_map attempt_of) (get_left (table_in near_of old.things) near q n) ∙ sym (get_attempt old q) ∙ sym (get_left (attempts_in old) near q n))
    (cases_eq q near))

-- ---- by keys

is_itself : (n : ℕ) → (n == n) ≡ true
is_itself n = eq-eqb n n refl

-- the key of a near id, and the row under it
pub record Seated (rows : Seats Row) (keys : KeyTable) (near : ℕ) : Type 0 where
  pub key : Key
  pub key_is : get keys near ≡ Some key
  pub seat : IsSeat near_of rows.things rows.generations near key

module _ (rows : Seats Row) (keys : KeyTable) (names : IsNamed near_of rows.things rows.generations keys) where
  get_by_key : (q : ℕ) → get (attempts_in rows) q ≡ option_map attempt_of (keyed_by rows.things (get keys q))
  get_by_key q = get_attempt rows q ∙ ap (option_map attempt_of) (found_by near_of rows.things rows.generations keys names q)

  -- there are as many attempts as keys
  pub len_attempts : len (attempts_in rows) ≡ len keys
  len_attempts = as_many rows ∙ as_many_keys near_of rows.things rows.generations keys names

  pub of_key : (near : ℕ) (key : Key) (row : Row) → get keys near ≡ Some key → thing_at rows key.slot ≡ Some row → get (attempts_in rows) near ≡ Some row.attempt
  of_key near key row is at = get_by_key near ∙ ap (λ o. option_map attempt_of (keyed_by rows.things o)) is ∙ ap (option_map attempt_of) at

  pub in_slot : (slot : ℕ) (row : Row) → thing_at rows slot ≡ Some row → get (attempts_in rows) row.near ≡ Some row.attempt
  in_slot slot row at = of_key row.near (record { slot = slot; generation = generation_at rows slot }) row (names.keyed slot row at) at

  pub of_no_key : (near : ℕ) → get keys near ≡ None → get (attempts_in rows) near ≡ None
  of_no_key near none = get_by_key near ∙ ap (λ o. option_map attempt_of (keyed_by rows.things o)) none

  pub no_key : (near : ℕ) → get (attempts_in rows) near ≡ None → get keys near ≡ None
  no_key near is = go (get keys near) refl
    where
      go : (o : Option Key) → get keys near ≡ o → get keys near ≡ None
      go None e = e
      go (Some key) e = let seat = names.seated near key e in absurd (none-some seat.thing.attempt (sym is ∙ of_key near key seat.thing e seat.stands))

  pub seat_of : (near : ℕ) (a : AttemptState) → get (attempts_in rows) near ≡ Some a → Seated rows keys near
  seat_of near a is = go (get keys near) refl
    where
      go : (o : Option Key) → get keys near ≡ o → Seated rows keys near
      go None e = absurd (none-some a (sym (of_no_key near e) ∙ is))
      go (Some key) e = record { key = key; key_is = e; seat = names.seated near key e }

  module _ (near : ℕ) (key : Key) (key_is : get keys near ≡ Some key) where
    named_seat : named rows key ≡ Some (names.seated near key key_is).thing
    named_seat =
        let seat = names.seated near key key_is in
        ap (λ g. if g == key.generation then thing_at rows key.slot else None) seat.generation
        ∙ ap (λ b. if b then thing_at rows key.slot else None) (is_itself key.generation) ∙ seat.stands

    -- what the key of a near id names is the attempt under it
    pub named_is : (row : Row) → Some row ≡ named rows key → Some row.attempt ≡ get (attempts_in rows) near
    named_is row is =
        let seat = names.seated near key key_is in
        ap (λ (r : Row). Some r.attempt) (same_Some row seat.thing (is ∙ named_seat)) ∙ sym (of_key near key seat.thing key_is seat.stands)

    pub never_unnamed : None ≡ named rows key → ⊥
    never_unnamed none = none-some (names.seated near key key_is).thing (none ∙ named_seat)

-- ---- one slot changes

-- no slot is in a set, whatever deadline it has
still_no_flags : (deadlines : Slots) (slot : ℕ) (entry : Option Deadline) → set (no_flags deadlines) slot false ≡ no_flags (set deadlines slot entry)
still_no_flags deadlines slot entry = sym (map-set unflagged deadlines slot entry)

pub no_flag : (deadlines : Slots) (slot : ℕ) → flag_of (no_flags deadlines) slot ≡ false
no_flag deadlines slot = get_or-map unflagged deadlines slot None

flagged_room : (deadlines : Slots) → length (no_flags deadlines) ≡ length deadlines
flagged_room deadlines = length-map deadlines unflagged

pub none_is_kept : (rows : Seats Row) (keys : KeyTable) (deadlines : Slots) → rows.things ≡ [] → keys ≡ empty → deadlines ≡ [] → IsKept rows keys deadlines
none_is_kept rows keys deadlines no_things no_keys no_deadlines =
    none_kept near_of row_due_from is_in rows.things rows.generations keys deadlines (no_flags deadlines) no_things no_keys no_deadlines (ap no_flags no_deadlines)

pub grown_room : (deadlines : Slots) (room : ℕ) → length deadlines ≤ length (with_room deadlines room)
grown_room deadlines room = let long = length-append deadlines (replicate (room - length deadlines) None) in omega (arith, long)

-- there is more room
pub wider_is_kept : (rows wide : Seats Row) (keys more : KeyTable) (deadlines timers : Slots) → IsKept rows keys deadlines → wide.things ≡ rows.things → ((k : ℕ) → generation_at wide k ≡ generation_at rows k) → more ≡ keys →
    ((k : ℕ) → entry_of timers k ≡ entry_of deadlines k) → length deadlines ≤ length timers → IsKept wide more timers
wider_is_kept rows wide keys more deadlines timers kept things generations same_keys entries grown =
    wider_kept near_of row_due_from is_in rows.things rows.generations keys deadlines (no_flags deadlines) wide.things wide.generations more timers (no_flags timers) kept things generations same_keys entries
    (λ k. no_flag timers k ∙ sym (no_flag deadlines k)) (let a = flagged_room deadlines in let b = flagged_room timers in omega (arith, a, b, grown))

module _ (rows : Seats Row) (keys : KeyTable) (deadlines : Slots) (slot : ℕ) where
  -- its deadline is set anew
  module _ (row : Row) (loose : IsLoose rows keys deadlines slot) (at : thing_at rows slot ≡ Some row) where
    pub free_for : IsFreeFor deadlines slot row.near
    free_for = free_there near_of row_due_from is_in rows.things rows.generations keys deadlines (no_flags deadlines) slot row loose at

    pub settled_kept : (at_last near : ℕ) (timers : Slots) → timers ≡ deadline_set deadlines slot at_last near → at_last ≡ row_due_from row → near ≡ row.near → IsKept rows keys timers
    settled_kept at_last near timers set_there moment near_is =
        subst (IsKept rows keys) (sym (set_there ∙ (λ i. deadline_set deadlines slot (moment i) (near_is i))))
        (subst (seating.IsKept near_of row_due_from is_in rows.things rows.generations keys (deadline_set deadlines slot (row_due_from row) row.near)) (still_no_flags deadlines slot (Some (deadline_in near_of row_due_from row)))
        (settled near_of row_due_from is_in rows.things rows.generations keys deadlines (no_flags deadlines) slot row loose at))

  module _ (kept : IsKept rows keys deadlines) where
    -- an attempt comes
    module _ (new : Seats Row) (more : KeyTable) (row : Row) (none : get keys row.near ≡ None) (vacant : thing_at rows slot ≡ None) (change : IsChangedAt rows.things new.things slot (Some row))
        (put : more ≡ insert keys row.near (key_to rows.generations slot)) where
      pub come_loose : new.generations ≡ rows.generations → rows.room ≤ length deadlines → slot < rows.room → IsLoose new more deadlines slot
      come_loose generations room below =
          let long = flagged_room deadlines in
          subst (λ (g : List ℕ). seating.IsLoose near_of row_due_from is_in new.things g more deadlines (no_flags deadlines) slot) (sym generations)
          (comes_loose near_of row_due_from is_in rows.things rows.generations keys deadlines (no_flags deadlines) new.things more slot row kept
          (come_named near_of rows.things new.things rows.generations keys slot kept.names row more vacant none change put) change (omega (arith, long, room, below)) (omega (arith, room, below)))

      pub come_is_put : attempts_in new ≡ insert (attempts_in rows) row.near row.attempt
      come_is_put = put_attempt rows new row (come_put near_of rows.things new.things rows.generations keys slot kept.names row more vacant none change put)

    -- the attempt in it changes
    module _ (old row : Row) (at : thing_at rows slot ≡ Some old) (same : row.near ≡ old.near) where
      pub changed_loose : IsLoose (with_thing rows slot row) keys deadlines slot
      changed_loose = set_loose near_of row_due_from is_in rows.things rows.generations keys deadlines (no_flags deadlines) slot old row kept at same

      pub changed_there : thing_at (with_thing rows slot row) slot ≡ Some row
      changed_there = (set_at rows.things slot old row at).changed

      pub changed_is_put : attempts_in (with_thing rows slot row) ≡ insert (attempts_in rows) row.near row.attempt
      changed_is_put =
          put_attempt rows (with_thing rows slot row) row (is_put near_of rows.things (set rows.things slot (Some row)) rows.generations keys slot kept.names old row at same (set_at rows.things slot old row at))

    -- the attempt in it goes
    module _ (new : Seats Row) (fewer : KeyTable) (old : Row) (near : ℕ) (at : thing_at rows slot ≡ Some old) (near_is : old.near ≡ near) (change : IsChangedAt rows.things new.things slot None)
        (aside : (k : ℕ) → k ≢ slot → generation_at new k ≡ generation_at rows k) (left : fewer ≡ remove keys near) where
      left_own : fewer ≡ remove keys old.near
      left_own = left ∙ ap (remove keys) (sym near_is)

      pub gone_kept : IsKept new fewer (deadline_cleared deadlines slot)
      gone_kept =
          subst (seating.IsKept near_of row_due_from is_in new.things new.generations fewer (deadline_cleared deadlines slot)) (still_no_flags deadlines slot None)
          (left_kept near_of row_due_from is_in rows.things rows.generations keys deadlines (no_flags deadlines) new.things fewer new.generations slot old kept at change aside left_own)

      pub gone_is_left : attempts_in new ≡ remove (attempts_in rows) near
      gone_is_left =
          left_attempt rows new near (is_left near_of rows.things new.things rows.generations keys slot kept.names old fewer new.generations at change aside left_own ∙ ap (remove (table_in near_of rows.things)) near_is)

-- ---- room for one more

first_of : (a b : Bool) → (a && b) ≡ true → a ≡ true
first_of true b h = refl
first_of false b h = h

second_of : (a b : Bool) → (a && b) ≡ true → b ≡ true
second_of true b h = h
second_of false b h = absurd (let clash : false ≡ true = h in cc)

not_above : (a b : ℕ) → nat_le a b ≡ true → a ≤ b
not_above a b t = grind (arith, nat_tests)

-- where one more attempt takes no memory, its slot has a deadline's place
pub ready_inside : (rows : Seats Row) (keys : KeyMap) (deadlines : Slots) → is_ready rows keys deadlines ≡ true → rows.room ≤ length deadlines
ready_inside rows keys deadlines ready =
    not_above rows.room (length deadlines) (second_of (nat_lt 0 rows.free) (nat_le rows.room (length deadlines)) (second_of (nat_lt 0 keys.spare) (nat_lt 0 rows.free && nat_le rows.room (length deadlines)) ready))
