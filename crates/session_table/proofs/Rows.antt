-- The rows in their slots as the table of them.
use Rattle.std.proofs.Common.{ℕ, ◌≡◌, set, Option, Some, None, is_some, refl, sym, ap, ◌∙◌}
use Rattle.std.specs.Option.{option_map}
use Rattle.std.specs.FinMap.{get, insert, contains_key}
use Rattle.std.proofs.lemmas.Option.{none-some, same_Some}
use Rattle.deadlines.specs.Deadlines.{Slots}
use Rattle.keyed_slab.specs.declared.keys.Key.{Key}
use Rattle.keyed_slab.specs.Keys.{KeyTable}
use Rattle.keyed_slab.specs.KeyedSlab.{Seats, thing_at, with_thing}
use Rattle.keyed_slab.specs.Seating.{keyed_by}
use Rattle.keyed_slab.specs.SlotSet.{Flags}
use Rattle.keyed_slab.proofs.Named.{found_by, tells_key}
use Rattle.keyed_slab.proofs.Seated.{is_put, set_at}
use Rattle.endpoint_model.specs.declared.row.Row.{Row}
use Rattle.session_table.specs.declared.round.Round.{Round}
use Rattle.session_table.specs.Table.{near_of}
use Rattle.session_table.specs.Inside.{IsKept, rows_in, slot_of}

-- the row in the slot of a session ID
pub record IsThere (rows : Seats Row) (near slot : ℕ) : Type 0 where
  pub row : Row
  pub stands : thing_at rows slot ≡ Some row
  pub near_is : near_of row ≡ near

module _ {keys : KeyTable} {deadlines : Slots} {sending : Flags} {round : Round} (rows : Seats Row) (near : ℕ) (kept : IsKept rows keys deadlines sending round) where
  found_there : get (rows_in rows) near ≡ keyed_by rows.things (get keys near)
  found_there = found_by near_of rows.things rows.generations keys kept.seats.names near

  pub row_there : (slot : ℕ) → Some slot ≡ slot_of keys near → IsThere rows near slot
  row_there slot position = go (get keys near) refl
    where
      go : (o : Option Key) → get keys near ≡ o → IsThere rows near slot
      go None e = absurd (none-some slot (sym (position ∙ ap (option_map (λ (key : Key). key.slot)) e)))
      go (Some key) e =
          let seat = kept.seats.names.seated near key e in
          let at = same_Some slot key.slot (position ∙ ap (option_map (λ (key : Key). key.slot)) e) in
          record { row = seat.thing; stands = ap (thing_at rows) at ∙ seat.stands; near_is = seat.near_is }

  pub found_at : (slot : ℕ) (row : Row) → Some slot ≡ slot_of keys near → thing_at rows slot ≡ Some row → get (rows_in rows) near ≡ Some row
  found_at slot row position is = go (get keys near) refl
    where
      go : (o : Option Key) → get keys near ≡ o → get (rows_in rows) near ≡ Some row
      go None e = absurd (none-some slot (sym (position ∙ ap (option_map (λ (key : Key). key.slot)) e)))
      go (Some key) e =
          let at = same_Some slot key.slot (position ∙ ap (option_map (λ (key : Key). key.slot)) e) in
          found_there ∙ ap (keyed_by rows.things) e ∙ ap (thing_at rows) (sym at) ∙ is

  pub found_nowhere : None ≡ slot_of keys near → get (rows_in rows) near ≡ None
  found_nowhere position = go (get keys near) refl
    where
      go : (o : Option Key) → get keys near ≡ o → get (rows_in rows) near ≡ None
      go None e = found_there ∙ ap (keyed_by rows.things) e
      go (Some key) e = absurd (none-some key.slot (position ∙ ap (option_map (λ (key : Key). key.slot)) e))

  -- A session ID has a slot exactly where it is in the table.
  pub has_slot : is_some (slot_of keys near) ≡ contains_key (rows_in rows) near
  has_slot = is_there (get keys near) ∙ sym (tells_key near_of rows.things rows.generations keys kept.seats.names near)
    where
      is_there : (o : Option Key) → is_some (option_map (λ (key : Key). key.slot) o) ≡ is_some o
      is_there None = refl
      is_there (Some key) = refl

  -- no row has a session ID that has no slot
  pub no_key : None ≡ slot_of keys near → get keys near ≡ None
  no_key position = go (get keys near) refl
    where
      go : (o : Option Key) → get keys near ≡ o → get keys near ≡ None
      go None e = e
      go (Some key) e = absurd (none-some key.slot (position ∙ ap (option_map (λ (key : Key). key.slot)) e))

-- The rows are those with this one in the place of the one with its session ID.
pub put_at : {keys : KeyTable} {deadlines : Slots} {sending : Flags} {round : Round} (rows : Seats Row) (slot : ℕ) (old new : Row) → IsKept rows keys deadlines sending round → thing_at rows slot ≡ Some old → near_of new ≡ near_of old →
    rows_in (with_thing rows slot new) ≡ insert (rows_in rows) (near_of new) new
put_at {keys} rows slot old new kept at same = is_put near_of rows.things (set rows.things slot (Some new)) rows.generations keys slot kept.seats.names old new at same (set_at rows.things slot old new at)
