-- One row is changed.
use Rattle.std.proofs.Common.{ℕ, ◌≡◌, ◌+◌, List, length, nat_lt, set, Bool, true, false, if◌then◌else◌, Option, Some, None, refl, sym, ap, ◌∙◌}
use Rattle.std.specs.FinMap.{insert}
use Rattle.session_core.specs.declared.stage.Stage.TheVariants.{NearClose, FarLinger}
use Rattle.session_core.specs.declared.stage.SessionDue.{SessionDue}
use Rattle.session_core.specs.declared.stage.SessionDue.TheVariants.{Unconfirmed, Idle, Over, RepeatClose}
use Rattle.session_core.specs.Session.{SessionState}
use Rattle.session_core.specs.Sealed.{after_seal, is_spent}
use Rattle.session_core.specs.Closing.{is_held, closed_near, asked_to_close, after_due, needs_keepalive, kept_alive}
use Rattle.endpoint_model.specs.declared.row.Row.{Row}
use Rattle.std.proofs.lemmas.Option.{same_Some}
use Rattle.deadlines.specs.Deadlines.{Slots}
use Rattle.keyed_slab.specs.Keys.{KeyTable}
use Rattle.keyed_slab.specs.KeyedSlab.{Seats, thing_at, with_thing}
use Rattle.keyed_slab.specs.SlotSet.{Flags}
use Rattle.keyed_slab.proofs.Seated.{set_at, set_loose}
use Rattle.session_table.specs.declared.round.Round.{Round}
use Rattle.endpoint_model.specs.Sending.{has_counts}
use Rattle.session_table.specs.Table.{near_of, with_changed, in_row, of_session, after_packed, packet_counted}
use Rattle.session_table.specs.Inside.{IsKept, IsLoose, due_from, rows_in, may_be_due_of, slot_of}
use Rattle.session_table.proofs.Rounds.{beside_awaits}
use Rattle.session_table.proofs.Rows.{row_there, put_at, found_at, found_nowhere}

pub record IsChanged (change : Row → Row) (rows : Seats Row) (keys : KeyTable) (deadlines : Slots) (sending : Flags) (round : Round) (near slot : ℕ) (new : Row) : Type 0 where
  pub table : rows_in (with_thing rows slot new) ≡ in_row change (rows_in rows) near
  pub loose : IsLoose (with_thing rows slot new) keys deadlines sending round slot

-- Where it stays under its session ID, the row in the slot alone isn't told of yet.
pub row_set_loose : {keys : KeyTable} {deadlines : Slots} {sending : Flags} {round : Round} (rows : Seats Row) (slot : ℕ) (old new : Row) → IsKept rows keys deadlines sending round → thing_at rows slot ≡ Some old →
    near_of new ≡ near_of old → IsLoose (with_thing rows slot new) keys deadlines sending round slot
row_set_loose {keys} {deadlines} {sending} {round} rows slot old new kept is stays = record {
  seats = set_loose near_of due_from may_be_due_of rows.things rows.generations keys deadlines sending slot old new kept.seats is stays;
  rises = kept.rises;
  awaits = beside_awaits rows.things (set rows.things slot (Some new)) slot (Some new) round (set_at rows.things slot old new is) kept.awaits;
}

-- the row in the slot of a session ID, which stays
pub changed_at : {keys : KeyTable} {deadlines : Slots} {sending : Flags} {round : Round} (change : Row → Row) (rows : Seats Row) (near slot : ℕ) (old new : Row) → IsKept rows keys deadlines sending round → Some slot ≡ slot_of keys near →
    thing_at rows slot ≡ Some old → new ≡ change old → near_of (change old) ≡ near_of old → IsChanged change rows keys deadlines sending round near slot new
changed_at {keys} {deadlines} {sending} change rows near slot old new kept position is made same =
    let there = row_there rows near kept slot position in
    let stays : near_of new ≡ near_of old = ap near_of made ∙ same in
    let id : near_of new ≡ near = stays ∙ ap near_of (same_Some old there.row (sym is ∙ there.stands)) ∙ there.near_is in
    record {
      table = put_at rows slot old new kept is stays ∙ ap (λ (k : ℕ). insert (rows_in rows) k new) id ∙ ap (insert (rows_in rows) near) made
          ∙ sym (ap (with_changed change (rows_in rows) near) (found_at rows near kept slot old position is));
      loose = row_set_loose rows slot old new kept is stays;
    }

-- the same of the session in it
pub session_changed : {keys : KeyTable} {deadlines : Slots} {sending : Flags} {round : Round} (change : SessionState → SessionState) (rows : Seats Row) (near slot : ℕ) (old : Row) (new : SessionState) → IsKept rows keys deadlines sending round →
    Some slot ≡ slot_of keys near → thing_at rows slot ≡ Some old → new ≡ change old.session → (change old.session).joined.near ≡ old.session.joined.near →
    IsChanged (of_session change) rows keys deadlines sending round near slot (record old { session = new })
session_changed change rows near slot old new kept position is made same =
    changed_at (of_session change) rows near slot old (record old { session = new }) kept position is (ap (λ (s : SessionState). record old { session = s }) made) same

-- where no row has the session ID
pub unchanged : {keys : KeyTable} {deadlines : Slots} {sending : Flags} {round : Round} (change : Row → Row) (rows : Seats Row) (near : ℕ) → IsKept rows keys deadlines sending round → None ≡ slot_of keys near →
    rows_in rows ≡ in_row change (rows_in rows) near
unchanged change rows near kept position = sym (ap (with_changed change (rows_in rows) near) (found_nowhere rows near kept position))

-- ---- the changes leave a session under its ID

keeps_if : (b : Bool) (s t : SessionState) → t.joined.near ≡ s.joined.near → (if b then t else s).joined.near ≡ s.joined.near
keeps_if true s t e = e
keeps_if false s t e = refl

pub closing_keeps : (moment : ℕ) (s : SessionState) → (closed_near moment s).joined.near ≡ s.joined.near
closing_keeps moment s = keeps_if (is_held s.stage) s (record s { stage = NearClose; since = moment; close_sent = Some moment }) refl

pub lingering_keeps : (moment : ℕ) (s : SessionState) → (asked_to_close moment s).joined.near ≡ s.joined.near
lingering_keeps moment s = keeps_if _ s (record s { stage = FarLinger; since = moment }) refl

pub keepalive_keeps : (moment : ℕ) (s : SessionState) → (kept_alive moment s).joined.near ≡ s.joined.near
keepalive_keeps moment s = keeps_if (needs_keepalive s moment) s (record s { keepalive = Some moment }) refl

pub due_keeps : (due : Option SessionDue) (moment : ℕ) (s : SessionState) → (after_due due moment s).joined.near ≡ s.joined.near
due_keeps None moment s = refl
due_keeps (Some Unconfirmed) moment s = refl
due_keeps (Some Idle) moment s = refl
due_keeps (Some Over) moment s = refl
due_keeps (Some RepeatClose) moment s = refl

spent_keeps : (b : Bool) (s t : SessionState) → t.joined.near ≡ s.joined.near → (if b then s else t).joined.near ≡ s.joined.near
spent_keeps true s t e = refl
spent_keeps false s t e = e

pub sealing_keeps : (s : SessionState) → (after_seal s).joined.near ≡ s.joined.near
sealing_keeps s = spent_keeps (is_spent s) s (record s { sealed = s.sealed + 1 }) refl

pub packing_keeps : (limit : ℕ) (packet : List ℕ) (s : SessionState) → (after_packed limit packet s).joined.near ≡ s.joined.near
packing_keeps limit packet s = spent_keeps (nat_lt limit (length packet)) s (after_seal s) (sealing_keeps s)

counted_keeps : (b : Bool) (row : Row) → near_of (if b then record row { packets = row.packets + 1 } else row) ≡ near_of row
counted_keeps true row = refl
counted_keeps false row = refl

pub counting_keeps : (pieces : ℕ) (row : Row) → near_of (packet_counted pieces row) ≡ near_of row
counting_keeps pieces row = counted_keeps (has_counts row pieces) row
