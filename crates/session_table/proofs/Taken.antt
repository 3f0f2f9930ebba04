-- A row in which a chunk of flows was taken, or whose acks were sealed.
use Rattle.std.proofs.Common.{ℕ, List, ◌≡◌, ◌<◌, ◌+◌, Bool, true, false, Option, Some, None, Result, Ok, Err, OnOk, OnErr, MatchOption, refl, sym, ap, subst, ◌∙◌}
use Rattle.std.specs.FinMap.{get}
use Rattle.flow_send.specs.Flow.{Flow}
use Rattle.flow_send.specs.Acks.{Told, makes_lost, new_bytes}
use Rattle.session_core.specs.Session.{SessionState}
use Rattle.session_core.specs.Closing.{with_acknowledged}
use Rattle.rtmfp_base.specs.declared.cause.Cause.{Cause}
use Rattle.rtmfp_base.specs.declared.cause.Cause.TheVariants.{WrongState}
use Rattle.session_flows.specs.Keeping.{FlowsState, sending_at}
use Rattle.session_flows.specs.Chunks.{lost_if, opened_by, session_heard}
use Rattle.session_flows.specs.Owing.{owes, owed_count}
use Rattle.endpoint_model.specs.declared.row.Row.{Row}
use Rattle.endpoint_model.specs.State.{Sessions}
use Rattle.endpoint_model.specs.FlowChunks.{owes_by}
use Rattle.rtmfp_base.proofs.Maps.{get_inserted}
use Rattle.session_table.specs.declared.round.Round.{Round}
use Rattle.endpoint_model.specs.Sending.{session_packet}
use Rattle.session_table.specs.declared.sealing.Packed.{Packed}
use Rattle.session_table.specs.declared.sealing.Packed.TheVariants.{Nothing}
use Rattle.session_table.specs.Table.{Table, near_of, in_row, with_changed, IsPacked, IsPackedBy}
use Rattle.session_table.specs.Chunks.{of_flows, cause_in, owed_at}
use Rattle.deadlines.specs.Deadlines.{Slots}
use Rattle.keyed_slab.specs.Keys.{KeyTable}
use Rattle.keyed_slab.specs.KeyedSlab.{Seats, thing_at, with_thing}
use Rattle.keyed_slab.specs.SlotSet.{Flags}
use Rattle.session_table.specs.Inside.{IsKept, IsLoose, rows_in, slot_of}
use Rattle.session_table.proofs.Changing.{changed_at, unchanged}
use Rattle.session_table.proofs.Called.{there}
use Rattle.session_table.proofs.Rows.{found_nowhere}

-- ---- what is known where an answer is Ok

pub on_ok : {A E P Q : Type 0} (r : Result A E) → OnOk r P → (P → Q) → OnOk r Q
on_ok (Ok x) h f = f h
on_ok (Err e) h f = tt

pub both_ok : {A E P Q R : Type 0} (r : Result A E) → OnOk r P → OnOk r Q → (P → Q → R) → OnOk r R
both_ok (Ok x) g h f = f g h
both_ok (Err e) g h f = tt

-- ---- an ack leaves the session under its ID

lost_keeps : (b : Bool) (s : SessionState) → (lost_if b s).joined.near ≡ s.joined.near
lost_keeps true s = refl
lost_keeps false s = refl

opened_keeps : (session : SessionState) (told : Told) (o : Option Flow) → (opened_by session told o).joined.near ≡ session.joined.near
opened_keeps session told None = refl
opened_keeps session told (Some f) = lost_keeps (makes_lost told f.sender) (with_acknowledged (new_bytes told (f.sender.forward + 1) f.sender.rows) session)

pub hearing_keeps : {A E : Type 0} (P : Type 0) (r : Result A E) (old new : SessionState) (flows : FlowsState) (flow : ℕ) (told : Told) → OnOk r (new ≡ session_heard old flows flow told) → OnErr r (P × (new ≡ old)) →
    new.joined.near ≡ old.joined.near
hearing_keeps P (Ok x) old new flows flow told ok err = ap (λ (s : SessionState). s.joined.near) ok ∙ opened_keeps old told (sending_at flows flow)
hearing_keeps P (Err e) old new flows flow told ok err = ap (λ (s : SessionState). s.joined.near) err.1

-- ---- the row of the session

module _ {keys : KeyTable} {deadlines : Slots} {sending : Flags} {round : Round} (seen : Table) (rows : Seats Row) (free near slot : ℕ) (old : Row) (view : record { rows = rows_in rows; free = free } ≡ seen) (kept : IsKept rows keys deadlines sending round)
    (position : Some slot ≡ slot_of keys near) (is : thing_at rows slot ≡ Some old) where
  pub row_loose : (new : Row) → near_of new ≡ near_of old → IsLoose (with_thing rows slot new) keys deadlines sending round slot
  row_loose new same = (changed_at (λ (r : Row). new) rows near slot old new kept position is refl same).loose

  pub row_changed : (change : Row → Row) (new : Row) → new ≡ change old → near_of new ≡ near_of old → rows_in (with_thing rows slot new) ≡ in_row change seen.rows near
  row_changed change new made same =
      (changed_at change rows near slot old new kept position is made (sym (ap near_of made) ∙ same)).table ∙ ap (λ (t : Table). in_row change t.rows near) view

  pub flows_changed : (change : FlowsState → FlowsState) (flows : FlowsState) → flows ≡ change old.flows → rows_in (with_thing rows slot (record old { flows = flows })) ≡ in_row (of_flows change) seen.rows near
  flows_changed change flows made = row_changed (of_flows change) (record old { flows = flows }) (ap (λ (f : FlowsState). record old { flows = f }) made) refl

  -- what is told of it
  pub told_is : {A : Type 0} (tell : Option Row → A) → tell (get seen.rows near) ≡ tell (Some old)
  told_is tell = ap tell (there seen rows free near slot old view kept position is)

  pub packed_is : (limit moment : ℕ) (body : Row → List ℕ) (packed : Packed) → IsPacked limit (session_packet old.session moment (body old)) old.session packed → IsPackedBy limit moment body (get seen.rows near) packed
  packed_is limit moment body packed h = subst (λ (o : Option Row). IsPackedBy limit moment body o packed) (sym (there seen rows free near slot old view kept position is)) h

  pub cause_is : (cause : SessionState → FlowsState → Option Cause) (P : Type 0) (Q : Cause → Type 0) → MatchOption (cause old.session old.flows) P Q → MatchOption (cause_in cause (get seen.rows near)) P Q
  cause_is cause P Q h = subst (λ (o : Option Cause). MatchOption o P Q) (sym (told_is (cause_in cause))) h

  -- what it is afterwards
  pub now_there : (change : Row → Row) (after : Sessions) → after ≡ in_row change seen.rows near → get after near ≡ Some (change old)
  now_there change after e =
      ap (λ (rows : Sessions). get rows near) (e ∙ told_is (with_changed change seen.rows near)) ∙ get_inserted seen.rows near (change old)

  -- fewer acks are owed then
  pub fewer_owed : (change : Row → Row) (after : Sessions) → after ≡ in_row change seen.rows near → (owes old.flows ≡ true → owed_count (change old).flows < owed_count old.flows) →
      owes_by (get seen.rows near) ≡ true → owed_at (get after near) < owed_at (get seen.rows near)
  fewer_owed change after e less owed =
      subst (λ (o : Option Row). owed_at o < owed_at (get seen.rows near)) (sym (now_there change after e))
      (subst (λ (n : ℕ). owed_count (change old).flows < n) (sym (told_is owed_at)) (less (sym (told_is owes_by) ∙ owed)))

-- where no row has the session ID

none_owed : {P : Type 0} → false ≡ true → P
none_owed e = absurd cc

module _ {keys : KeyTable} {deadlines : Slots} {sending : Flags} {round : Round} (seen : Table) (rows : Seats Row) (free near : ℕ) (view : record { rows = rows_in rows; free = free } ≡ seen) (kept : IsKept rows keys deadlines sending round)
    (position : None ≡ slot_of keys near) where
  pub none_there : get seen.rows near ≡ None
  none_there = ap (λ (t : Table). get t.rows near) (sym view) ∙ found_nowhere rows near kept position

  pub told_none : {A : Type 0} (tell : Option Row → A) → tell (get seen.rows near) ≡ tell None
  told_none tell = ap tell none_there

  pub packed_none : (limit moment : ℕ) (body : Row → List ℕ) → IsPackedBy limit moment body (get seen.rows near) Nothing
  packed_none limit moment body =
      subst (λ (o : Option Row). IsPackedBy limit moment body o Nothing) (sym none_there) refl

  pub same_rows : (change : Row → Row) → seen.rows ≡ in_row change seen.rows near
  same_rows change = ap (λ (t : Table). t.rows) (sym view) ∙ unchanged change rows near kept position ∙ ap (λ (t : Table). in_row change t.rows near) view

  pub cause_none : (cause : SessionState → FlowsState → Option Cause) (P : Type 0) (Q : Cause → Type 0) → Q WrongState → MatchOption (cause_in cause (get seen.rows near)) P Q
  cause_none cause P Q q = subst (λ (o : Option Cause). MatchOption o P Q) (sym (told_none (cause_in cause))) q

  pub owes_nowhere : (P : Type 0) → owes_by (get seen.rows near) ≡ true → P
  owes_nowhere P owed = none_owed (sym (told_none owes_by) ∙ owed)
