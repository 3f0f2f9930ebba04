-- A row whose flows were called on.
use Rattle.std.proofs.Common.{ℕ, List, ◌≡◌, Option, Some, None, Result, Ok, Err, IfOk, OnOk, MatchOption, refl, sym, ap, subst, ◌∙◌}
use Rattle.std.specs.FinMap.{get}
use Rattle.session_flows.specs.declared.refusal.CallRefusal.{CallRefusal}
use Rattle.session_flows.specs.declared.refusal.CallRefusal.TheVariants.{NoFlow}
use Rattle.session_flows.specs.Keeping.{FlowsState, Stated, Did}
use Rattle.endpoint_model.specs.declared.row.Row.{Row}
use Rattle.endpoint_model.specs.FlowCall.{FlowCall, flow_refusal, flow_did}
use Rattle.session_table.specs.declared.round.Round.{Round}
use Rattle.session_table.specs.Table.{Table, in_row}
use Rattle.session_table.specs.Calls.{called, stated_by, refused_by}
use Rattle.deadlines.specs.Deadlines.{Slots}
use Rattle.keyed_slab.specs.Keys.{KeyTable}
use Rattle.keyed_slab.specs.KeyedSlab.{Seats, thing_at, with_thing}
use Rattle.keyed_slab.specs.SlotSet.{Flags}
use Rattle.session_table.specs.Inside.{IsKept, IsLoose, rows_in, slot_of}
use Rattle.session_table.proofs.Changing.{changed_at}
use Rattle.session_table.proofs.Rows.{found_at, found_nowhere}

-- ---- what is known where an answer is Ok

pub ok_on : {A E Q : Type 0} {P : A → Type 0} (r : Result A E) → IfOk r P → ((x : A) → P x → Q) → OnOk r Q
ok_on (Ok x) h f = f x h
ok_on (Err e) h f = tt

pub ok_if : {A E : Type 0} {P Q : A → Type 0} (r : Result A E) → IfOk r P → ((x : A) → P x → Q x) → IfOk r Q
ok_if (Ok x) h f = f x h
ok_if (Err e) h f = tt

pub ok_ok : {A E Q : Type 0} {P : A → Type 0} (r : Result A E) → IfOk r P → ((x : A) → P x → Q) → OnOk r Q
ok_ok r h f = ok_on r h f

-- ---- the row of the session

module _ {keys : KeyTable} {deadlines : Slots} {sending : Flags} {round : Round} (seen : Table) (rows : Seats Row) (free near slot : ℕ) (old : Row) (view : record { rows = rows_in rows; free = free } ≡ seen) (kept : IsKept rows keys deadlines sending round)
    (position : Some slot ≡ slot_of keys near) (is : thing_at rows slot ≡ Some old) where
  pub there : get seen.rows near ≡ Some old
  there = ap (λ (t : Table). get t.rows near) (sym view) ∙ found_at rows near kept slot old position is

  pub stays_loose : (flows : FlowsState) → IsLoose (with_thing rows slot (record old { flows = flows })) keys deadlines sending round slot
  stays_loose flows = (changed_at (λ (r : Row). record r { flows = flows }) rows near slot old (record old { flows = flows }) kept position is refl refl).loose

  module _ (call : FlowCall) (flows : FlowsState) (stated : List Stated) (did : flow_did old.flows call ≡ record { flows = flows; stated = stated }) where
    pub rows_are : rows_in (with_thing rows slot (record old { flows = flows })) ≡ in_row (called call) seen.rows near
    rows_are =
        let made : record old { flows = flows } ≡ called call old = ap (λ (d : Did). record old { flows = d.flows }) (sym did) in
        (changed_at (called call) rows near slot old (record old { flows = flows }) kept position is made refl).table
        ∙ ap (λ (t : Table). in_row (called call) t.rows near) view

    pub stated_is : stated_by call (get seen.rows near) ≡ stated
    stated_is = ap (stated_by call) there ∙ ap (λ (d : Did). d.stated) did

  pub refused_is : (call : FlowCall) (P : Type 0) (Q : CallRefusal → Type 0) → MatchOption (flow_refusal old.flows call) P Q → MatchOption (refused_by call (get seen.rows near)) P Q
  refused_is call P Q h = subst (λ (o : Option CallRefusal). MatchOption o P Q) (sym (ap (refused_by call) there)) h

-- where no row has the session ID there is no flow
pub refused_nowhere : {keys : KeyTable} {deadlines : Slots} {sending : Flags} {round : Round} (seen : Table) (rows : Seats Row) (free near : ℕ) → record { rows = rows_in rows; free = free } ≡ seen → IsKept rows keys deadlines sending round →
    None ≡ slot_of keys near →
    (call : FlowCall) (P : Type 0) (Q : CallRefusal → Type 0) → Q NoFlow → MatchOption (refused_by call (get seen.rows near)) P Q
refused_nowhere seen rows free near view kept position call P Q q =
    let none : get seen.rows near ≡ None = ap (λ (t : Table). get t.rows near) (sym view) ∙ found_nowhere rows near kept position in
    subst (λ (o : Option CallRefusal). MatchOption o P Q) (sym (ap (refused_by call) none)) q
