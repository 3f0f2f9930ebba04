-- A row that a call leaves as it is.
use Rattle.std.proofs.Common.{ℕ, ◌≡◌, List, set, Option, Some, None, Result, Ok, Err, OnErr, sym, ap, ◌∙◌}
use Rattle.std.proofs.lemmas.List.{set-get_or}
use Rattle.session_flows.specs.Keeping.{FlowsState}
use Rattle.keyed_slab.specs.KeyedSlab.{Seats, thing_at, with_thing}
use Rattle.endpoint_model.specs.declared.row.Row.{Row}
use Rattle.session_table.specs.Table.{Table}
use Rattle.session_table.specs.Inside.{rows_in}

pub on_err : {A E P Q : Type 0} (r : Result A E) → OnErr r P → (P → Q) → OnErr r Q
on_err (Ok x) h f = tt
on_err (Err e) h f = f h

module _ (seen : Table) (rows : Seats Row) (free slot : ℕ) (old : Row) (view : record { rows = rows_in rows; free = free } ≡ seen) (is : thing_at rows slot ≡ Some old) where
  same_rows : rows_in (with_thing rows slot old) ≡ rows_in rows
  same_rows =
      ap (λ (o : Option Row). rows_in (record rows { things = set rows.things slot o })) (sym is)
      ∙ ap (λ (l : List (Option Row)). rows_in (record rows { things = l })) (set-get_or rows.things slot None)

  pub row_stays : (new : Row) → new ≡ old → rows_in (with_thing rows slot new) ≡ seen.rows
  row_stays new same = ap (λ (r : Row). rows_in (with_thing rows slot r)) same ∙ same_rows ∙ ap (λ (t : Table). t.rows) view

  pub rows_stay : (flows : FlowsState) → flows ≡ old.flows → rows_in (with_thing rows slot (record old { flows = flows })) ≡ seen.rows
  rows_stay flows same = row_stays (record old { flows = flows }) (ap (λ (f : FlowsState). record old { flows = f }) same)
