use Rattle.std.proofs.Common.{◌++◌, ◌<◌, ℕ, List, None, Option, length, map, sym, ap, subst, ◌∙◌}
use Rattle.std.specs.Prelude.{IfSome}
use Rattle.std.proofs.lemmas.List.{append-nil}
use Rattle.session_flows.specs.Keeping.{Abandoned}
use Rattle.session_flows.specs.Chunks.{rejecting, finished_at}
use Rattle.endpoint_model.specs.declared.row.Row.{Row}
use Rattle.session_table.specs.Chunks.{of_flows, rejected_in, waiting_in}
use Rattle.session_table.proofs.Called.{there, stays_loose, ok_if}
use Rattle.session_table.proofs.Taken.{on_ok, flows_changed, told_is, told_none, same_rows}
use Rattle.session_table.proofs.Staying.{on_err, rows_stay}
use Rattle.session_table.proofs.table.SessionTable.apply_exception.Goals as goal

pub returns-in_default-clause-rows : goal.returns-in_default-clause-rows
returns-in_default-clause-rows c = same_rows c.args.self.now c.self.inside.kept.rows _ c.args.near c.self.view_is c.self.invariant c.in_default.ensures.found (of_flows (λ f. (rejecting f c.args.flow).flows))

pub returns-in_default-clause-numbers : goal.returns-in_default-clause-numbers
returns-in_default-clause-numbers c =
    sym (ap (λ (ns : List ℕ). c.args.abandoned.now.items ++ ns) (told_none c.args.self.now c.self.inside.kept.rows _ c.args.near c.self.view_is c.self.invariant c.in_default.ensures.found (waiting_in c.args.flow)) ∙ append-nil c.args.abandoned.now.items)

pub returns-in_default-clause-stated : goal.returns-in_default-clause-stated
returns-in_default-clause-stated c =
    told_none c.args.self.now c.self.inside.kept.rows _ c.args.near c.self.view_is c.self.invariant c.in_default.ensures.found (rejected_in c.args.flow)
    ∙ sym (ap (λ (ns : List ℕ). map (Abandoned c.args.flow) ns ++ finished_at c.args.flow None) (told_none c.args.self.now c.self.inside.kept.rows _ c.args.near c.self.view_is c.self.invariant c.in_default.ensures.found (waiting_in c.args.flow)))

pub apply_exception-last-requires : goal.apply_exception-last-requires
apply_exception-last-requires c =
    subst (λ (o : Option Row). IfSome o (λ row. c.args.flow < length row.flows.sending))
    (there c.args.self.now c.self.inside.kept.rows _ c.args.near c.in-Some.slot c.index_mut.result.now c.self.view_is c.self.invariant c.in-Some.ensures.found c.index_mut.ensures.value) c.requires

pub settle-requires : goal.settle-requires
settle-requires c = stays_loose c.args.self.now c.self.inside.kept.rows _ c.args.near c.in-Some.slot c.index_mut.result.now c.self.view_is c.self.invariant c.in-Some.ensures.found c.index_mut.ensures.value c.apply_exception-last.new.self

pub returns-clause-rows : goal.returns-clause-rows
returns-clause-rows c = on_ok c.apply_exception-last.result c.apply_exception-last.ensures.flows (λ did. c.settle.ensures.table ∙ flows_changed c.args.self.now c.self.inside.kept.rows _ c.args.near c.in-Some.slot c.index_mut.result.now c.self.view_is c.self.invariant c.in-Some.ensures.found c.index_mut.ensures.value (λ f. (rejecting f c.args.flow).flows) c.apply_exception-last.new.self did)

pub returns-clause-numbers : goal.returns-clause-numbers
returns-clause-numbers c = on_ok c.apply_exception-last.result c.apply_exception-last.ensures.numbers (λ put. put ∙ ap (λ (ns : List ℕ). c.args.abandoned.now.items ++ ns) (sym (told_is c.args.self.now c.self.inside.kept.rows _ c.args.near c.in-Some.slot c.index_mut.result.now c.self.view_is c.self.invariant c.in-Some.ensures.found c.index_mut.ensures.value (waiting_in c.args.flow))))

pub returns-clause-stated : goal.returns-clause-stated
returns-clause-stated c = ok_if c.apply_exception-last.result c.apply_exception-last.ensures.stated (λ last did. told_is c.args.self.now c.self.inside.kept.rows _ c.args.near c.in-Some.slot c.index_mut.result.now c.self.view_is c.self.invariant c.in-Some.ensures.found c.index_mut.ensures.value (rejected_in c.args.flow) ∙ did
    ∙ ap (λ (ns : List ℕ). map (Abandoned c.args.flow) ns ++ finished_at c.args.flow last) (sym (told_is c.args.self.now c.self.inside.kept.rows _ c.args.near c.in-Some.slot c.index_mut.result.now c.self.view_is c.self.invariant c.in-Some.ensures.found c.index_mut.ensures.value (waiting_in c.args.flow))))

pub returns-clause-err : goal.returns-clause-err
returns-clause-err c = on_err c.apply_exception-last.result c.apply_exception-last.ensures.err (λ same. (c.settle.ensures.table ∙ rows_stay c.args.self.now c.self.inside.kept.rows _ c.in-Some.slot c.index_mut.result.now c.self.view_is c.index_mut.ensures.value c.apply_exception-last.new.self same.0, same.1))
