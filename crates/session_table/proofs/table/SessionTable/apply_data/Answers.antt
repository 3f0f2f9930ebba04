use Rattle.std.proofs.Common.{Option, subst, ◌∙◌}
use Rattle.std.specs.Prelude.{IfSome}
use Rattle.rtmfp_data_chunks.specs.Chunk.{user_parts}
use Rattle.session_flows.specs.Chunks.{data_taken}
use Rattle.session_flows.specs.Judged.{IsJudged}
use Rattle.endpoint_model.specs.declared.row.Row.{Row}
use Rattle.session_table.specs.Chunks.{of_flows}
use Rattle.session_table.proofs.Called.{there, stays_loose}
use Rattle.session_table.proofs.Taken.{on_ok, flows_changed, same_rows}
use Rattle.session_table.proofs.Staying.{on_err, rows_stay}
use Rattle.session_table.proofs.table.SessionTable.apply_data.Goals as goal

pub returns-in_default-clause-rows : goal.returns-in_default-clause-rows
returns-in_default-clause-rows c = same_rows c.args.self.now c.self.inside.kept.rows _ c.args.near c.self.view_is c.self.invariant c.in_default.ensures.found (of_flows (λ f. data_taken f (user_parts c.args.chunk.now)))

pub apply_data-taken-requires-clause-judged : goal.apply_data-taken-requires-clause-judged
apply_data-taken-requires-clause-judged c =
    subst (λ (o : Option Row). IfSome o (λ row. IsJudged c.args.judged row.flows (user_parts c.args.chunk.now)))
    (there c.args.self.now c.self.inside.kept.rows _ c.args.near c.in-Some.slot c.index_mut.result.now c.self.view_is c.self.invariant c.in-Some.ensures.found c.index_mut.ensures.value) c.requires.judged

pub settle-requires : goal.settle-requires
settle-requires c = stays_loose c.args.self.now c.self.inside.kept.rows _ c.args.near c.in-Some.slot c.index_mut.result.now c.self.view_is c.self.invariant c.in-Some.ensures.found c.index_mut.ensures.value c.apply_data-taken.new.self

pub returns-clause-rows : goal.returns-clause-rows
returns-clause-rows c = on_ok c.apply_data-taken.result c.apply_data-taken.ensures.taken (λ did. c.settle.ensures.table ∙ flows_changed c.args.self.now c.self.inside.kept.rows _ c.args.near c.in-Some.slot c.index_mut.result.now c.self.view_is c.self.invariant c.in-Some.ensures.found c.index_mut.ensures.value (λ f. data_taken f (user_parts c.args.chunk.now)) c.apply_data-taken.new.self did)

pub returns-clause-err : goal.returns-clause-err
returns-clause-err c = on_err c.apply_data-taken.result c.apply_data-taken.ensures.err (λ same. c.settle.ensures.table ∙ rows_stay c.args.self.now c.self.inside.kept.rows _ c.in-Some.slot c.index_mut.result.now c.self.view_is c.index_mut.ensures.value c.apply_data-taken.new.self same)
