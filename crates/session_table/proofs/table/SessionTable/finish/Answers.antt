use Rattle.std.proofs.Common.{◌≡◌, ◌∷◌, [], Err, IsOk, refl, ◌∙◌}
use Rattle.session_flows.specs.Keeping.{Finished}
use Rattle.session_flows.specs.declared.refusal.CallRefusal.TheVariants.{NoFlow}
use Rattle.endpoint_model.specs.FlowCall.{Finish}
use Rattle.session_table.proofs.Called.{ok_on, ok_if, stays_loose, rows_are, stated_is, refused_is, refused_nowhere}
use Rattle.session_table.proofs.Staying.{on_err, rows_stay}
use Rattle.session_table.proofs.table.SessionTable.finish.Goals as goal

pub returns-in_default-clause-refused : goal.returns-in_default-clause-refused
returns-in_default-clause-refused c = refused_nowhere c.args.self.now c.self.inside.kept.rows _ c.args.near c.self.view_is c.self.invariant c.in_default.ensures.found (Finish c.args.flow) _ (λ e. Err NoFlow ≡ Err e) refl

pub settle-requires : goal.settle-requires
settle-requires c = stays_loose c.args.self.now c.self.inside.kept.rows _ c.args.near c.in-Some.slot c.index_mut-row.result.now c.self.view_is c.self.invariant c.in-Some.ensures.found c.index_mut-row.ensures.value c.finish-finished.new.self

pub returns-clause-rows : goal.returns-clause-rows
returns-clause-rows c = ok_on c.finish-finished.result c.finish-finished.ensures.did (λ seq did. c.settle.ensures.table ∙ rows_are c.args.self.now c.self.inside.kept.rows _ c.args.near c.in-Some.slot c.index_mut-row.result.now c.self.view_is c.self.invariant c.in-Some.ensures.found c.index_mut-row.ensures.value (Finish c.args.flow) c.finish-finished.new.self (Finished c.args.flow seq ∷ []) did)

pub returns-clause-stated : goal.returns-clause-stated
returns-clause-stated c = ok_if c.finish-finished.result c.finish-finished.ensures.did (λ seq did. stated_is c.args.self.now c.self.inside.kept.rows _ c.args.near c.in-Some.slot c.index_mut-row.result.now c.self.view_is c.self.invariant c.in-Some.ensures.found c.index_mut-row.ensures.value (Finish c.args.flow) c.finish-finished.new.self (Finished c.args.flow seq ∷ []) did)

pub returns-clause-refused : goal.returns-clause-refused
returns-clause-refused c = refused_is c.args.self.now c.self.inside.kept.rows _ c.args.near c.in-Some.slot c.index_mut-row.result.now c.self.view_is c.self.invariant c.in-Some.ensures.found c.index_mut-row.ensures.value (Finish c.args.flow) (IsOk c.finish-finished.result) (λ e. c.finish-finished.result ≡ Err e) c.finish-finished.ensures.refused

pub returns-clause-err : goal.returns-clause-err
returns-clause-err c = on_err c.finish-finished.result c.finish-finished.ensures.err (λ same. c.settle.ensures.table ∙ rows_stay c.args.self.now c.self.inside.kept.rows _ c.in-Some.slot c.index_mut-row.result.now c.self.view_is c.index_mut-row.ensures.value c.finish-finished.new.self same)
