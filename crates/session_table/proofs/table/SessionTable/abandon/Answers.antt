use Rattle.std.proofs.Common.{◌≡◌, ◌∷◌, [], Err, Ok, refl, ◌∙◌}
use Rattle.session_flows.specs.Keeping.{Abandoned}
use Rattle.session_flows.specs.declared.refusal.CallRefusal.TheVariants.{NoFlow}
use Rattle.endpoint_model.specs.FlowCall.{Abandon}
use Rattle.session_table.proofs.Called.{ok_on, stays_loose, rows_are, stated_is, refused_is, refused_nowhere}
use Rattle.session_table.proofs.Staying.{on_err, rows_stay}
use Rattle.session_table.proofs.table.SessionTable.abandon.Goals as goal

pub returns-in_default-clause-refused : goal.returns-in_default-clause-refused
returns-in_default-clause-refused c = refused_nowhere c.args.self.now c.self.inside.kept.rows _ c.args.near c.self.view_is c.self.invariant c.in_default.ensures.found (Abandon c.args.flow c.args.seq) _ (λ e. Err NoFlow ≡ Err e) refl

pub settle-requires : goal.settle-requires
settle-requires c = stays_loose c.args.self.now c.self.inside.kept.rows _ c.args.near c.in-Some.slot c.index_mut-row.result.now c.self.view_is c.self.invariant c.in-Some.ensures.found c.index_mut-row.ensures.value c.abandon-abandoned.new.self

pub returns-clause-rows : goal.returns-clause-rows
returns-clause-rows c = ok_on c.abandon-abandoned.result c.abandon-abandoned.ensures.did (λ done did. c.settle.ensures.table ∙ rows_are c.args.self.now c.self.inside.kept.rows _ c.args.near c.in-Some.slot c.index_mut-row.result.now c.self.view_is c.self.invariant c.in-Some.ensures.found c.index_mut-row.ensures.value (Abandon c.args.flow c.args.seq) c.abandon-abandoned.new.self (Abandoned c.args.flow c.args.seq ∷ []) did)

pub returns-clause-stated : goal.returns-clause-stated
returns-clause-stated c = ok_on c.abandon-abandoned.result c.abandon-abandoned.ensures.did (λ done did. stated_is c.args.self.now c.self.inside.kept.rows _ c.args.near c.in-Some.slot c.index_mut-row.result.now c.self.view_is c.self.invariant c.in-Some.ensures.found c.index_mut-row.ensures.value (Abandon c.args.flow c.args.seq) c.abandon-abandoned.new.self (Abandoned c.args.flow c.args.seq ∷ []) did)

pub returns-clause-refused : goal.returns-clause-refused
returns-clause-refused c = refused_is c.args.self.now c.self.inside.kept.rows _ c.args.near c.in-Some.slot c.index_mut-row.result.now c.self.view_is c.self.invariant c.in-Some.ensures.found c.index_mut-row.ensures.value (Abandon c.args.flow c.args.seq) (c.abandon-abandoned.result ≡ Ok tt) (λ e. c.abandon-abandoned.result ≡ Err e) c.abandon-abandoned.ensures.refused

pub returns-clause-err : goal.returns-clause-err
returns-clause-err c = on_err c.abandon-abandoned.result c.abandon-abandoned.ensures.err (λ same. c.settle.ensures.table ∙ rows_stay c.args.self.now c.self.inside.kept.rows _ c.in-Some.slot c.index_mut-row.result.now c.self.view_is c.index_mut-row.ensures.value c.abandon-abandoned.new.self same)
