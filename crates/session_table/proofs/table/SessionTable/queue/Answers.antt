use Rattle.std.proofs.Common.{◌≡◌, ◌∷◌, [], Err, IfErr, refl, ◌∙◌}
use Rattle.session_flows.specs.Keeping.{Queued}
use Rattle.session_flows.specs.declared.refusal.CallRefusal.TheVariants.{NoFlow, Memory}
use Rattle.endpoint_model.specs.FlowCall.{Queue}
use Rattle.session_table.proofs.Called.{ok_on, ok_if, stays_loose, rows_are, stated_is, refused_is, refused_nowhere}
use Rattle.session_table.proofs.Staying.{on_err, rows_stay}
use Rattle.session_table.proofs.table.SessionTable.queue.Goals as goal

pub returns-in_default-clause-refused : goal.returns-in_default-clause-refused
returns-in_default-clause-refused c = refused_nowhere c.args.self.now c.self.inside.kept.rows _ c.args.near c.self.view_is c.self.invariant c.in_default.ensures.found (Queue c.args.flow c.args.message.now c.args.options) _ (λ e. Err NoFlow ≡ Err e) refl

pub settle-requires : goal.settle-requires
settle-requires c = stays_loose c.args.self.now c.self.inside.kept.rows _ c.args.near c.in-Some.slot c.index_mut-row.result.now c.self.view_is c.self.invariant c.in-Some.ensures.found c.index_mut-row.ensures.value c.queue-queued.new.self

pub returns-clause-rows : goal.returns-clause-rows
returns-clause-rows c = ok_on c.queue-queued.result c.queue-queued.ensures.did (λ seq did. c.settle.ensures.table ∙ rows_are c.args.self.now c.self.inside.kept.rows _ c.args.near c.in-Some.slot c.index_mut-row.result.now c.self.view_is c.self.invariant c.in-Some.ensures.found c.index_mut-row.ensures.value (Queue c.args.flow c.args.message.now c.args.options) c.queue-queued.new.self (Queued c.args.flow seq c.args.message.now ∷ []) did)

pub returns-clause-stated : goal.returns-clause-stated
returns-clause-stated c = ok_if c.queue-queued.result c.queue-queued.ensures.did (λ seq did. stated_is c.args.self.now c.self.inside.kept.rows _ c.args.near c.in-Some.slot c.index_mut-row.result.now c.self.view_is c.self.invariant c.in-Some.ensures.found c.index_mut-row.ensures.value (Queue c.args.flow c.args.message.now c.args.options) c.queue-queued.new.self (Queued c.args.flow seq c.args.message.now ∷ []) did)

pub returns-clause-refused : goal.returns-clause-refused
returns-clause-refused c = refused_is c.args.self.now c.self.inside.kept.rows _ c.args.near c.in-Some.slot c.index_mut-row.result.now c.self.view_is c.self.invariant c.in-Some.ensures.found c.index_mut-row.ensures.value (Queue c.args.flow c.args.message.now c.args.options) (IfErr c.queue-queued.result (λ e. e ≡ Memory)) (λ e. c.queue-queued.result ≡ Err e) c.queue-queued.ensures.refused

pub returns-clause-err : goal.returns-clause-err
returns-clause-err c = on_err c.queue-queued.result c.queue-queued.ensures.err (λ same. c.settle.ensures.table ∙ rows_stay c.args.self.now c.self.inside.kept.rows _ c.in-Some.slot c.index_mut-row.result.now c.self.view_is c.index_mut-row.ensures.value c.queue-queued.new.self same)
