use Rattle.std.proofs.Common.{◌≡◌, Err, IsOk, refl, ◌∙◌}
use Rattle.rtmfp_base.specs.declared.cause.Cause.TheVariants.{WrongState}
use Rattle.session_flows.specs.Causes.{probe_cause}
use Rattle.session_flows.specs.Chunks.{probed}
use Rattle.session_table.proofs.Called.{stays_loose}
use Rattle.session_table.proofs.Taken.{on_ok, flows_changed, cause_is, cause_none}
use Rattle.session_table.proofs.Staying.{on_err, rows_stay}
use Rattle.session_table.proofs.table.SessionTable.take_probe.Goals as goal

pub returns-in_default-clause-cause : goal.returns-in_default-clause-cause
returns-in_default-clause-cause c = cause_none c.args.self.now c.self.inside.kept.rows _ c.args.near c.self.view_is c.self.invariant c.in_default.ensures.found (λ s f. probe_cause s f c.args.flow) _ (λ x. Err WrongState ≡ Err x) refl

pub settle-requires : goal.settle-requires
settle-requires c = stays_loose c.args.self.now c.self.inside.kept.rows _ c.args.near c.in-Some.slot c.index_mut-row.result.now c.self.view_is c.self.invariant c.in-Some.ensures.found c.index_mut-row.ensures.value c.take_probe-taken.new.self

pub returns-clause-rows : goal.returns-clause-rows
returns-clause-rows c = on_ok c.take_probe-taken.result c.take_probe-taken.ensures.flows (λ did. c.settle.ensures.table ∙ flows_changed c.args.self.now c.self.inside.kept.rows _ c.args.near c.in-Some.slot c.index_mut-row.result.now c.self.view_is c.self.invariant c.in-Some.ensures.found c.index_mut-row.ensures.value (λ f. probed f c.args.flow) c.take_probe-taken.new.self did)

pub returns-clause-cause : goal.returns-clause-cause
returns-clause-cause c = cause_is c.args.self.now c.self.inside.kept.rows _ c.args.near c.in-Some.slot c.index_mut-row.result.now c.self.view_is c.self.invariant c.in-Some.ensures.found c.index_mut-row.ensures.value (λ s f. probe_cause s f c.args.flow) (IsOk c.take_probe-taken.result) (λ x. c.take_probe-taken.result ≡ Err x) c.take_probe-taken.ensures.cause

pub returns-clause-err : goal.returns-clause-err
returns-clause-err c = on_err c.take_probe-taken.result c.take_probe-taken.ensures.err (λ same. c.settle.ensures.table ∙ rows_stay c.args.self.now c.self.inside.kept.rows _ c.in-Some.slot c.index_mut-row.result.now c.self.view_is c.index_mut-row.ensures.value c.take_probe-taken.new.self same)
