use Rattle.std.proofs.Common.{◌≡◌, Err, IsOk, refl, ap, ◌∙◌}
use Rattle.flow_send.specs.Acks.{told}
use Rattle.session_core.specs.Session.{SessionState}
use Rattle.rtmfp_base.specs.declared.cause.Cause.TheVariants.{WrongState}
use Rattle.session_flows.specs.Keeping.{FlowsState}
use Rattle.session_flows.specs.Causes.{ack_cause}
use Rattle.session_flows.specs.Chunks.{session_heard}
use Rattle.session_table.specs.Chunks.{heard_in}
use Rattle.session_table.proofs.Taken.{both_ok, hearing_keeps, row_loose, row_changed, cause_is, cause_none}
use Rattle.session_table.proofs.Staying.{on_err, row_stays}
use Rattle.session_table.proofs.table.SessionTable.take_ack.Goals as goal

pub returns-in_default-clause-cause : goal.returns-in_default-clause-cause
returns-in_default-clause-cause c = cause_none c.args.self.now c.self.inside.kept.rows _ c.args.near c.self.view_is c.self.invariant c.in_default.ensures.found (λ s f. ack_cause s f c.args.flow (told c.args.blocks c.args.upto c.args.spans)) _ (λ x. Err WrongState ≡ Err x) refl

pub settle-requires : goal.settle-requires
settle-requires c = row_loose c.args.self.now c.self.inside.kept.rows _ c.args.near c.in-Some.slot c.index_mut-row.result.now c.self.view_is c.self.invariant c.in-Some.ensures.found c.index_mut-row.ensures.value (record c.index_mut-row.result.now { session = c.take_ack-taken.new.session; flows = c.take_ack-taken.new.self })
    (hearing_keeps _ c.take_ack-taken.result c.index_mut-row.result.now.session c.take_ack-taken.new.session c.index_mut-row.result.now.flows c.args.flow (told c.args.blocks c.args.upto c.args.spans) c.take_ack-taken.ensures.session c.take_ack-taken.ensures.err)

pub returns-clause-rows : goal.returns-clause-rows
returns-clause-rows c = both_ok c.take_ack-taken.result c.take_ack-taken.ensures.session c.take_ack-taken.ensures.flows (λ session flows. c.settle.ensures.table ∙ row_changed c.args.self.now c.self.inside.kept.rows _ c.args.near c.in-Some.slot c.index_mut-row.result.now c.self.view_is c.self.invariant c.in-Some.ensures.found c.index_mut-row.ensures.value (heard_in c.args.flow (told c.args.blocks c.args.upto c.args.spans)) (record c.index_mut-row.result.now { session = c.take_ack-taken.new.session; flows = c.take_ack-taken.new.self })
    (ap (λ (s : SessionState). record c.index_mut-row.result.now { session = s; flows = c.take_ack-taken.new.self }) session
    ∙ ap (λ (f : FlowsState). record c.index_mut-row.result.now { session = session_heard c.index_mut-row.result.now.session c.index_mut-row.result.now.flows c.args.flow (told c.args.blocks c.args.upto c.args.spans); flows = f }) flows)
    (hearing_keeps _ c.take_ack-taken.result c.index_mut-row.result.now.session c.take_ack-taken.new.session c.index_mut-row.result.now.flows c.args.flow (told c.args.blocks c.args.upto c.args.spans) c.take_ack-taken.ensures.session c.take_ack-taken.ensures.err))

pub returns-clause-cause : goal.returns-clause-cause
returns-clause-cause c = cause_is c.args.self.now c.self.inside.kept.rows _ c.args.near c.in-Some.slot c.index_mut-row.result.now c.self.view_is c.self.invariant c.in-Some.ensures.found c.index_mut-row.ensures.value (λ s f. ack_cause s f c.args.flow (told c.args.blocks c.args.upto c.args.spans)) (IsOk c.take_ack-taken.result) (λ x. c.take_ack-taken.result ≡ Err x) c.take_ack-taken.ensures.cause

pub returns-clause-err : goal.returns-clause-err
returns-clause-err c = on_err c.take_ack-taken.result c.take_ack-taken.ensures.err (λ same. c.settle.ensures.table ∙ row_stays c.args.self.now c.self.inside.kept.rows _ c.in-Some.slot c.index_mut-row.result.now c.self.view_is c.index_mut-row.ensures.value (record c.index_mut-row.result.now { session = c.take_ack-taken.new.session; flows = c.take_ack-taken.new.self })
    (ap (λ (s : SessionState). record c.index_mut-row.result.now { session = s; flows = c.take_ack-taken.new.self }) same.1 ∙ ap (λ (f : FlowsState). record c.index_mut-row.result.now { flows = f }) same.0))
