use Rattle.std.proofs.Common.{◌≡◌, length, subst, ◌∙◌, arith}
use Rattle.std.specs.FinMap.{get}
use Rattle.endpoint_model.specs.State.{State}
use Rattle.session_table.specs.Chunks.{rejected_in}
use Rattle.end_chunks.proofs.FlowTaken.{reject_done}
use Rattle.end_chunks.proofs.flows.take_exception.Goals as goal

pub returns-then-count-eq0-clause-state : goal.returns-then-count-eq0-clause-state
returns-then-count-eq0-clause-state c =
    (reject_done c.args.end.now c.args.near c.args.flow c.args.out.now
    (subst (λ (s : State). length (rejected_in c.args.flow (get s.sessions c.args.near)) ≡ 0) c.end.view_is (c.in-Ok.ensures.exact (omega (arith, c.if-count-eq0.true)) ∙ c.if-count-eq0.true))).state
