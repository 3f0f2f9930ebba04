use Rattle.std.proofs.Common.{ℕ, ◌≡◌, ◌∙◌, ap, length, arith}
use Rattle.log_verdict.specs.Checks.{kept_in}
use Rattle.log_audit.proofs.Keeping.{kept_next}
use Rattle.log_audit.proofs.ends.kept_by.Goals as goal

pub loop-end-preserved : goal.loop-end-preserved
loop-end-preserved c = λ secrets setups history are.
    kept_next secrets setups history c.args.ends.now c.loop-end.end-index c.loop-end.kept c.in-Some.more c.end-item.result are c.loop-end-test.true c.end-item.is (c.loop-end.invariant secrets setups history are) (omega (arith, c.in-Some.ensures))

pub returns : goal.returns
returns c = λ secrets setups history are.
    let all : c.loop-end.end-index ≡ length c.args.ends.now = omega arith in
    c.loop-end.invariant secrets setups history are ∙ ap (λ (n : ℕ). kept_in n history) all
