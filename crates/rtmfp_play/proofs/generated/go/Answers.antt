use Rattle.std.proofs.Common.{◌≡◌, ℕ, ◌+◌, ◌∙◌, arith, subst}
use Rattle.rendezvous_world.specs.Sound.{AreBelow}
use Rattle.rtmfp_play.proofs.Generation.{number_next, one_more, run_ends_so}
use Rattle.rtmfp_play.proofs.generated.go.Goals as goal

pub loop-count-preserved : goal.loop-count-preserved
loop-count-preserved c =
    let number = c.next_number-x.ensures ∙ number_next c.args.seed c.loop-count.count c.loop-count.x c.loop-count.invariant.number in
    record {
      runs = one_more c.args.seed c.loop-count.count c.next_number-x.result c.loop-count.world c.go_on.new.world number c.loop-count.invariant.runs c.in-Ok.ensures.ok;
      number = number;
      above = subst (λ (n : ℕ). AreBelow c.go_on.new.world.lines n) (let e : 8 + c.loop-count.count + 1 + 1 ≡ 8 + (c.loop-count.count + 1) + 1 = omega arith in e) c.in-Ok.ensures.below;
    }

pub returns-in-Err-clause-err : goal.returns-in-Err-clause-err
returns-in-Err-clause-err c =
    let number = c.next_number-x.ensures ∙ number_next c.args.seed c.loop-count.count c.loop-count.x c.loop-count.invariant.number in
    run_ends_so c.in-Err.status c.args.seed c.args.steps c.loop-count.count c.next_number-x.result c.loop-count.world c.loop-count-test.true number c.loop-count.invariant.runs c.in-Err.ensures.err
