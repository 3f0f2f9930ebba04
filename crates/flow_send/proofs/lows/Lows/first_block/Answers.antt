use Rattle.std.proofs.Common.{◌+◌, ◌<◌, arith, inl, inr}
use Rattle.std.proofs.lemmas.Bool.{cases_lt}
use Rattle.flow_send.proofs.lows.Lows.first_block.Goals as goal

pub loop-block-init : goal.loop-block-init
loop-block-init c = record { from = omega arith; passed = λ b lo hi. absurd (omega (arith, lo, hi)) }

pub loop-block-preserved : goal.loop-block-preserved
loop-block-preserved c =
    let i = c.loop-block.invariant in
    record {
      from = omega (arith, i.from, c.saturating_add-block.ensures);
      passed = λ b lo hi. elim (cases_lt b c.loop-block.block) [
        | inl lt ↦ i.passed b lo lt
        | inr ge ↦
            let in_both : b < c.loop-block.block + c.min-quiet.result = omega (arith, hi, c.saturating_add-block.ensures) in
            (c.quiet.ensures b ge (omega (arith, in_both, c.min-quiet.ensures)), c.quiet-in-loop-block.ensures b ge (omega (arith, in_both, c.min-quiet.ensures)))
      ];
    }
