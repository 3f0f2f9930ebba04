use Rattle.std.proofs.Common.{◌≡◌, ◌+◌, ◌-◌, ◌∙◌, ℕ, ap, arith}
use Rattle.rtmfp_data_chunks.specs.Acked.{is_set, spans_where}
use Rattle.rtmfp_data_chunks.proofs.SpanLaws.{passes_over}
use Rattle.rtmfp_data_chunks.proofs.acked.skip_unset.Goals as goal

pub loop-rest-preserved : goal.loop-rest-preserved
loop-rest-preserved c =
    let r = c.loop-rest.rest in
    let k = c.min-unset.result in
    let test = is_set r.upto r.bits.now in
    let begins : r.upto + 2 + (r.at + k) ≡ r.upto + 2 + r.at + k = omega arith in
    record {
      there = omega (arith, c.loop-rest.invariant.there, c.min-unset.ensures);
      same = ap (λ (n : ℕ). spans_where test n (r.left - k)) begins
          ∙ (passes_over test k (r.upto + 2 + r.at) r.left (omega (arith, c.min-unset.ensures)) (λ j lt. c.unset_ahead.ensures.unset j (omega (arith, lt, c.min-unset.ensures))) ∙ c.loop-rest.invariant.same);
    }
