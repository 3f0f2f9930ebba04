use Rattle.std.proofs.Common.{◌+◌, ◌∙◌, ℕ, sym, ap}
use Rattle.rtmfp_data_chunks.specs.Acked.{is_set, spans_where}
use Rattle.rtmfp_data_chunks.proofs.SpanLaws.{no_spans}
use Rattle.rtmfp_data_chunks.proofs.acked.next_in_bits.Goals as goal

pub returns-then-rest-eq0-clause-first : goal.returns-then-rest-eq0-clause-first
returns-then-rest-eq0-clause-first c =
    let r = c.skip_unset-rest.result in
    let n = r.upto + 2 + r.at in
    sym c.skip_unset-rest.ensures.same ∙ (ap (λ (k : ℕ). spans_where (is_set r.upto r.bits.now) n k) c.if-rest-eq0.true ∙ no_spans (is_set r.upto r.bits.now) n)
