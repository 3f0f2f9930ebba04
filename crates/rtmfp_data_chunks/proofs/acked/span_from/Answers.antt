use Rattle.std.proofs.Common.{◌≡◌, ◌+◌, ◌-◌, ◌<◌, ◌∙◌, ◌⊎◌, ℕ, true, false, inl, inr, sym, ap, arith}
use Rattle.rtmfp_data_chunks.specs.Acked.{is_set, in_front, spans_where}
use Rattle.rtmfp_data_chunks.proofs.SpanLaws.{starts, goes_on, ends}
use Rattle.rtmfp_data_chunks.proofs.acked.span_from.Goals as goal
use Rattle.rtmfp_data_chunks.proofs.acked.span_from.Goals.{else-loop-after-test, then-loop-after-test+then-set-eq0}

pub loop-after-init : goal.loop-after-init
loop-after-init c =
    let b = c.args.bits in
    let n = b.upto + 2 + b.at in
    let test = is_set b.upto b.bits.now in
    let follows : n + 1 ≡ b.upto + 2 + (b.at + 1) = omega arith in
    record {
      there = omega (arith, c.requires.there, c.requires.some);
      follows = omega arith;
      same = starts test n b.left c.requires.some c.requires.set ∙ ap (λ (m : ℕ). in_front n n (spans_where test m (b.left - 1))) follows;
    }

pub loop-after-preserved : goal.loop-after-preserved
loop-after-preserved c =
    let b = c.args.bits in
    let a = c.loop-after.after in
    let first = b.upto + 2 + b.at in
    let last = c.loop-after.last in
    let k = c.min-set.result in
    let test = is_set a.upto a.bits.now in
    let here : a.upto + 2 + a.at ≡ last + 1 = sym c.loop-after.invariant.follows in
    let follows : last + k + 1 ≡ a.upto + 2 + (a.at + k) = omega (arith, here) in
    let set : (j : ℕ) → j < k → test (last + 1 + j) ≡ true = λ j lt.
    let at : last + 1 + j ≡ a.upto + 2 + a.at + j = omega (arith, here) in
    ap test at ∙ c.set_ahead.ensures.set j (omega (arith, lt, c.min-set.ensures)) in
    record {
      there = omega (arith, c.loop-after.invariant.there, c.min-set.ensures);
      follows = follows;
      same = c.loop-after.invariant.same
          ∙ (ap (λ (m : ℕ). in_front first last (spans_where test m a.left)) here
          ∙ (goes_on test first k last a.left (omega (arith, c.min-set.ensures)) set ∙ ap (λ (m : ℕ). in_front first (last + k) (spans_where test m (a.left - k))) follows));
    }

pub returns-clause-first : goal.returns-clause-first
returns-clause-first c =
    let b = c.args.bits in
    let a = c.loop-after.after in
    let over : (a.left ≡ 0) ⊎ (is_set a.upto a.bits.now (a.upto + 2 + a.at) ≡ false) = elim c.loop-after-test.branch [
      | else-loop-after-test w ↦ inl (omega (arith, w.loop-after-test.false))
      | then-loop-after-test+then-set-eq0 w ↦ inr (w.set_ahead.ensures.stops (omega (arith, w.min-set.ensures, w.if-set-eq0.true, w.loop-after-test.true)))
    ] in
    c.loop-after.invariant.same ∙ ends (is_set a.upto a.bits.now) (b.upto + 2 + b.at) c.loop-after.last (a.upto + 2 + a.at) a.left c.loop-after.invariant.follows over
