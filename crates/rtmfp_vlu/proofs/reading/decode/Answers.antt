use Rattle.std.proofs.Common.{◌≤◌, inl, inr, sym, ◌∙◌, arith}
use Rattle.std.proofs.lemmas.Bool.{ltb-true, ltb-false, leb-false}
use Rattle.rtmfp_vlu.proofs.Groups.{Sums, HasRoom, goes_on, adds_group, ends_at, tenth_is_large}
use Rattle.rtmfp_vlu.proofs.reading.decode.Goals as goal
use Rattle.rtmfp_vlu.proofs.reading.decode.Goals.{else-i-via-then-i+else-value, then-byte-ge128, else-byte-ge128, else-i-via-else-i}

pub returns-then-value : goal.returns-then-value
returns-then-value c =
    let b = c.args.bytes.now in
    let sums : Sums b c.loop-i.i c.loop-i.value = record { within = c.loop-i-test.true; is_value = c.loop-i.invariant.sum; continued = c.loop-i.invariant.continued; is_byte = omega (arith, c.type_inv.bytes c.loop-i.i) } in
    elim c.if-byte-ge128.branch [
      | then-byte-ge128 w ↦ tenth_is_large b c.loop-i.i c.loop-i.value c.if-i.true sums (inl w.if-byte-ge128.true)
      | else-byte-ge128 w ↦ tenth_is_large b c.loop-i.i c.loop-i.value c.if-i.true sums (inr (ltb-true _ _ (sym w.value-is ∙ c.if-value.true)))
    ]

pub returns-then-byte-lt128 : goal.returns-then-byte-lt128
returns-then-byte-lt128 c =
    let b = c.args.bytes.now in
    let sums : Sums b c.loop-i.i c.loop-i.value = record { within = c.loop-i-test.true; is_value = c.loop-i.invariant.sum; continued = c.loop-i.invariant.continued; is_byte = omega (arith, c.type_inv.bytes c.loop-i.i) } in
    let few = c.loop-i.invariant.short in
    let fits : HasRoom c.loop-i.i c.loop-i.value = elim c.else-i.branch [
      | else-i-via-then-i+else-value w ↦ elim w.if-byte-ge128.branch [
        | then-byte-ge128 x ↦ absurd (omega (arith, leb-false _ _ (sym x.value-is ∙ w.if-value.false), x.if-byte-ge128.true))
        | else-byte-ge128 x ↦ inr (omega (arith, ltb-false _ _ (sym x.value-is ∙ w.if-value.false)))
      ]
      | else-i-via-else-i w ↦ inl (omega (arith, w.if-i.false, few))
    ] in
    ends_at b c.loop-i.i c.loop-i.value c.from.result few sums fits c.from.ensures c.if-byte-lt128.true

pub loop-i-preserved : goal.loop-i-preserved
loop-i-preserved c =
    let b = c.args.bytes.now in
    let sums : Sums b c.loop-i.i c.loop-i.value = record { within = c.loop-i-test.true; is_value = c.loop-i.invariant.sum; continued = c.loop-i.invariant.continued; is_byte = omega (arith, c.type_inv.bytes c.loop-i.i) } in
    let few = c.loop-i.invariant.short in
    let more : c.loop-i.i ≤ 8 = elim c.else-i.branch [
      | else-i-via-then-i+else-value w ↦ elim w.if-byte-ge128.branch [
        | then-byte-ge128 x ↦ absurd (omega (arith, leb-false _ _ (sym x.value-is ∙ w.if-value.false), x.if-byte-ge128.true))
        | else-byte-ge128 x ↦ absurd (omega (arith, x.if-byte-ge128.false, c.if-byte-lt128.false))
      ]
      | else-i-via-else-i w ↦ omega (arith, w.if-i.false, few)
    ] in
    record {
      short = omega (arith, more);
      sum = adds_group b c.loop-i.i c.loop-i.value c.from.result sums (inl more) c.from.ensures;
      continued = goes_on b c.loop-i.i c.loop-i.value sums c.if-byte-lt128.false;
    }
