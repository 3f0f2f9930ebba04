use Rattle.std.proofs.Common.{◌+◌, ℕ, sym, subst, arith}
use Rattle.rtmfp_data_chunks.proofs.Bits.{PassedOver, all_fit, over_hit, over_more, over_all}
use Rattle.rtmfp_data_chunks.proofs.reading.passing_byte.Goals as goal

pub returns-then-bits-fitting-clause-first : goal.returns-then-bits-fitting-clause-first
returns-then-bits-fitting-clause-first c = sym (all_fit c.args.fitting c.args.bits.now (λ i. omega (arith, c.type_inv.bits i)) c.if-bits-fitting.true)

pub returns-then-from-min-ne0-clause-first : goal.returns-then-from-min-ne0-clause-first
returns-then-from-min-ne0-clause-first c =
    sym (over_hit c.args.fitting c.loop-i.room c.loop-i.i c.args.bits.now c.loop-i-test.true c.loop-i.invariant (rw (c.from.ensures, c.min.ensures) at c.if-from-min-ne0.true))

pub loop-i-preserved : goal.loop-i-preserved
loop-i-preserved c =
    let none = rw (c.from.ensures, c.min.ensures) at c.if-from-min-ne0.false in
    let room = c.saturating_sub-room.ensures in
    subst (λ (r : ℕ). PassedOver c.args.fitting r (c.loop-i.i + 1) c.args.bits.now) (sym room) (over_more c.args.fitting c.loop-i.room c.loop-i.i c.args.bits.now c.loop-i-test.true c.loop-i.invariant none)

pub returns-clause-first : goal.returns-clause-first
returns-clause-first c = sym (over_all c.args.fitting c.loop-i.room c.loop-i.i c.args.bits.now c.loop-i-test.false c.loop-i.invariant)
