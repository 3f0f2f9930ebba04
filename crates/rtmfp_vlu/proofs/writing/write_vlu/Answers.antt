use Rattle.std.proofs.Common.{refl, subst, ◌≡◌, ◌-◌, ◌<◌, ◌∙◌, arith, sym, take, ℕ, length}
use Rattle.std.specs.Prelude.{bit_and}
use Rattle.std.proofs.lemmas.List.{length-set, drop-set-lt, take-append-drop}
use Rattle.rtmfp_vlu.specs.Vlu.{vlu}
use Rattle.rtmfp_vlu.proofs.Shortest.{Shortest-is}
use Rattle.rtmfp_vlu.proofs.Tails.{Tail, Needs-len, first_tail, next_tail, all_written}
use Rattle.rtmfp_vlu.proofs.writing.write_vlu.Goals as goal

pub overflow_sub-at : goal.overflow_sub-at
overflow_sub-at c = (Needs-len c.args.value c.vlu_len-len.result c.ranges.value.fits c.vlu_len-len.ensures.length).0.some

pub bounds-out-at : goal.bounds-out-at
bounds-out-at c =
    let size = (Needs-len c.args.value c.vlu_len-len.result c.ranges.value.fits c.vlu_len-len.ensures.length).1 in
    omega (arith, size)

pub loop-at-init : goal.loop-at-init
loop-at-init c =
    let out = c.args.out.now in
    let need = Needs-len c.args.value c.vlu_len-len.result c.ranges.value.fits c.vlu_len-len.ensures.length in
    let whole : length out ≡ 10 = c.told-out in
    let last : c.vlu_len-len.result - 1 < c.vlu_len-len.result = omega (arith, need.0.some) in
    record {
      tail = first_tail c.args.value c.vlu_len-len.result out need.0 (omega (arith, whole, need.1));
      kept = drop-set-lt c.vlu_len-len.result out (c.vlu_len-len.result - 1) (bit_and c.args.value 127) last;
      size = length-set out (c.vlu_len-len.result - 1) (bit_and c.args.value 127) ∙ whole;
    }

pub loop-at-preserved : goal.loop-at-preserved
loop-at-preserved c =
    let out = c.loop-at.out in
    let need = Needs-len c.args.value c.vlu_len-len.result c.ranges.value.fits c.vlu_len-len.ensures.length in
    let tail = c.loop-at.invariant.tail in
    let within : c.loop-at.at - 1 < c.vlu_len-len.result = omega (arith, tail.within, c.loop-at-test.true) in
    record {
      tail = next_tail c.args.value c.vlu_len-len.result c.loop-at.at c.loop-at.rest out (omega (arith, c.loop-at.invariant.size, need.1)) c.loop-at-test.true tail;
      kept = drop-set-lt c.vlu_len-len.result out (c.loop-at.at - 1) _ within ∙ c.loop-at.invariant.kept;
      size = length-set out (c.loop-at.at - 1) _ ∙ c.loop-at.invariant.size;
    }

pub returns-clause-shortest : goal.returns-clause-shortest
returns-clause-shortest c =
    let need = Needs-len c.args.value c.vlu_len-len.result c.ranges.value.fits c.vlu_len-len.ensures.length in
    let first : c.loop-at.at ≡ 0 = omega (arith, c.loop-at-test.false) in
    let tail : Tail c.args.value c.vlu_len-len.result 0 c.loop-at.rest c.loop-at.out = subst (λ (n : ℕ). Tail c.args.value c.vlu_len-len.result n c.loop-at.rest c.loop-at.out) first c.loop-at.invariant.tail in
    all_written c.args.value c.vlu_len-len.result c.loop-at.rest c.loop-at.out (omega (arith, c.loop-at.invariant.size, need.1)) need.1 c.ranges.value.fits tail

pub returns-clause-written : goal.returns-clause-written
returns-clause-written c =
    let front : take c.vlu_len-len.result c.loop-at.out ≡ vlu c.args.value = Shortest-is c.args.value _ (returns-clause-shortest c) in
    sym (take-append-drop c.vlu_len-len.result c.loop-at.out) ∙ rw (front, c.loop-at.invariant.kept) refl
