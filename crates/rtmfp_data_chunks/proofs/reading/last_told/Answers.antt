use Rattle.std.proofs.Common.{◌≡◌, ◌+◌, ◌^◌, ◌<◌, ◌≤◌, ℕ, suc, Bool, true, false, eqb, List, [], ◌∷◌, length, refl, sym, ap, ◌∙◌, arith}
use Rattle.std.proofs.lemmas.Bool.{eqb-true}
use Rattle.std.proofs.lemmas.Result.{err_from_is_err_and}
use Rattle.rtmfp_data_chunks.specs.Reader.{pairs_then}
use Rattle.rtmfp_data_chunks.proofs.Pairs.{end_of, walk_ends, walk_broken, walk_passes, walk_goes, two_read}
use Rattle.rtmfp_data_chunks.proofs.reading.last_told.Goals as goal

not_empty : (b : List ℕ) (t : Bool) → t ≡ eqb (length b) 0 → t ≡ false → 0 < length b
not_empty [] t e f = absurd (cc)
not_empty (x ∷ xs) t e f = omega arith

is_empty : (b : List ℕ) (t : Bool) → t ≡ eqb (length b) 0 → t ≡ true → b ≡ []
is_empty [] t e f = refl
is_empty (x ∷ xs) t e f = let none : suc (length xs) ≡ 0 = eqb-true (suc (length xs)) 0 (sym e ∙ f) in absurd (omega (arith, none))

pub returns-in_err-holes : goal.returns-in_err-holes
returns-in_err-holes c =
    let p = err_from_is_err_and c.from_residual.result c.from_residual.ensures.1 in
    let some = not_empty c.loop-rest.rest.now c.is_empty.result c.is_empty.ensures c.loop-rest-test.true in
    rw (p.1, p.2) (c.loop-rest.invariant.same ∙ walk_broken c.args.size c.loop-rest.end c.loop-rest.rest.now c.in_err-holes.field-0.0 some c.in_err-holes.ensures.exact)

pub returns-then-next-from : goal.returns-then-next-from
returns-then-next-from c =
    let some = not_empty c.loop-rest.rest.now c.is_empty.result c.is_empty.ensures c.loop-rest-test.true in
    let past : 2 ^ 64 ≤ end_of c.loop-rest.end c.in_ok-holes.field-0-0 = omega arith in
    c.loop-rest.invariant.same ∙ walk_passes c.args.size c.loop-rest.end c.in_ok-holes.field-0-0 c.loop-rest.rest.now c.in_ok-holes.after.now some c.in_ok-holes.ensures.exact past

pub loop-rest-preserved : goal.loop-rest-preserved
loop-rest-preserved c =
    let some = not_empty c.loop-rest.rest.now c.is_empty.result c.is_empty.ensures c.loop-rest-test.true in
    let ns = c.in_ok-holes.field-0-0 in
    let read = two_read c.args.size c.loop-rest.rest.now ns c.in_ok-holes.after.now c.loop-rest.invariant.fits c.loop-rest.invariant.within c.in_ok-holes.ensures.exact in
    let below : end_of c.loop-rest.end ns < 2 ^ 64 = omega arith in
    let shorter : length c.in_ok-holes.after.now < length c.loop-rest.rest.now = omega (arith, c.in_ok-holes.ensures.shorter) in
    let sum : end_of c.loop-rest.end ns ≡ c.from.result + c.from-in-loop-rest.result + 2 + c.from-in-loop-rest-2.result = omega arith in
    record {
      small = omega arith;
      within = omega (arith, shorter, c.loop-rest.invariant.within);
      fits = read.fits;
      same = c.loop-rest.invariant.same
          ∙ (walk_goes c.args.size c.loop-rest.end ns c.loop-rest.rest.now c.in_ok-holes.after.now some c.in_ok-holes.ensures.exact below read.fits shorter c.loop-rest.invariant.within
          ∙ ap (λ (n : ℕ). pairs_then c.args.size n c.in_ok-holes.after.now) sum);
    }

pub returns : goal.returns
returns c =
    c.loop-rest.invariant.same ∙ (ap (pairs_then c.args.size c.loop-rest.end) (is_empty c.loop-rest.rest.now c.is_empty.result c.is_empty.ensures c.loop-rest-test.false) ∙ walk_ends c.args.size c.loop-rest.end)
