use Rattle.std.proofs.Common.{◌≡◌, ℕ, ◌+◌, max, cond, List, [], ◌∷◌, length, ap, ◌∙◌, arith}
use Rattle.flow_send.specs.Rows.{Row, map_rows}
use Rattle.flow_send.specs.Acks.{in_span, acknowledge_row, greatest}
use Rattle.flow_send.proofs.Numbered.{map_length}
use Rattle.flow_send.proofs.Tellings.{acknowledge_by, last_by, first_rows, first_most, next_rows, next_most, end_rows, end_most, greatest_least, greatest_rises, greatest_next}
use Rattle.flow_send.proofs.acking.acknowledge.Goals as goal

pub acknowledge_span-ordinal-requires : goal.acknowledge_span-ordinal-requires
acknowledge_span-ordinal-requires c = omega (arith, greatest_least c.args.upto c.args.spans.now, c.requires)

pub loop-first-init : goal.loop-first-init
loop-first-init c =
    let n = c.args.forward + 1 in
    let rows = c.args.rows.now.rows in
    let once = c.acknowledge_span-ordinal.new.rows.rows in
    let e = c.acknowledge_span-ordinal.ensures.rows in
    let l = c.iter-left.ensures in
    let len = ap (λ (xs : List Row). length xs) e in
    let one = map_length (λ k r. cond (in_span k (0, c.args.upto)) (acknowledge_row r) r) n rows in
    record {
      rows = ap (λ (xs : List (ℕ × ℕ)). map_rows (acknowledge_by xs) n once) l ∙ first_rows c.args.upto c.args.spans.now n rows once e;
      ordinal = ap (λ (xs : List (ℕ × ℕ)). max c.acknowledge_span-ordinal.result (last_by xs n once)) l ∙ first_most c.args.upto c.args.spans.now n c.acknowledge_span-ordinal.result rows once e c.acknowledge_span-ordinal.ensures.ordinal;
      room = c.acknowledge_span-ordinal.ensures.room;
      inside = omega (arith, ap (λ (xs : List (ℕ × ℕ)). greatest 0 xs) l, greatest_rises 0 c.args.upto c.args.spans.now (omega arith), c.requires, len, one);
    }

pub acknowledge_span-more-requires : goal.acknowledge_span-more-requires
acknowledge_span-more-requires c =
    let e : c.loop-first.left ≡ (c.in-Some.first, c.in-Some.last) ∷ c.next.new.self = c.in-Some.ensures.steps in
    (greatest_next c.loop-first.left c.next.new.self (c.in-Some.first, c.in-Some.last) (c.args.forward + 1 + length c.loop-first.rows.rows) e c.loop-first.invariant.inside).0

pub loop-first-preserved : goal.loop-first-preserved
loop-first-preserved c =
    let n = c.args.forward + 1 in
    let p : ℕ × ℕ = (c.in-Some.first, c.in-Some.last) in
    let left = c.loop-first.left in
    let later = c.next.new.self in
    let rows = c.loop-first.rows.rows in
    let once = c.acknowledge_span-more.new.rows.rows in
    let e : left ≡ p ∷ later = c.in-Some.ensures.steps in
    let f = c.acknowledge_span-more.ensures.rows in
    let g = greatest_next left later p (n + length rows) e c.loop-first.invariant.inside in
    let len = ap (λ (xs : List Row). length xs) f in
    let one = map_length (λ k r. cond (in_span k p) (acknowledge_row r) r) n rows in
    let m = next_most left later p n c.loop-first.ordinal c.acknowledge_span-more.result _ rows once e f c.acknowledge_span-more.ensures.ordinal c.loop-first.invariant.ordinal in
    record {
      rows = next_rows left later p n rows once _ e f c.loop-first.invariant.rows;
      ordinal = ap (λ i. max i (last_by later n once)) c.max-ordinal.ensures ∙ m;
      room = c.acknowledge_span-more.ensures.room ∙ c.loop-first.invariant.room;
      inside = omega (arith, g.1, len, one);
    }

pub returns-clause-rows : goal.returns-clause-rows
returns-clause-rows c =
    let e : c.loop-first.left ≡ [] = c.in_default.ensures.steps.0 in
    end_rows c.loop-first.left (c.args.forward + 1) c.loop-first.rows.rows _ e c.loop-first.invariant.rows

pub returns-clause-ordinal : goal.returns-clause-ordinal
returns-clause-ordinal c =
    let e : c.loop-first.left ≡ [] = c.in_default.ensures.steps.0 in
    end_most c.loop-first.left (c.args.forward + 1) c.loop-first.ordinal _ c.loop-first.rows.rows e c.loop-first.invariant.ordinal
