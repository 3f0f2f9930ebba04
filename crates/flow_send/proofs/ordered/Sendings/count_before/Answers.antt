use Rattle.std.proofs.Common.{◌≡◌, ℕ, ◌+◌, ◌<◌, ◌≤◌, List, ◌∷◌, length, drop, refl, ap, sym, ◌∙◌, subst, arith}
use Rattle.std.specs.Prelude.{slice_index_or}
use Rattle.flow_send.specs.Rows.{Row, map_rows}
use Rattle.flow_send.specs.Ordered.{Ordered, count_one, count_before}
use Rattle.flow_send.proofs.Numbered.{map_length}
use Rattle.flow_send.proofs.Orders.{Walks, none_before, walk_begins, walk_goes, one_more, all_counted, counted_rows, head_least, drop_here, drop_end, any_index, after_index, after_next}
use Rattle.flow_send.proofs.ordered.Sendings.count_before.Goals as goal

pub loop-index-init : goal.loop-index-init
loop-index-init c = record { rows = none_before (c.args.forward + 1 + c.args.to) c.args.ordinal (c.args.forward + 1) c.args.rows.now.rows; room = refl; most = omega arith; walks = walk_begins c.args.self.now.queue c.requires.complete.rising }

pub count_sending-requires : goal.count_sending-requires
count_sending-requires c =
    let q = c.args.self.now.queue in
    let m = map_length (count_before (c.args.forward + 1 + c.args.to) c.args.ordinal (after_index q c.loop-index.index)) (c.args.forward + 1) c.args.rows.now.rows in
    omega (arith, c.requires.inside, ap (λ (xs : List Row). length xs) c.loop-index.invariant.rows, m)

pub loop-index-preserved : goal.loop-index-preserved
loop-index-preserved c =
    let q = c.args.self.now.queue in
    let at = c.loop-index.index in
    let n = c.args.forward + 1 in
    let end = c.args.forward + 1 + c.args.to in
    let e = slice_index_or q at (0, 0, 0) in
    let x = c.index-in-loop-index.result.now in
    let lt : at < length q = omega (arith, c.loop-index-test.true, c.len.ensures, c.self.inside.queue.ok, ap (λ (o : Ordered). length o.queue) c.self.view_is) in
    let is : x ≡ e = c.index-in-loop-index.ensures ∙ (ap (λ (o : Ordered). slice_index_or o.queue at x) c.self.view_is ∙ any_index q at x (0, 0, 0) lt) in
    let y = c.index.result.now in
    let was : y ≡ e = c.index.ensures ∙ (ap (λ (o : Ordered). slice_index_or o.queue at y) c.self.view_is ∙ any_index q at y (0, 0, 0) lt) in
    let low : e.0 < c.args.ordinal = let z = ap (λ (p : ℕ × ℕ × ℕ). p.0) was in omega (arith, c.if-index-ordinal.true, z) in
    let w : Walks q (e ∷ drop (at + 1) q) (after_index q at) = subst (λ (l : List (ℕ × ℕ × ℕ)). Walks q l (after_index q at)) (drop_here q at lt) c.loop-index.invariant.walks in
    let next = after_next q at in
    let rows : c.count_sending.new.rows.rows ≡ map_rows (count_before end c.args.ordinal (e.0 + 1)) n c.args.rows.now.rows =
    c.count_sending.ensures.rows
    ∙ (ap (λ (p : ℕ × ℕ × ℕ). map_rows (count_one end c.args.ordinal p.0 p.1) n c.loop-index.rows.rows) is
    ∙ (ap (λ (rs : List Row). map_rows (count_one end c.args.ordinal e.0 e.1) n rs) c.loop-index.invariant.rows
    ∙ one_more q (drop (at + 1) q) end c.args.ordinal (after_index q at) e.0 e.1 e.2 n c.args.rows.now.rows c.requires.complete.there w)) in
    record {
      rows = rows ∙ ap (λ b. map_rows (count_before end c.args.ordinal b) n c.args.rows.now.rows) (sym next);
      room = c.count_sending.ensures.room ∙ c.loop-index.invariant.room;
      most = omega (arith, next, low);
      walks = subst (λ (b : ℕ). Walks q (drop (at + 1) q) b) (sym next) (walk_goes q (drop (at + 1) q) (after_index q at) e w);
    }

pub returns-else-index-ordinal-clause-rows : goal.returns-else-index-ordinal-clause-rows
returns-else-index-ordinal-clause-rows c =
    let q = c.args.self.now.queue in
    let at = c.loop-index.index in
    let n = c.args.forward + 1 in
    let end = c.args.forward + 1 + c.args.to in
    let e = slice_index_or q at (0, 0, 0) in
    let lt : at < length q = omega (arith, c.loop-index-test.true, c.len.ensures, c.self.inside.queue.ok, ap (λ (o : Ordered). length o.queue) c.self.view_is) in
    let y = c.index.result.now in
    let was : y ≡ e = c.index.ensures ∙ (ap (λ (o : Ordered). slice_index_or o.queue at y) c.self.view_is ∙ any_index q at y (0, 0, 0) lt) in
    let high : c.args.ordinal ≤ e.0 = let z = ap (λ (p : ℕ × ℕ × ℕ). p.0) was in omega (arith, c.if-index-ordinal.false, z) in
    let w : Walks q (e ∷ drop (at + 1) q) (after_index q at) = subst (λ (l : List (ℕ × ℕ × ℕ)). Walks q l (after_index q at)) (drop_here q at lt) c.loop-index.invariant.walks in
    counted_rows n c.args.to c.args.ordinal c.args.rows.now.rows c.loop-index.rows.rows
    (c.loop-index.invariant.rows ∙ all_counted q (e ∷ drop (at + 1) q) end c.args.ordinal (after_index q at) n c.args.rows.now.rows c.requires.complete.there w c.loop-index.invariant.most (head_least (drop (at + 1) q) e c.args.ordinal w.rising high))

pub returns-after-loop-index-clause-rows : goal.returns-after-loop-index-clause-rows
returns-after-loop-index-clause-rows c =
    let q = c.args.self.now.queue in
    let at = c.loop-index.index in
    let n = c.args.forward + 1 in
    let end = c.args.forward + 1 + c.args.to in
    let le : length q ≤ at = omega (arith, c.loop-index-test.false, c.len.ensures, c.self.inside.queue.ok, ap (λ (o : Ordered). length o.queue) c.self.view_is) in
    counted_rows n c.args.to c.args.ordinal c.args.rows.now.rows c.loop-index.rows.rows
    (c.loop-index.invariant.rows ∙ all_counted q (drop at q) end c.args.ordinal (after_index q at) n c.args.rows.now.rows c.requires.complete.there c.loop-index.invariant.walks c.loop-index.invariant.most (λ x i. absurd (drop_end q at le x i)))
