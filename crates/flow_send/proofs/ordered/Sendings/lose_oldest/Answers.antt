use Rattle.std.proofs.Common.{◌≡◌, ◌+◌, ◌∷◌, ◌||◌, ℕ, List, map, ap, sym, ◌∙◌, subst, refl, arith, rules}
use Rattle.std.specs.List.{list_any}
use Rattle.flow_send.specs.Rows.{Row, map_rows}
use Rattle.flow_send.specs.Sender.{is_late, lost_if_late}
use Rattle.flow_send.specs.Ordered.{Ordered, IsComplete, lose_one}
use Rattle.flow_send.proofs.Losing.{map_one, any_one, any_next, complete_next, front_after, none_after, none_left, walk_done}
use Rattle.flow_send.proofs.ordered.Sendings.lose_oldest.Goals as goal

pub loop-number-init : goal.loop-number-init
loop-number-init c = record {
  complete = subst (λ (o : Ordered). IsComplete o.queue (c.args.forward + 1) c.args.rows.now.rows) (sym c.self.view_is) c.requires;
  same = refl;
  late = refl;
  room = refl;
}

pub loop-number-preserved : goal.loop-number-preserved
loop-number-preserved c =
    let n = c.args.forward + 1 in
    let m = c.args.moment in
    let d = c.args.resend_after in
    let e : ℕ × ℕ × ℕ = (c.in-Some.field-0-0, c.in-Some.number, c.in-Some.at) in
    let rows = c.loop-number.rows.rows in
    let new = c.lose_number-late.new.rows.rows in
    let f = c.lose_number-late.ensures.rows in
    record {
      complete = complete_next m d n e c.loop-number.self-inside.queue.items c.pop_front.new.self.items rows new q (omega (arith, c.if-from.false, c.from.ensures, c.from-in-Some.ensures, c.from-in-Some-2.ensures)) f c.loop-number.invariant.complete;
      same = ap (λ (xs : List Row). map (lost_if_late m d) xs) f ∙ (map_one m d c.in-Some.number n rows ∙ c.loop-number.invariant.same);
      late = any_next c.loop-number.late c.lose_number-late.result _ (list_any (is_late m d) rows) (list_any (is_late m d) new) c.loop-number.invariant.late
          (any_one m d c.in-Some.number n rows ∙ (ap (λ b. b || list_any (is_late m d) (map_rows (lose_one m d c.in-Some.number) n rows)) (sym c.lose_number-late.ensures.late) ∙ ap (λ (xs : List Row). c.lose_number-late.result || list_any (is_late m d) xs) (sym f)));
      room = c.lose_number-late.ensures.room ∙ c.loop-number.invariant.room;
    }
  where
    q : c.loop-number.self-inside.queue.items ≡ (c.in-Some.field-0-0, c.in-Some.number, c.in-Some.at) ∷ c.pop_front.new.self.items
    q = search rules

done : (c : goal.Then-from) → (c.loop-number.rows.rows ≡ map (lost_if_late c.args.moment c.args.resend_after) c.args.rows.now.rows) × (c.loop-number.late ≡ list_any (is_late c.args.moment c.args.resend_after) c.args.rows.now.rows)
done c =
    let q = c.loop-number.self-inside.queue.items in
    let m = c.args.moment in
    let d = c.args.resend_after in
    let front = sym c.in-Some.is ∙ c.oldest.ensures in
    let after = front_after m d (c.in-Some.field-0-0, c.in-Some.number, c.in-Some.at) q front c.loop-number.invariant.complete.moments (omega (arith, c.if-from.true, c.from.ensures, c.from-in-Some.ensures, c.from-in-Some-2.ensures)) in
    walk_done m d c.args.rows.now.rows c.loop-number.rows.rows c.loop-number.late (none_left m d (c.args.forward + 1) q c.loop-number.rows.rows after c.loop-number.invariant.complete.there) c.loop-number.invariant.same c.loop-number.invariant.late

pub returns-then-from-clause-rows : goal.returns-then-from-clause-rows
returns-then-from-clause-rows c = (done c).0

pub returns-then-from-clause-late : goal.returns-then-from-clause-late
returns-then-from-clause-late c = (done c).1

end : (c : goal.In_default) → (c.loop-number.rows.rows ≡ map (lost_if_late c.args.moment c.args.resend_after) c.args.rows.now.rows) × (c.loop-number.late ≡ list_any (is_late c.args.moment c.args.resend_after) c.args.rows.now.rows)
end c =
    let q = c.loop-number.self-inside.queue.items in
    let m = c.args.moment in
    let d = c.args.resend_after in
    let front = sym c.in_default.is ∙ c.oldest.ensures in
    walk_done m d c.args.rows.now.rows c.loop-number.rows.rows c.loop-number.late (none_left m d (c.args.forward + 1) q c.loop-number.rows.rows (none_after m d q front) c.loop-number.invariant.complete.there) c.loop-number.invariant.same c.loop-number.invariant.late

pub returns-clause-rows : goal.returns-clause-rows
returns-clause-rows c = (end c).0

pub returns-clause-late : goal.returns-clause-late
returns-clause-late c = (end c).1
