use Rattle.std.proofs.Common.{◌≡◌, ◌+◌, ◌∷◌, [], ℕ, List, length, sym, ap, ◌∙◌, subst, refl}
use Rattle.std.specs.List.{filter}
use Rattle.flow_send.specs.Rows.{Roomy}
use Rattle.flow_send.specs.Steady.{Line}
use Rattle.flow_send.specs.Messages.{keeps}
use Rattle.flow_send.proofs.Keeping.{line_filter}
use Rattle.flow_send.proofs.Walking.{passes, next_span, last_span, all_spans}
use Rattle.flow_send.proofs.backlog.Backlog.drop_done.Goals as goal

pub loop-first-init : goal.loop-first-init
loop-first-init c =
    let n = c.args.forward + 1 in
    let rows = c.args.rows.now.rows in
    let ws = c.args.self.now in
    let spans = c.args.spans.now in
    let once = c.drop_upto.new.self in
    record {
      kept = ap (λ (ps : List (ℕ × ℕ)). filter (passes n rows ps) once) c.iter-left.ensures ∙ next_span n rows 0 c.args.upto ((0, c.args.upto) ∷ spans) spans ws once _ refl c.drop_upto.ensures.left (all_spans n rows ((0, c.args.upto) ∷ spans) ws c.requires.others);
      line = subst (Line 0 (n + length rows)) (sym c.drop_upto.ensures.left) (line_filter 0 (n + length rows) (keeps n rows 0 c.args.upto) ws c.requires.inside);
      same = c.drop_upto.ensures.same;
    }

pub drop_told-requires : goal.drop_told-requires
drop_told-requires c =
    let v = c.loop-first.invariant in
    subst (λ (q : Roomy). Line 0 (c.args.forward + 1 + length q.rows) c.loop-first.self) (sym v.same) v.line

pub loop-first-preserved : goal.loop-first-preserved
loop-first-preserved c =
    let n = c.args.forward + 1 in
    let rows = c.args.rows.now.rows in
    let e : c.loop-first.left ≡ (c.in-Some.first, c.in-Some.last) ∷ c.next.new.self = c.in-Some.ensures.steps in
    let v = c.loop-first.invariant in
    let told = c.drop_told.ensures.left ∙ ap (λ (q : Roomy). filter (keeps n q.rows c.in-Some.first c.in-Some.last) c.loop-first.self) v.same in
    record {
      kept = next_span n rows c.in-Some.first c.in-Some.last c.loop-first.left c.next.new.self c.loop-first.self c.drop_told.new.self _ e told v.kept;
      line = subst (Line 0 (n + length rows)) (sym told) (line_filter 0 (n + length rows) (keeps n rows c.in-Some.first c.in-Some.last) c.loop-first.self v.line);
      same = c.drop_told.ensures.same ∙ v.same;
    }

pub returns-clause-left : goal.returns-clause-left
returns-clause-left c =
    let e : c.loop-first.left ≡ [] = c.in_default.ensures.steps.0 in
    last_span (c.args.forward + 1) c.args.rows.now.rows c.loop-first.left c.loop-first.self _ e c.loop-first.invariant.kept
