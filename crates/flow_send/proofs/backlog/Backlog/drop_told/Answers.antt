use Rattle.std.proofs.Common.{◌≡◌, ◌+◌, ◌||◌, ◌==◌, not, List, length, Some, refl, sym, ap, ◌∙◌, subst}
use Rattle.std.specs.List.{filter}
use Rattle.flow_send.specs.declared.waiting.Waiting.{Waiting}
use Rattle.flow_send.specs.Rows.{Roomy}
use Rattle.flow_send.specs.Steady.{Line}
use Rattle.flow_send.specs.Messages.{InLine, IsFirstFrom, Reaches, keeps, is_left}
use Rattle.flow_send.proofs.Keeping.{line_filter}
use Rattle.flow_send.proofs.Walking.{walk_begins, walk_step, goes_left, in_line}
use Rattle.flow_send.proofs.backlog.Backlog.drop_told.Goals as goal

pub reaching-next-requires : goal.reaching-next-requires
reaching-next-requires c = subst (InLine 0) (sym c.self.view_is) (in_line 0 (c.args.forward + 1 + length c.args.rows.now.rows) c.args.self.now c.requires)

pub loop-next-init : goal.loop-next-init
loop-next-init c = record {
  left = sym (walk_begins (c.args.forward + 1) c.args.rows.now.rows c.args.low c.args.high c.args.self.now c.reaching-next.result (subst (λ (ws : List Waiting). Reaches c.args.low ws c.reaching-next.result) c.self.view_is c.reaching-next.ensures));
  same = refl;
}

pub drop_unless_kept-requires : goal.drop_unless_kept-requires
drop_unless_kept-requires c =
    let n = c.args.forward + 1 in
    let rows = c.args.rows.now.rows in
    let v = c.loop-next.invariant in
    subst (λ (q : Roomy). Line 0 (n + length q.rows) c.loop-next.self) (sym v.same) (subst (Line 0 (n + length rows)) (sym v.left) (line_filter 0 (n + length rows) (λ (y : Waiting). is_left c.loop-next.next y || keeps n rows c.args.low c.args.high y) c.args.self.now c.requires))

pub loop-next-preserved : goal.loop-next-preserved
loop-next-preserved c =
    let n = c.args.forward + 1 in
    let rows = c.args.rows.now.rows in
    let old = c.args.self.now in
    let f = c.in-Some.number in
    let test = keeps n rows c.args.low c.args.high in
    let new = c.drop_unless_kept.new.self in
    let v = c.loop-next.invariant in
    let now : c.loop-next.self ≡ filter (λ (y : Waiting). is_left (Some f) y || test y) old = v.left ∙ ap (λ o. filter (λ (y : Waiting). is_left o y || test y) old) c.in-Some.is in
    let step = c.drop_unless_kept.ensures.left ∙ (ap (λ (q : Roomy). filter (λ y. not (y.number == f) || keeps n q.rows c.args.low c.args.high y) c.loop-next.self) v.same ∙ ap (λ (zs : List Waiting). filter (λ y. not (y.number == f) || test y) zs) now) in
    let line = line_filter 0 (n + length rows) (λ y. not (y.number == f) || test y) (filter (λ (y : Waiting). is_left (Some f) y || test y) old) (line_filter 0 (n + length rows) (λ (y : Waiting). is_left (Some f) y || test y) old c.requires) in
    let order : InLine 0 new = subst (InLine 0) (sym step) (in_line 0 (n + length rows) (filter (λ y. not (y.number == f) || test y) (filter (λ (y : Waiting). is_left (Some f) y || test y) old)) line) in
    record {
      left = step ∙ walk_step f test old c.after-next.result (goes_left f test old new c.after-next.result (in_line 0 (n + length rows) old c.requires) order step (subst (λ (ws : List Waiting). IsFirstFrom (f + 1) ws c.after-next.result) c.self-in-Some.view_is c.after-next.ensures));
      same = c.drop_unless_kept.ensures.same ∙ v.same;
    }
