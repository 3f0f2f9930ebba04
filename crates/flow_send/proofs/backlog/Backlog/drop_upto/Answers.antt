use Rattle.std.proofs.Common.{◌≡◌, ◌+◌, ◌<◌, ◌≤◌, length, List, Some, sym, ap, ◌∙◌, subst}
use Rattle.std.specs.List.{filter, slice_get}
use Rattle.std.proofs.lemmas.Bool.{ltb-true}
use Rattle.flow_send.specs.declared.waiting.Waiting.{Waiting}
use Rattle.flow_send.specs.Rows.{Roomy}
use Rattle.flow_send.specs.Acks.{still_waits}
use Rattle.flow_send.specs.Steady.{Line}
use Rattle.flow_send.specs.Messages.{keeps}
use Rattle.flow_send.proofs.Keeping.{line_without}
use Rattle.flow_send.proofs.Walking.{line_in}
use Rattle.flow_send.proofs.Foremost.{front_in, all_behind, front_waits, front_gone, front_fewer, none_front}
use Rattle.flow_send.proofs.backlog.Backlog.drop_upto.Goals as goal

pub returns-then-message-upto-clause-left : goal.returns-then-message-upto-clause-left
returns-then-message-upto-clause-left c =
    let n = c.args.forward + 1 in
    let rows = c.args.rows.now.rows in
    let ws = c.loop-message.self in
    let at : slice_get ws 0 ≡ Some c.in-Some.message = sym (c.in-Some.ensures ∙ ap (λ (zs : List Waiting). slice_get zs 0) c.self.view_is) in
    sym (all_behind n rows c.args.upto 0 (n + length rows) ws c.in-Some.message c.loop-message.invariant.line at c.if-message-upto.true) ∙ c.loop-message.invariant.kept

pub waits-requires : goal.waits-requires
waits-requires c =
    let ws = c.loop-message.self in
    let at : slice_get ws 0 ≡ Some c.in-Some.message = sym (c.in-Some.ensures ∙ ap (λ (zs : List Waiting). slice_get zs 0) c.self.view_is) in
    let w = c.in-Some.message in
    subst (λ (q : Roomy). w.number + w.count ≤ c.args.forward + 1 + length q.rows) (sym c.loop-message.invariant.same)
    (line_in 0 (c.args.forward + 1 + length c.args.rows.now.rows) ws w c.loop-message.invariant.line (front_in ws w at))

pub returns-then-passes-clause-left : goal.returns-then-passes-clause-left
returns-then-passes-clause-left c =
    let n = c.args.forward + 1 in
    let rows = c.args.rows.now.rows in
    let ws = c.loop-message.self in
    let w = c.in-Some.message in
    let at : slice_get ws 0 ≡ Some w = sym (c.in-Some.ensures ∙ ap (λ (zs : List Waiting). slice_get zs 0) c.self.view_is) in
    sym (front_waits n rows c.args.upto 0 (n + length rows) ws w c.loop-message.invariant.line at (sym (c.waits.ensures.waits ∙ ap (λ (q : Roomy). still_waits n q.rows w) c.loop-message.invariant.same) ∙ c.if-waits.true) (ltb-true c.args.upto (w.number + w.count) (sym c.passes.ensures ∙ c.if-passes.true))) ∙ c.loop-message.invariant.kept

pub loop-message-smaller : goal.loop-message-smaller
loop-message-smaller c =
    let ws = c.loop-message.self in
    let w = c.in-Some.message in
    let at : slice_get ws 0 ≡ Some w = sym (c.in-Some.ensures ∙ ap (λ (zs : List Waiting). slice_get zs 0) c.self.view_is) in
    subst (λ (zs : List Waiting). length zs < length ws) (sym c.remove.ensures) (front_fewer ws w at)

pub loop-message-preserved : goal.loop-message-preserved
loop-message-preserved c =
    let n = c.args.forward + 1 in
    let rows = c.args.rows.now.rows in
    let ws = c.loop-message.self in
    let w = c.in-Some.message in
    let at : slice_get ws 0 ≡ Some w = sym (c.in-Some.ensures ∙ ap (λ (zs : List Waiting). slice_get zs 0) c.self.view_is) in
    record {
      kept = ap (λ (zs : List Waiting). filter (keeps n rows 0 c.args.upto) zs) c.remove.ensures
          ∙ (front_gone n rows c.args.upto 0 (n + length rows) ws w c.loop-message.invariant.line at c.if-message-upto.false (sym (c.waits.ensures.waits ∙ ap (λ (q : Roomy). still_waits n q.rows w) c.loop-message.invariant.same) ∙ c.if-waits.false) ∙ c.loop-message.invariant.kept);
      line = subst (Line 0 (n + length rows)) (sym c.remove.ensures) (line_without 0 (n + length rows) w.number ws c.loop-message.invariant.line);
      same = c.waits.ensures.same ∙ c.loop-message.invariant.same;
    }

pub returns-clause-left : goal.returns-clause-left
returns-clause-left c =
    let n = c.args.forward + 1 in
    let rows = c.args.rows.now.rows in
    none_front (keeps n rows 0 c.args.upto) c.loop-message.self (c.in_default.ensures ∙ ap (λ (zs : List Waiting). slice_get zs 0) c.self.view_is) ∙ c.loop-message.invariant.kept
