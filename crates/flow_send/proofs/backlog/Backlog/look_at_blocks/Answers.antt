use Rattle.std.specs.Prelude.{IfSome}
use Rattle.std.proofs.Common.{◌+◌, ◌<◌, ◌^◌, length, None, sym, ◌∙◌, subst, arith}
use Rattle.flow_send.specs.Lows.{AreLows, IsFoundIn}
use Rattle.flow_send.proofs.Walking.{in_line}
use Rattle.flow_send.proofs.Lowest.{Passed, few_of, pass_first, pass_next, first_none, found_first, not_some}
use Rattle.flow_send.proofs.backlog.Backlog.look_at_blocks.Goals as goal

pub loop-next-init : goal.loop-next-init
loop-next-init c =
    let i = c.self.inside in
    let ws = c.args.self.now in
    record {
      few = few_of i.lows c.args.marks.now c.blocks-from.result.0 c.blocks-from.result.1 c.args.moment c.first_block-next.result c.blocks-from.ensures.few c.first_block-next.ensures;
      passed = pass_first c.args.moment (c.args.forward + 1) c.args.rows.now.rows i.lows c.args.marks.now ws c.blocks-from.result.0 c.blocks-from.result.1 c.first_block-next.result (subst (AreLows i.lows) c.self.view_is c.self.invariant.3) c.requires.covers c.blocks-from.ensures.within c.first_block-next.ensures;
    }

pub loop-next-preserved : goal.loop-next-preserved
loop-next-preserved c =
    let i = c.self.inside in
    let ws = c.args.self.now in
    let n = c.args.forward + 1 in
    let rows = c.args.rows.now.rows in
    let b = c.in-Some.block in
    record {
      few = few_of i.lows c.args.marks.now (b + 1) c.blocks-from.result.1 c.args.moment c.first_block-next-in-Some.result c.blocks-from.ensures.few c.first_block-next-in-Some.ensures;
      passed = pass_next c.args.moment n rows i.lows c.args.marks.now ws c.blocks-from.result.0 c.blocks-from.result.1 b c.first_block-next-in-Some.result (subst (AreLows i.lows) c.self.view_is c.self.invariant.3) c.requires.covers c.blocks-from.ensures.within
          (subst (Passed c.args.moment n rows ws) c.in-Some.is c.loop-next.invariant.passed)
          (subst (IsFoundIn c.args.moment n rows b ws) (not_some c.look_in-found.result (sym c.is_some.ensures ∙ c.if-is_some.false)) c.look_in-found.ensures) c.first_block-next-in-Some.ensures;
    }

pub returns-then-is_some : goal.returns-then-is_some
returns-then-is_some c =
    let ws = c.args.self.now in
    let n = c.args.forward + 1 in
    let rows = c.args.rows.now.rows in
    found_first c.args.moment n c.in-Some.block rows ws c.look_in-found.result (in_line 0 (n + length rows) ws c.requires.line) (sym c.is_some.ensures ∙ c.if-is_some.true) c.look_in-found.ensures (subst (Passed c.args.moment n rows ws) c.in-Some.is c.loop-next.invariant.passed)

pub returns : goal.returns
returns c =
    let ws = c.args.self.now in
    let n = c.args.forward + 1 in
    let rows = c.args.rows.now.rows in
    let all : Passed c.args.moment n rows ws None = subst (Passed c.args.moment n rows ws) c.in_default.is c.loop-next.invariant.passed in
    sym (first_none c.args.moment n rows ws (λ w i. all w i tt))

pub overflow_add-block : goal.overflow_add-block
overflow_add-block c =
    let few = subst (λ o. IfSome o (λ g. g < 2 ^ 60)) c.in-Some.is c.loop-next.invariant.few in
    omega (arith, few)
