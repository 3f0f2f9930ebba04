use Rattle.std.proofs.Common.{◌≡◌, ◌+◌, List, length, drop, Some, ap, sym, ◌∙◌, subst, arith}
use Rattle.flow_send.specs.Rows.{Row, settled_front, map_rows}
use Rattle.flow_send.specs.Sender.{sender_of, message_at, without_message, give_up}
use Rattle.flow_send.specs.Steady.{Steady, end_of}
use Rattle.flow_send.proofs.Ends.{inside_rows, next_small, settle_eq}
use Rattle.flow_send.proofs.Keeping.{line_inside_at, front_fits}
use Rattle.flow_send.proofs.Numbered.{map_length}
use Rattle.flow_send.proofs.Steadies.{steady_abandoned}
use Rattle.flow_send.proofs.Followed.{given}
use Rattle.flow_send.proofs.Keepings.{given_marks}
use Rattle.flow_send.proofs.sender.FlowSender.give_up.Goals as goal

pub give_up-requires : goal.give_up-requires
give_up-requires c =
    let i = c.self.inside in
    let s = sender_of i.forward i.rows.rows i.waiting i.finish i.sent i.upto i.told i.notice i.order in
    let steady : Steady s = c.self.invariant.0 in
    let e : message_at c.args.seq i.waiting ≡ Some c.in-Some.message = sym c.in-Some.ensures in
    let l = line_inside_at 0 (end_of s) c.args.seq c.in-Some.message i.waiting steady.line e in
    omega (arith, l.2, inside_rows s steady)

pub overflow_add-self : goal.overflow_add-self
overflow_add-self c =
    let i = c.self.inside in
    let s = sender_of i.forward i.rows.rows i.waiting i.finish i.sent i.upto i.told i.notice i.order in
    let steady : Steady s = c.self.invariant.0 in
    omega (arith, c.settle.ensures.count, front_fits c.give_up.new.rows.rows, ap (λ (xs : List Row). length xs) c.give_up.ensures.rows, map_length (give_up c.in-Some.message) (i.forward + 1) i.rows.rows, next_small s steady)

pub invariant_of-self : goal.invariant_of-self
invariant_of-self c =
    let i = c.self.inside in
    let s = sender_of i.forward i.rows.rows i.waiting i.finish i.sent i.upto i.told i.notice i.order in
    let steady : Steady s = c.self.invariant.0 in
    let w = c.in-Some.message in
    let e : message_at c.args.seq i.waiting ≡ Some w = sym c.in-Some.ensures in
    let rows = map_rows (give_up w) (i.forward + 1) i.rows.rows in
    let give = c.give_up.ensures.rows in
    let is = settle_eq s rows (without_message c.args.seq i.waiting) (i.forward + c.settle.result) c.settle.new.self.rows c.remove.new.self
    (ap (λ x. i.forward + x) (c.settle.ensures.count ∙ ap (λ (xs : List Row). settled_front xs) give))
    (c.settle.ensures.rows ∙ ap (λ (xs : List Row). drop (settled_front xs) xs) give) c.remove.ensures in (
      subst Steady (sym is) (steady_abandoned s c.args.seq (Some w) e steady),
      c.self.invariant.1,
      λ none. let a = c.self.invariant.2 none in omega (arith, a, c.give_up.ensures.room, c.settle.ensures.room),
      c.prune.ensures.follows (given i.sendings w i.forward c.settle.result i.rows.rows c.give_up.new.rows.rows c.settle.new.self.rows give c.settle.ensures.count c.settle.ensures.rows c.self.invariant.3),
      given_marks i.marks i.waiting c.remove.new.self c.args.seq w i.forward c.settle.result i.rows.rows c.give_up.new.rows.rows c.settle.new.self.rows c.remove.ensures give c.settle.ensures.count c.settle.ensures.rows c.self.invariant.4,
    )
