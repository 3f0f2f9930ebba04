use Rattle.std.proofs.Common.{◌≡◌, ◌+◌, ◌∷◌, refl, rules}
use Rattle.flow_send.proofs.Orders.{pruned, anew, none_pruned}
use Rattle.flow_send.proofs.ordered.Sendings.prune.Goals as goal

pub loop-sent-preserved : goal.loop-sent-preserved
loop-sent-preserved c f =
    pruned (record { whole = c.loop-sent.self-inside.whole; queue = c.loop-sent.self-inside.queue.items; room = 0 }) (record { whole = c.loop-sent.self-inside.whole; queue = c.pop_front.new.self.items; room = 0 }) (c.in-Some.sent, c.in-Some.number, c.in-Some.field-0-2) (c.args.forward + 1) c.args.rows.now.rows
    refl q (c.is_last.ensures.other c.if-is_last.false c.in-Some.field-0-2) (c.loop-sent.invariant f)
  where
    q : c.loop-sent.self-inside.queue.items ≡ (c.in-Some.sent, c.in-Some.number, c.in-Some.field-0-2) ∷ c.pop_front.new.self.items
    q = search rules

pub returns-then-not-any_flying-clause-follows : goal.returns-then-not-any_flying-clause-follows
returns-then-not-any_flying-clause-follows c = λ f whole.
    anew c.begin_anew.new.self.queue c.any_flying.result (c.args.forward + 1) c.args.rows.now.rows c.begin_anew.ensures.queue c.any_flying.ensures c.if-not-any_flying.true

pub returns-then-not-any_flying-clause-front : goal.returns-then-not-any_flying-clause-front
returns-then-not-any_flying-clause-front c = none_pruned c.begin_anew.new.self.queue (c.args.forward + 1) c.args.rows.now.rows c.begin_anew.ensures.queue
