use Rattle.std.proofs.Common.{List, ap, sym, ◌∙◌, subst}
use Rattle.flow_send.specs.declared.waiting.Waiting.{Waiting}
use Rattle.flow_send.specs.Sender.{message_at}
use Rattle.flow_send.specs.Messages.{Reaches}
use Rattle.flow_send.specs.Marks.{marked_at}
use Rattle.flow_send.proofs.Marking.{none_noted, one_noted}
use Rattle.flow_send.proofs.backlog.Backlog.mark.Goals as goal

pub returns-in_default-clause-noted : goal.returns-in_default-clause-noted
returns-in_default-clause-noted c =
    let r = subst (λ (ws : List Waiting). Reaches c.args.number ws c.reaching.result) c.self.view_is c.reaching.ensures in
    none_noted c.args.marks.now c.args.self.now c.args.number c.args.resends (subst (Reaches c.args.number c.args.self.now) c.in_default.is r)

pub returns-then-is_reached-clause-noted : goal.returns-then-is_reached-clause-noted
returns-then-is_reached-clause-noted c =
    let at = ap (message_at c.in-Some.first) (sym c.self.view_is) ∙ (sym c.at.ensures ∙ c.in-Some-at.is) in
    one_noted c.mark.new.self c.args.self.now c.args.number c.args.resends c.in-Some.first c.in-Some-at.message c.requires at (sym c.touches.ensures ∙ c.if-touches.true) (λ s. ap (marked_at c.mark.new.self) (sym c.block_of.ensures) ∙ c.mark.ensures.own)

pub returns-else-is_reached-clause-noted : goal.returns-else-is_reached-clause-noted
returns-else-is_reached-clause-noted c =
    let at = ap (message_at c.in-Some.first) (sym c.self.view_is) ∙ (sym c.at.ensures ∙ c.in-Some-at.is) in
    one_noted c.args.marks.now c.args.self.now c.args.number c.args.resends c.in-Some.first c.in-Some-at.message c.requires at (sym c.touches.ensures ∙ c.if-touches.true) (λ s. let n = sym c.is_reached.ensures ∙ c.if-is_reached.false in absurd cc)
